-- What the office does with a modem's read request, and with its acknowledgements.
use Rattle.std.proofs.Common.{◌≡◌, ℕ, zero, suc, ◌+◌, ◌/◌, ◌%◌, ◌<◌, ◌≤◌, Bool, true, false, cond, not, ◌&&◌, ◌||◌, nat_le, eqb, if◌then◌else◌, List, [], ◌∷◌, ◌++◌, length, take, append_assoc, append-nil, slice_index, Option, Some, None, Ok, codes, refl, sym, ap, subst, ◌∙◌, arith, length-append, length-take}
use Rattle.std.proofs.lemmas.Bool.{lt-leb, eq-eqb, or_from, or_parts, ne_eqb}
use Rattle.std.proofs.lemmas.Slice.Eq.{bytes_eq-Decides}
use Rattle.std.proofs.lemmas.Nat.{from_be_bytes-to_be_bytes_2}
use Rattle.std.specs.FinMap as map
use Rattle.std.specs.Int.{w32, to_be_bytes, to_le_bytes}
use Rattle.std.specs.List.{flat_map, AllByRecursion}
use Rattle.std.specs.Ordering.{eq_by_cmp}
use Rattle.std.specs.Str.{bytes_eq}
use Rattle.md5.specs.Md5.{digest_bytes, md5}
use Rattle.hex.specs.Hex.{lower_digits, encode_with, encode_lower}
use Rattle.hex.proofs.HexLemmas.{length-encode_with}
use Rattle.off_mic.specs.Hmac.{hmac}
use Rattle.off_mic.specs.Mic.{Sealed}
use Rattle.off_base.specs.Tree.{Tree}
use Rattle.off_base.specs.Number.{number_read}
use Rattle.off_base.specs.AddressText.{mac_text_of}
use Rattle.off_base.specs.declared.addresses.Ip4.{Ip4}
use Rattle.off_base.specs.declared.macs.Mac.{Mac}
use Rattle.off_defs.proofs.TableLemmas.{own_key}
use Rattle.off_defs.specs.declared.keys.Key.TheVariants as key
use Rattle.off_defs.specs.declared.results.Sent.{Sent}
use Rattle.off_defs.specs.State.{Transfer, peer_cmp}
use Rattle.off_file_rules.specs.Name.{name_of, name_key}
use Rattle.off_file_rules.specs.File.{with_stamps}
use Rattle.off_account_rules.specs.Rows.{passes, site_of}
use Rattle.off_account_rules.specs.Good.{is_mac}
use Rattle.off_table_laws.proofs.Reading.{row_lease}
use Rattle.off_packets.specs.Packets.{Reads, Acknowledges, is_zero, packet_of, only_size}
use Rattle.off_transfer_rules.specs.Requests.{datagram_at, request_for, file_owner}
use Rattle.off_transfer_rules.specs.View.{View, view_by, view, holder, agrees, is_of_subscriber, is_own_name, IsBuiltBy}
use Rattle.off_transfer_rules.specs.Transfers.{Transfers, has_no_room}
use Rattle.off_transfer_rules.specs.Steps.{Way, Denies, Accepts, Finishes, GoesOn, BreaksOff, Ignores, file_not_found, way, way_of, way_of_request, way_anew, way_for_holder, way_of_acknowledgement, has_file, way_of_last, Given, gives, GivesBy, TftpStep, last_to}
use Rattle.off_transfer_rules.specs.declared.words.TftpWord.TheVariants as word
use Rattle.off_transfer_rules.proofs.PeerLemmas.{peer_total, peer_exact, inserted, inserted_here}
use Rattle.off_transfer_laws.specs.Texts.{has_zero, with_zero}
use Rattle.off_transfer_laws.proofs.TextLemmas.{requests_are_read}
use Rattle.off_drill_rules.specs.Rows.{site, modem, mac, address, lease, moment, is_active, drill_tables}
use Rattle.off_drill_rules.specs.Messages.{by_modem, name, behind_name, read_request, acknowledgement}
use Rattle.off_drill_rules.specs.Events.{blocks_of}
use Rattle.off_drill_laws.specs.Stages.{moving, file_size}
use Rattle.off_drill_laws.proofs.RowLemmas.{drill_rows, lease_within, address_within, site_read_at, modem_read}
use Rattle.off_drill_laws.proofs.FileLemmas.{profile, profile_is, size_is, last_is}

-- ---- the view of a modem that has its address

abbrev pub seen : ℕ → View
seen i = record { site = Some site; lease = Some (lease i); modem = Some (modem i); profile = Some (profile (is_active i)) }

pub view_is : (n i : ℕ) → n ≤ 4000 → 1 ≤ i → i ≤ n → view (drill_tables n i) (address i) ≡ seen i
unfolding view
view_is n i few first within =
    let t = drill_tables n i in
    let h = drill_rows n i i few first within in
    ap (view_by t (site_of t (address i))) (row_lease t (address i) (lease i) (lease_within n i i first (omega arith)))
    ∙ (λ j. record { site = site_read_at t i h (address i) (address_within i first (omega (arith, within, few))) j; lease = Some (lease i); modem = modem_read t i h j; profile = profile_is t i h j })

live_now : (i : ℕ) → nat_le (moment i + 86400) (moment i) ≡ false
live_now i = lt-leb (moment i + 86400) (moment i) (omega arith)

holder_is : (i : ℕ) → holder (moment i) (seen i) ≡ Some (mac i)
holder_is i = ap (λ b. cond b None (Some (mac i))) (live_now i)

own_name : (i : ℕ) → bytes_eq (name i) (name i) ≡ true
own_name i = (bytes_eq-Decides (name i) (name i)).1 refl

file_there : (i : ℕ) → has_file (seen i) (address i) (name i) (mac i) ≡ true
file_there i = ap (λ b. b && true) (own_name i)

agrees_is : (i : ℕ) → agrees (seen i) (moment i) (address i) (name i) (file_owner (mac i) i) ≡ true
agrees_is i =
    ap (λ (o : Option Mac). passes (is_mac (mac i)) o && (passes (is_of_subscriber i) (Some (modem i)) && passes (is_own_name (name i) (mac i) (address i)) (Some site))) (holder_is i)
    ∙ ap (λ b. b && (passes (is_of_subscriber i) (Some (modem i)) && passes (is_own_name (name i) (mac i) (address i)) (Some site))) (own_key (key.Modem (mac i)))
    ∙ ap (λ b. b && passes (is_own_name (name i) (mac i) (address i)) (Some site)) (eq-eqb i i refl)
    ∙ own_name i

-- ---- what the packets say

-- a name has no zero byte, since each of its digits is of a byte
abbrev AreBytes : List ℕ → Type 0
AreBytes bytes = AllByRecursion (λ (b : ℕ). b < 256) bytes

bytes_join : (xs ys : List ℕ) → AreBytes xs → AreBytes ys → AreBytes (xs ++ ys)
bytes_join [] ys p q = q
bytes_join (x ∷ xs) ys p q = (p.0, bytes_join xs ys p.1 q)

bytes_taken : (n : ℕ) (xs : List ℕ) → AreBytes xs → AreBytes (take n xs)
bytes_taken zero xs p = tt
bytes_taken (suc n) [] p = tt
bytes_taken (suc n) (x ∷ xs) p = (p.0, bytes_taken n xs p.1)

digest_is_bytes : (h : List ℕ) (n : ℕ) → AreBytes (digest_bytes h n)
unfolding digest_bytes
digest_is_bytes h zero = tt
digest_is_bytes h (suc n) =
    bytes_join (digest_bytes h n) (to_le_bytes w32 (slice_index h n)) (digest_is_bytes h n) (omega arith, (omega arith, (omega arith, (omega arith, tt))))

free_join : (xs ys : List ℕ) → has_zero xs ≡ false → has_zero ys ≡ false → has_zero (xs ++ ys) ≡ false
free_join [] ys a b = b
free_join (x ∷ xs) ys a b = let parts = or_parts (is_zero x) (has_zero xs) a in or_from (is_zero x) (has_zero (xs ++ ys)) parts.0 (free_join xs ys parts.1 b)

digit_free : (n : ℕ) → n < 16 → is_zero (slice_index lower_digits n) ≡ false
digit_free zero few = refl
digit_free (suc zero) few = refl
digit_free (suc (suc zero)) few = refl
digit_free (suc (suc (suc zero))) few = refl
digit_free (suc (suc (suc (suc zero)))) few = refl
digit_free (suc (suc (suc (suc (suc zero))))) few = refl
digit_free (suc (suc (suc (suc (suc (suc zero)))))) few = refl
digit_free (suc (suc (suc (suc (suc (suc (suc zero))))))) few = refl
digit_free (suc (suc (suc (suc (suc (suc (suc (suc zero)))))))) few = refl
digit_free (suc (suc (suc (suc (suc (suc (suc (suc (suc zero))))))))) few = refl
digit_free (suc (suc (suc (suc (suc (suc (suc (suc (suc (suc zero)))))))))) few = refl
digit_free (suc (suc (suc (suc (suc (suc (suc (suc (suc (suc (suc zero))))))))))) few = refl
digit_free (suc (suc (suc (suc (suc (suc (suc (suc (suc (suc (suc (suc zero)))))))))))) few = refl
digit_free (suc (suc (suc (suc (suc (suc (suc (suc (suc (suc (suc (suc (suc zero))))))))))))) few = refl
digit_free (suc (suc (suc (suc (suc (suc (suc (suc (suc (suc (suc (suc (suc (suc zero)))))))))))))) few = refl
digit_free (suc (suc (suc (suc (suc (suc (suc (suc (suc (suc (suc (suc (suc (suc (suc zero))))))))))))))) few = refl
digit_free (suc (suc (suc (suc (suc (suc (suc (suc (suc (suc (suc (suc (suc (suc (suc (suc more)))))))))))))))) few = absurd (omega (arith, few))

digits_free : (xs : List ℕ) → AreBytes xs → has_zero (encode_lower xs) ≡ false
unfolding encode_with
digits_free [] p = refl
digits_free (x ∷ xs) p =
    or_from (is_zero (slice_index lower_digits (x / 16))) (is_zero (slice_index lower_digits (x % 16)) || has_zero (encode_lower xs)) (digit_free (x / 16) (omega (arith, p.0)))
    (or_from (is_zero (slice_index lower_digits (x % 16))) (has_zero (encode_lower xs)) (digit_free (x % 16) (omega arith)) (digits_free xs p.1))

key_bytes : (secret message : List ℕ) → AreBytes (hmac secret message)
unfolding hmac md5
key_bytes secret message = digest_is_bytes _ 4

name_free : (secret : List ℕ) (m : Mac) (ip : Ip4) → AreBytes m.0 → has_zero (name_of secret m ip) ≡ false
unfolding name_of
name_free secret m ip bytes =
    free_join (mac_text_of m.0 ++ codes "-" ++ encode_lower (take 8 (name_key secret m ip))) (codes ".cm")
    (free_join (mac_text_of m.0 ++ codes "-") (encode_lower (take 8 (name_key secret m ip)))
    (free_join (mac_text_of m.0) (codes "-") (digits_free m.0 bytes) refl)
    (digits_free (take 8 (name_key secret m ip)) (bytes_taken 8 (name_key secret m ip) (key_bytes secret (m.0 ++ to_be_bytes w32 ip.0)))))
    refl

own_free : (i : ℕ) → has_zero (name i) ≡ false
own_free i = name_free site.secret (mac i) (address i) (omega arith, (omega arith, (omega arith, (omega arith, (omega arith, (omega arith, tt))))))

length_name : (secret : List ℕ) (m : Mac) (ip : Ip4) → length m.0 ≡ 6 → length (name_of secret m ip) ≤ 40
unfolding name_of
length_name secret m ip six =
    omega (
      arith,
      six,
      length-append (mac_text_of m.0 ++ codes "-" ++ encode_lower (take 8 (name_key secret m ip))) (codes ".cm"),
      length-append (mac_text_of m.0 ++ codes "-") (encode_lower (take 8 (name_key secret m ip))),
      length-append (mac_text_of m.0) (codes "-"),
      length-encode_with lower_digits m.0,
      length-encode_with lower_digits (take 8 (name_key secret m ip)),
      length-take 8 (name_key secret m ip),
    )

pub request_says : (i : ℕ) → packet_of (read_request i) ≡ Ok (Reads (name i) (only_size 44))
unfolding read_request number_read
request_says i =
    let short : length (name i ++ behind_name) ≤ 1498 = omega (arith, length-append (name i) behind_name, length_name site.secret (mac i) (address i) refl) in
    requests_are_read (name i ++ behind_name) (name i ∷ codes "octet" ∷ codes "blksize" ∷ codes "44" ∷ []) (record {
      rest = [];
      whole = sym (append-nil (flat_map with_zero (name i ∷ codes "octet" ∷ codes "blksize" ∷ codes "44" ∷ [])) ∙ append_assoc (name i) (0 ∷ []) (flat_map with_zero (codes "octet" ∷ codes "blksize" ∷ codes "44" ∷ [])));
      texts_free = (own_free i, (refl, (refl, (refl, tt))));
      rest_free = refl;
    }) short

pub acknowledgement_says : (number : ℕ) → number ≤ 3 → packet_of (acknowledgement number) ≡ Ok (Acknowledges number)
unfolding packet_of acknowledgement
acknowledgement_says number few = ap (λ (n : ℕ). Ok (Acknowledges n)) (from_be_bytes-to_be_bytes_2 number (omega (arith, few)))

-- ---- a read request is accepted, and its file built

read_way : (i : ℕ) → way (seen i) map.empty (datagram_at (moment i) (by_modem i) (read_request i)) ≡ Accepts (request_for (name i) (only_size 44)) (file_owner (mac i) i)
unfolding way
read_way i =
    let v = seen i in
    let now = moment i in
    let ip = address i in
    let bytes = read_request i in
    ap (way_of v (datagram_at now (by_modem i) bytes) (has_no_room map.empty) (map.get map.empty (by_modem i))) (request_says i)
    ∙ ap (way_of_request v (datagram_at now (by_modem i) bytes) (has_no_room map.empty) (request_for (name i) (only_size 44))) (map.get-empty peer_cmp (by_modem i))
    ∙ ap (λ (full : Bool). way_anew v now ip full (request_for (name i) (only_size 44))) (ap (nat_le 256) (map.len-empty peer_cmp Transfer))
    ∙ ap (way_for_holder v ip false (request_for (name i) (only_size 44))) (holder_is i)
    ∙ ap (λ b. if not b then Denies file_not_found else Accepts (request_for (name i) (only_size 44)) (file_owner (mac i) i)) (file_there i)

built_size : (i : ℕ) (file : List ℕ) → IsBuiltBy (seen i) (moment i) (address i) file → length file ≡ file_size (is_active i)
built_size i file b =
    let same : Some (profile (is_active i)) ≡ Some b.profile = b.profile_is in
    let own : b.profile ≡ profile (is_active i) = cc in
    size_is file b.site.secret (is_active i) (moment i) (address i)
    (subst (λ (p : List Tree). Sealed file (with_stamps p (moment i) (address i)) b.site.secret) own b.built)

-- the packet that is sent for a transfer on its way
abbrev pub last_of : ℕ → Transfer → List Sent
last_of i x = last_to (by_modem i) x

abbrev pub transfers_with : ℕ → Transfer → Transfers
transfers_with i x = map.insert map.empty (by_modem i) x

pub record Read (i : ℕ) (given : Given) : Type 0 where
  pub file : List ℕ
  pub size : length file ≡ file_size (is_active i)
  pub is : given ≡ gives (transfers_with i (moving i file 0 false)) (last_of i (moving i file 0 false)) word.Oack

read_given : (i : ℕ) (given : Given) → GivesBy (seen i) map.empty (datagram_at (moment i) (by_modem i) (read_request i)) (Accepts (request_for (name i) (only_size 44)) (file_owner (mac i) i)) given → Read i given
read_given i given g = record { file = g.0; size = built_size i g.0 g.1.0; is = g.1.1 }

pub read_is : (n i : ℕ) → n ≤ 4000 → 1 ≤ i → i ≤ n → (given : Given) → TftpStep (drill_tables n i) map.empty (datagram_at (moment i) (by_modem i) (read_request i)) given → Read i given
unfolding TftpStep
read_is n i few first within given step =
    let by_seen : GivesBy (seen i) map.empty (datagram_at (moment i) (by_modem i) (read_request i)) (way (seen i) map.empty (datagram_at (moment i) (by_modem i) (read_request i))) given =
    subst (λ (v : View). GivesBy v map.empty (datagram_at (moment i) (by_modem i) (read_request i)) (way v map.empty (datagram_at (moment i) (by_modem i) (read_request i))) given) (view_is n i few first within) step in
    read_given i given (subst (λ (w : Way). GivesBy (seen i) map.empty (datagram_at (moment i) (by_modem i) (read_request i)) w given) (read_way i) by_seen)

-- ---- an acknowledgement is answered by the next block, or ends the transfer

module _ (i : ℕ) (file : List ℕ) (number : ℕ) (answered : Bool) (size : length file ≡ file_size (is_active i)) (within : number ≤ blocks_of (is_active i)) where
  abbrev x : Transfer
  x = moving i file number answered

  few_blocks : (active : Bool) → number ≤ blocks_of active → number ≤ 3
  few_blocks true w = w
  few_blocks false w = omega (arith, w)

  ack_way : (last : Bool) → eqb number (blocks_of (is_active i)) ≡ last
      → way (seen i) (transfers_with i x) (datagram_at (moment i) (by_modem i) (acknowledgement number)) ≡ (if last then Finishes else GoesOn x)
  unfolding way
  ack_way last is =
      let v = seen i in
      let now = moment i in
      let ip = address i in
      ap (way_of v (datagram_at now (by_modem i) (acknowledgement number)) (has_no_room (transfers_with i x)) (map.get (transfers_with i x) (by_modem i))) (acknowledgement_says number (few_blocks (is_active i) within))
      ∙ ap (way_of_acknowledgement v now ip number) (inserted_here map.empty (by_modem i) x)
      ∙ ap (λ b. if b then way_of_last v now ip x else Ignores) (eq-eqb number number refl)
      ∙ ap (λ b. if b then Finishes else if agrees v now ip (name i) (file_owner (mac i) i) then GoesOn x else BreaksOff) (last_is file (is_active i) number size within ∙ is)
      ∙ ap (λ b. if last then Finishes else if b then GoesOn x else BreaksOff) (agrees_is i)

  ack_given : (n : ℕ) → n ≤ 4000 → 1 ≤ i → i ≤ n → (given : Given) (last : Bool) → eqb number (blocks_of (is_active i)) ≡ last
      → TftpStep (drill_tables n i) (transfers_with i x) (datagram_at (moment i) (by_modem i) (acknowledgement number)) given
      → GivesBy (seen i) (transfers_with i x) (datagram_at (moment i) (by_modem i) (acknowledgement number)) (if last then Finishes else GoesOn x) given
  unfolding TftpStep
  ack_given n few first in_time given last is step =
      let by_seen : GivesBy (seen i) (transfers_with i x) (datagram_at (moment i) (by_modem i) (acknowledgement number))
      (way (seen i) (transfers_with i x) (datagram_at (moment i) (by_modem i) (acknowledgement number))) given =
      subst (λ (v : View). GivesBy v (transfers_with i x) (datagram_at (moment i) (by_modem i) (acknowledgement number)) (way v (transfers_with i x) (datagram_at (moment i) (by_modem i) (acknowledgement number))) given)
      (view_is n i few first in_time) step in
      subst (λ (w : Way). GivesBy (seen i) (transfers_with i x) (datagram_at (moment i) (by_modem i) (acknowledgement number)) w given) (ack_way last is) by_seen

-- one transfer alone, replaced and ended
replaced_by : (b : Bool) (x y : Transfer) (o : Option Transfer) → cond b (Some y) (cond b (Some x) o) ≡ cond b (Some y) o
replaced_by true x y o = refl
replaced_by false x y o = refl

replaced : (i : ℕ) (x y : Transfer) → map.insert (transfers_with i x) (by_modem i) y ≡ transfers_with i y
replaced i x y =
    map.same_map peer_total peer_exact (map.insert (transfers_with i x) (by_modem i) y) (transfers_with i y)
    (λ q. inserted (transfers_with i x) (by_modem i) y q
    ∙ ap (cond (eq_by_cmp peer_cmp q (by_modem i)) (Some y)) (inserted map.empty (by_modem i) x q)
    ∙ replaced_by (eq_by_cmp peer_cmp q (by_modem i)) x y (map.get map.empty q)
    ∙ sym (inserted map.empty (by_modem i) y q))

ended_by : (b : Bool) (x : Transfer) (o : Option Transfer) → o ≡ None → cond b None (cond b (Some x) o) ≡ o
ended_by true x o e = sym e
ended_by false x o e = refl

ended_alone : (i : ℕ) (x : Transfer) → map.remove (transfers_with i x) (by_modem i) ≡ map.empty
ended_alone i x =
    map.same_map peer_total peer_exact (map.remove (transfers_with i x) (by_modem i)) map.empty
    (λ q. map.get-remove peer_total (transfers_with i x) (by_modem i) q
    ∙ ap (cond (eq_by_cmp peer_cmp q (by_modem i)) None) (inserted map.empty (by_modem i) x q)
    ∙ ended_by (eq_by_cmp peer_cmp q (by_modem i)) x (map.get map.empty q) (map.get-empty peer_cmp q))

pub next_is : (n i : ℕ) (file : List ℕ) (number : ℕ) (answered : Bool) → n ≤ 4000 → 1 ≤ i → i ≤ n → length file ≡ file_size (is_active i) → number < blocks_of (is_active i)
    → (given : Given) → TftpStep (drill_tables n i) (transfers_with i (moving i file number answered)) (datagram_at (moment i) (by_modem i) (acknowledgement number)) given
    → given ≡ gives (transfers_with i (moving i file (suc number) true)) (last_of i (moving i file (suc number) true)) (word.Block (suc number))
next_is n i file number answered few first in_time size below given step =
    ack_given i file number answered size (omega (arith, below)) n few first in_time given false (ne_eqb number (blocks_of (is_active i)) (omega (arith, below))) step
    ∙ ap (λ (xs : Transfers). gives xs (last_of i (moving i file (suc number) true)) (word.Block (suc number))) (replaced i (moving i file number answered) (moving i file (suc number) true))

pub last_ends : (n i : ℕ) (file : List ℕ) (number : ℕ) (answered : Bool) → n ≤ 4000 → 1 ≤ i → i ≤ n → length file ≡ file_size (is_active i) → number ≡ blocks_of (is_active i)
    → (given : Given) → TftpStep (drill_tables n i) (transfers_with i (moving i file number answered)) (datagram_at (moment i) (by_modem i) (acknowledgement number)) given
    → given ≡ gives map.empty [] word.Done
last_ends n i file number answered few first in_time size last given step =
    ack_given i file number answered size (omega (arith, last)) n few first in_time given true (eq-eqb number (blocks_of (is_active i)) last) step
    ∙ ap (λ (xs : Transfers). gives xs [] word.Done) (ended_alone i (moving i file number answered))
