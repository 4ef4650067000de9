-- One datagram of an address and one Tick, over all transfers and over the address's own.
use Rattle.std.proofs.Common.{◌≡◌, ℕ, ◌⊎◌, inl, inr, Bool, true, false, cond, not, List, [], ◌∷◌, Option, Some, None, option_and_then, Result, Ok, Err, if◌then◌else◌, refl, sym, ap, subst, ◌∙◌}
use Rattle.std.specs.FinMap as map
use Rattle.off_base.specs.declared.addresses.Ip4.{Ip4}
use Rattle.off_base.specs.declared.addresses.Peer.{Peer}
use Rattle.off_base.specs.declared.macs.Mac.{Mac}
use Rattle.off_defs.specs.declared.results.Sent.{Sent}
use Rattle.off_defs.specs.declared.tables.Modem.{Modem}
use Rattle.off_defs.specs.State.{Tables, Transfer}
use Rattle.off_packets.specs.Packets.{Meant, Reads, Writes, Acknowledges, GivesUp, IsOther, packet_of}
use Rattle.off_packets.specs.declared.packets.Options.{Options}
use Rattle.off_transfer_rules.specs.Requests.{datagram_at, request_for, file_owner}
use Rattle.off_transfer_rules.specs.View.{View, view, holder}
use Rattle.off_transfer_rules.specs.Transfers.{Transfers, has_no_room, first_word, new_transfer, gone_on, asked_again, packet_to}
use Rattle.off_transfer_rules.specs.Steps.{Way, Denies, Repeats, Accepts, Ignores, Finishes, BreaksOff, GoesOn, Leaves, file_not_found, too_many_transfers, has_file, way_for_owner, owner_by_row, way_for_holder, way_of, way, Given, gives, last_to, GivesBy, TftpStep}
use Rattle.off_transfer_rules.specs.Ticks.{tick_of, TickStep}
use Rattle.off_transfer_rules.specs.Words.{tftp_line}
use Rattle.off_packets.specs.declared.faults.PacketFault.{PacketFault}
use Rattle.off_packets.specs.declared.faults.PacketFault.TheVariants as fault
use Rattle.off_transfer_rules.specs.declared.ticks.Ticked.{Ticked}
use Rattle.off_transfer_rules.specs.declared.words.TftpWord.{TftpWord}
use Rattle.off_transfer_rules.specs.declared.words.TftpWord.TheVariants as word
use Rattle.off_transfer_laws.specs.Laws.{is_refusal, IsAnswerTo}
use Rattle.off_transfer_laws.proofs.TickLaws.{tick_is_there}
use Rattle.off_transfer_laws.proofs.ViewLemmas.{built_is_one}
use Rattle.off_isolation.specs.Own.{is_at, says_full, items_to}
use Rattle.off_isolation.specs.Alone.{Waits, AreOwn}
use Rattle.off_isolation.proofs.OwnLemmas.{own_here, own_inserted, own_removed, own_room, own_items}

-- ---- the way is the same, but where there is no room

abbrev SameOrFull : Way → Way → Type 0
SameOrFull one other = (one ≡ other) ⊎ (one ≡ Denies too_many_transfers)

module _ (v : View) (now : ℕ) (from : Peer) (few : Bool) where
  judged : (full : Bool) → (few ≡ true → full ≡ true) → (w : Way) → SameOrFull (if full then Denies too_many_transfers else w) (if few then Denies too_many_transfers else w)
  judged true room w = inr refl
  judged false room w = inl (only few room)
    where
      only : (b : Bool) → (b ≡ true → false ≡ true) → w ≡ (if b then Denies too_many_transfers else w)
      only true never = let e : false ≡ true = never refl in cc
      only false never = refl

  named : (full : Bool) → (few ≡ true → full ≡ true) → (served : Bool) (w : Way)
      → SameOrFull (if not served then Denies file_not_found else if full then Denies too_many_transfers else w)
      (if not served then Denies file_not_found else if few then Denies too_many_transfers else w)
  named full room true w = judged full room w
  named full room false w = inl refl

  for_modem : (full : Bool) → (few ≡ true → full ≡ true) → (name : List ℕ) (asked : Options) (mac : Mac) (modem : Option Modem)
      → SameOrFull (way_for_owner v from.ip full (request_for name asked) (owner_by_row mac modem)) (way_for_owner v from.ip few (request_for name asked) (owner_by_row mac modem))
  for_modem full room name asked mac None = inl refl
  for_modem full room name asked mac (Some modem) = named full room (has_file v from.ip name mac) (Accepts (request_for name asked) (file_owner mac modem.subscriber))

  for_holder : (full : Bool) → (few ≡ true → full ≡ true) → (name : List ℕ) (asked : Options) (held : Option Mac)
      → SameOrFull (way_for_holder v from.ip full (request_for name asked) held) (way_for_holder v from.ip few (request_for name asked) held)
  for_holder full room name asked None = inl refl
  for_holder full room name asked (Some mac) = for_modem full room name asked mac v.modem

  same_or_full : (full : Bool) → (few ≡ true → full ≡ true) → (bytes : List ℕ) (live : Option Transfer) (read : Result Meant PacketFault)
      → SameOrFull (way_of v (datagram_at now from bytes) full live read) (way_of v (datagram_at now from bytes) few live read)
  same_or_full full room bytes live (Err fault.Form) = inl refl
  same_or_full full room bytes live (Err fault.Mode) = inl refl
  same_or_full full room bytes live (Ok IsOther) = inl refl
  same_or_full full room bytes live (Ok Writes) = inl refl
  same_or_full full room bytes live (Ok GivesUp) = inl refl
  same_or_full full room bytes live (Ok (Acknowledges number)) = inl refl
  same_or_full full room bytes None (Ok (Reads name asked)) = for_holder full room name asked (holder now v)
  same_or_full full room bytes (Some x) (Ok (Reads name asked)) = inl refl

way_alone : (ip : Ip4) (v : View) (now : ℕ) (xs own : Transfers) (from : Peer) (bytes : List ℕ) → AreOwn ip xs own → is_at ip from ≡ true
    → SameOrFull (way v xs (datagram_at now from bytes)) (way v own (datagram_at now from bytes))
unfolding way
way_alone ip v now xs own from bytes are here =
    subst (λ (live : Option Transfer). SameOrFull (way_of v (datagram_at now from bytes) (has_no_room xs) (map.get xs from) (packet_of bytes)) (way_of v (datagram_at now from bytes) (has_no_room own) live (packet_of bytes)))
    (sym (own_here ip xs own are from here))
    (same_or_full v now from (has_no_room own) (has_no_room xs) (own_room ip xs own are) bytes (map.get xs from) (packet_of bytes))

-- ---- what it gives is the same

-- what is given over all transfers, and over the address's own
pub record SameGiven (ip : Ip4) (given alone : Given) : Type 0 where
  pub own : AreOwn ip given.transfers alone.transfers
  pub items : alone.items ≡ given.items
  pub word : alone.word ≡ given.word

same_given : (ip : Ip4) (given alone : Given) (ys own : Transfers) (items : List Sent) (w : TftpWord)
    → given ≡ gives ys items w → alone ≡ gives own items w → AreOwn ip ys own → SameGiven ip given alone
same_given ip given alone ys own items w p q are = record {
  own = λ peer.
      ap (λ (g : Given). map.get g.transfers peer) q ∙ are peer
      ∙ ap (λ (g : Given). cond (is_at ip peer) (map.get g.transfers peer) None) (sym p);
  items = ap (λ (g : Given). g.items) q ∙ sym (ap (λ (g : Given). g.items) p);
  word = ap (λ (g : Given). g.word) q ∙ sym (ap (λ (g : Given). g.word) p);
}

module _ (ip : Ip4) (v : View) (now : ℕ) (xs own : Transfers) (from : Peer) (bytes : List ℕ) (are : AreOwn ip xs own) (here : is_at ip from ≡ true) where
  alone_by : (w : Way) (given alone : Given) → GivesBy v xs (datagram_at now from bytes) w given → GivesBy v own (datagram_at now from bytes) w alone → SameGiven ip given alone
  alone_by (Denies denial) given alone p q = same_given ip given alone xs own _ denial.word p q are
  alone_by (Repeats x) given alone p q = same_given ip given alone _ _ _ word.Again p q (own_inserted ip xs own are from here (asked_again now x))
  alone_by (Accepts request owner) given alone p q =
      let file : q.0 ≡ p.0 = built_is_one v now from.ip q.0 p.0 q.1.0 p.1.0 in
      let x : Transfer = new_transfer (datagram_at now from bytes) request owner p.0 in
      same_given ip given alone (map.insert xs from x) (map.insert own from x) (last_to from x) (first_word request.options) p.1.1
      (q.1.1
      ∙ ap (λ (f : List ℕ). gives (map.insert own from (new_transfer (datagram_at now from bytes) request owner f)) (last_to from (new_transfer (datagram_at now from bytes) request owner f)) (first_word request.options)) file)
      (own_inserted ip xs own are from here x)
  alone_by Ignores given alone p q = same_given ip given alone xs own [] word.StaleAck p q are
  alone_by Finishes given alone p q = same_given ip given alone _ _ [] word.Done p q (own_removed ip xs own are from here)
  alone_by BreaksOff given alone p q = same_given ip given alone _ _ _ word.Agreement p q (own_removed ip xs own are from here)
  alone_by (GoesOn x) given alone p q = same_given ip given alone _ _ _ _ p q (own_inserted ip xs own are from here (gone_on now x))
  alone_by Leaves given alone p q = same_given ip given alone _ _ [] word.PeerError p q (own_removed ip xs own are from here)

  same_by : (w u : Way) → SameOrFull w u → (given alone : Given) → says_full (tftp_line given.word) ≡ false
      → GivesBy v xs (datagram_at now from bytes) w given → GivesBy v own (datagram_at now from bytes) u alone → SameGiven ip given alone
  same_by w u (inl same) given alone room p q = alone_by w given alone p (subst (λ (x : Way). GivesBy v own (datagram_at now from bytes) x alone) (sym same) q)
  same_by w u (inr full) given alone room p q =
      let denied : given ≡ gives xs _ word.Full = subst (λ (x : Way). GivesBy v xs (datagram_at now from bytes) x given) full p in
      let says : says_full (tftp_line given.word) ≡ true = ap (λ (g : Given). says_full (tftp_line g.word)) denied in
      cc

pub answered_alone : (ip : Ip4) (t : Tables) (now : ℕ) (xs own : Transfers) (from : Peer) (bytes : List ℕ) (given alone : Given) → AreOwn ip xs own
    → is_at ip from ≡ true → says_full (tftp_line given.word) ≡ false
    → TftpStep t xs (datagram_at now from bytes) given → TftpStep t own (datagram_at now from bytes) alone → SameGiven ip given alone
unfolding TftpStep
answered_alone ip t now xs own from bytes given alone are here room p q =
    let v : View = view t from.ip in
    same_by ip v now xs own from bytes are here (way v xs (datagram_at now from bytes)) (way v own (datagram_at now from bytes)) (way_alone ip v now xs own from bytes are here) given alone room p q

-- a line that says `full` has a word with which no transfer changes
pub full_refuses : (w : TftpWord) → says_full (tftp_line w) ≡ true → is_refusal w ≡ true
full_refuses word.Form e = refl
full_refuses word.Write e = refl
full_refuses word.Mode e = refl
full_refuses word.Again e = e
full_refuses word.NoLease e = refl
full_refuses word.Agreement e = e
full_refuses word.Name e = refl
full_refuses word.Full e = refl
full_refuses word.Oack e = e
full_refuses (word.Block number) e = e
full_refuses word.Unknown e = refl
full_refuses word.StaleAck e = refl
full_refuses word.Done e = e
full_refuses word.PeerError e = e

-- all that is sent for a datagram goes back to its address
pub all_back : (ip : Ip4) (from : Peer) (items : List Sent) → is_at ip from ≡ true → IsAnswerTo from items → items_to ip items ≡ items
all_back ip from items here (inl none) = ap (items_to ip) none ∙ sym none
all_back ip from items here (inr one) =
    ap (items_to ip) one.1 ∙ ap (λ b. cond b (packet_to from one.0 ∷ []) []) here ∙ sym one.1

-- ---- a Tick

-- a Tick over the address's own transfers, which leaves those that are its own of all
pub record TicksAlone (ip : Ip4) (now : ℕ) (own ys : Transfers) (items : List Sent) : Type 0 where
  pub after : Transfers
  pub are : AreOwn ip ys after
  pub waits : Waits now own after (record { items = items_to ip items; line = [] })

then_cond : (f : Transfer → Option Transfer) (b : Bool) (o : Option Transfer) → option_and_then f (cond b o None) ≡ cond b (option_and_then f o) None
then_cond f true o = refl
then_cond f false o = refl

pub ticks_alone : (ip : Ip4) (now : ℕ) (xs own ys : Transfers) (items : List Sent) (ticked : Ticked) → AreOwn ip xs own
    → TickStep now xs ys items ticked → TicksAlone ip now own ys items
ticks_alone ip now xs own ys items ticked are step =
    let some = tick_is_there now own in
    let same : items_to ip items ≡ some.items = ap (items_to ip) step.sends ∙ own_items ip now xs own are ∙ sym some.step.sends in
    record {
      after = some.after;
      are = λ peer.
          some.step.each peer
          ∙ ap (option_and_then (tick_of now)) (are peer)
          ∙ then_cond (tick_of now) (is_at ip peer) (map.get xs peer)
          ∙ ap (λ (o : Option Transfer). cond (is_at ip peer) o None) (sym (step.each peer));
      waits = record { items = some.items; ticked = some.ticked; step = some.step; says = λ i. record { items = same i; line = [] } };
    }
