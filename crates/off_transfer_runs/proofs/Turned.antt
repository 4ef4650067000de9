-- What one turn does to a transfer of which packet k stands out, or that is gone.
use Rattle.std.proofs.Common.{◌≡◌, ℕ, zero, suc, ◌^◌, ◌<◌, ◌≤◌, Bool, true, false, List, [], ◌∷◌, Option, Some, None, refl, sym, ap, subst, ◌∙◌, arith}
use Rattle.std.specs.FinMap as map
use Rattle.off_base.specs.declared.addresses.Peer.{Peer}
use Rattle.off_defs.specs.State.{Tables, Transfer}
use Rattle.off_file_rules.specs.Block.{block}
use Rattle.off_packets.specs.declared.packets.Options.{Options}
use Rattle.off_packets.specs.Packets.{packet_of}
use Rattle.off_transfer_rules.specs.Requests.{datagram_at}
use Rattle.off_transfer_rules.specs.View.{View, view}
use Rattle.off_transfer_rules.specs.Transfers.{Transfers, options_of, last_packet, packet_of_number, is_last_number, is_at_last, gone_on, asked_again}
use Rattle.off_packets.specs.Replies.{data_packet, error_packet}
use Rattle.off_transfer_rules.specs.Steps.{Way, Denies, Repeats, Accepts, Ignores, Finishes, BreaksOff, GoesOn, Leaves, way, Given, GivesBy, TftpStep}
use Rattle.off_transfer_rules.specs.Words.{tftp_line}
use Rattle.off_transfer_rules.proofs.PeerLemmas.{inserted_here}
use Rattle.off_transfer_laws.specs.Sound.{IsSound}
use Rattle.off_transfer_laws.proofs.SoundLemmas.{asked_again_sound, gone_on_sound, numbers_fit}
use Rattle.off_transfer_runs.specs.Turns.{Fate, Remains, Moves, Ends, Breaks, fate_of, packets_to, is_data}
use Rattle.off_transfer_runs.specs.Served.{IsAgain, NextGoes, GoBy}
use Rattle.off_transfer_runs.proofs.Packets.{one_packet}
use Rattle.off_transfer_runs.proofs.Fates.{Means, means_way}

-- a transfer of the file of which packet k stands out
pub record IsAt (file : List ℕ) (size k : ℕ) (x : Transfer) : Type 0 where
  pub files : x.file ≡ file
  pub sizes : x.size ≡ size
  pub sents : x.sent ≡ k
  pub sound : IsSound x

pub data Stands (file : List ℕ) (size k : ℕ) (live : Option Transfer) : Type 0 where
  gone : live ≡ None → Stands file size k live
  stands : (x : Transfer) → live ≡ Some x → IsAt file size k x → Stands file size k live

abbrev pub After : Fate → List ℕ → ℕ → ℕ → List (List ℕ) → Option Transfer → Type 0
After fate file size k packets live = GoBy fate file size k packets (λ n. Stands file size n live)

-- a packet that is no DATA, and packet k itself
other_again : (file : List ℕ) (size k : ℕ) (packet : List ℕ) → is_data packet ≡ false → IsAgain file size k packet
other_again file size zero packet is = is
other_again file size (suc before) packet is = λ e. cc

packet_again : (asked : Options) (file : List ℕ) (size k : ℕ) → IsAgain file size k (packet_of_number asked file size k)
packet_again asked file size zero = refl
packet_again asked file size (suc before) = λ e. refl

module _ (file : List ℕ) (size k : ℕ) where
  -- the live transfer, if it is known to be there
  pub live_at : (live : Option Transfer) (x : Transfer) → live ≡ Some x → Stands file size k live → IsAt file size k x
  live_at live x is (gone none) = cc
  live_at live x is (stands y there at) = let same : y ≡ x = cc in subst (IsAt file size k) same at

  pub same_stands : (one other : Option Transfer) → other ≡ one → Stands file size k one → Stands file size k other
  same_stands one other is s = subst (Stands file size k) (sym is) s

  pub after_as : (f fate : Fate) (packets given : List (List ℕ)) (live after : Option Transfer) → f ≡ fate → packets ≡ given → live ≡ after
      → After fate file size k given after → After f file size k packets live
  after_as f fate packets given live after a b c h =
      subst (λ (g : Fate). After g file size k packets live) (sym a)
      (subst (λ (ps : List (List ℕ)). After fate file size k ps live) (sym b) (subst (λ (o : Option Transfer). After fate file size k given o) (sym c) h))

  -- nothing that counts
  pub nothing_new : (live : Option Transfer) → Stands file size k live → After Remains file size k [] live
  nothing_new live s = (tt, s)

  refused : (code : ℕ) (text : List ℕ) (live : Option Transfer) → Stands file size k live → After Remains file size k (error_packet code text ∷ []) live
  refused code text live s = ((other_again file size k (error_packet code text) refl, tt), s)

  -- its last packet is packet k
  last_is : (x : Transfer) → IsAt file size k x → last_packet x ≡ packet_of_number (options_of x) file size k
  last_is x at =
      let asked = options_of x in
      ap (λ f. packet_of_number asked f x.size x.sent) at.files
      ∙ ap (λ n. packet_of_number asked file n x.sent) at.sizes
      ∙ ap (packet_of_number asked file size) at.sents

  pub last_again : (x : Transfer) → IsAt file size k x → IsAgain file size k (last_packet x)
  last_again x at = subst (IsAgain file size k) (sym (last_is x at)) (packet_again (options_of x) file size k)

  ends_as : (x : Transfer) (last : Bool) → IsAt file size k x → is_at_last x ≡ last → is_last_number file size k ≡ last
  ends_as x last at is =
      sym (ap (λ f. is_last_number f x.size x.sent) at.files ∙ ap (λ n. is_last_number file n x.sent) at.sizes ∙ ap (is_last_number file size) at.sents) ∙ is

  pub again : (x : Transfer) (after : Option Transfer) → IsAt file size k x → Stands file size k after → After Remains file size k (last_packet x ∷ []) after
  again x after at s = ((last_again x at, tt), s)

  asked_at : (now : ℕ) (x : Transfer) → IsAt file size k x → IsAt file size k (asked_again now x)
  asked_at now x at = record { files = at.files; sizes = at.sizes; sents = at.sents; sound = asked_again_sound now x at.sound }

  pub gone_on_at : (now : ℕ) (x : Transfer) → IsAt file size k x → is_at_last x ≡ false → IsAt file size (suc k) (gone_on now x)
  gone_on_at now x at more = record { files = at.files; sizes = at.sizes; sents = ap suc at.sents; sound = gone_on_sound now x more at.sound }

  small : (n : ℕ) → n ≤ 776 → n < 2 ^ 16
  small n few = omega (arith, few)

  next_goes : (now : ℕ) (x : Transfer) → IsAt file size k x → is_at_last x ≡ false → NextGoes file size k x.sent (last_packet (gone_on now x) ∷ [])
  next_goes now x at more = record {
    number_is = at.sents;
    more = ends_as x false at more;
    next =
        ap (λ f. data_packet (suc x.sent) (block f x.size (suc x.sent)) ∷ []) at.files
        ∙ ap (λ n. data_packet (suc x.sent) (block file n (suc x.sent)) ∷ []) at.sizes
        ∙ ap (λ n. data_packet (suc n) (block file size (suc n)) ∷ []) at.sents;
    fits = small (suc k) (subst (λ n. suc n ≤ 776) at.sents (numbers_fit (gone_on now x) (gone_on_sound now x more at.sound)));
  }

module _ (v : View) (now : ℕ) (xs : Transfers) (from : Peer) (bytes : List ℕ) (file : List ℕ) (size k : ℕ) where
  word_is : (given other : Given) → given ≡ other → fate_of (packet_of bytes) (tftp_line given.word) ≡ fate_of (packet_of bytes) (tftp_line other.word)
  word_is given other e = ap (λ (g : Given). fate_of (packet_of bytes) (tftp_line g.word)) e

  items_are : (given other : Given) → given ≡ other → packets_to from given.items ≡ packets_to from other.items
  items_are given other e = ap (λ (g : Given). packets_to from g.items) e

  live_is : (given other : Given) → given ≡ other → map.get given.transfers from ≡ map.get other.transfers from
  live_is given other e = ap (λ (g : Given). map.get g.transfers from) e

  Turned : Given → Type 0
  Turned given = After (fate_of (packet_of bytes) (tftp_line given.word)) file size k (packets_to from given.items) (map.get given.transfers from)

  broken : (given : Given) → fate_of (packet_of bytes) (tftp_line given.word) ≡ Breaks → Turned given
  unfolding Turned
  broken given e = after_as file size k _ Breaks _ _ _ _ e refl refl tt

  turned_by : (w : Way) (given : Given) → Means (map.get xs from) (packet_of bytes) w → GivesBy v xs (datagram_at now from bytes) w given
      → Stands file size k (map.get xs from) → Turned given
  unfolding Turned
  turned_by (Denies denial) given m e s =
      after_as file size k _ Remains _ (error_packet denial.code denial.text ∷ []) _ (map.get xs from) (word_is given _ e ∙ m)
      (items_are given _ e ∙ one_packet from (error_packet denial.code denial.text)) (live_is given _ e)
      (refused file size k denial.code denial.text (map.get xs from) s)
  turned_by (Repeats x) given m e s =
      let at = live_at file size k (map.get xs from) x m.0 s in
      after_as file size k _ Remains _ (last_packet x ∷ []) _ (Some (asked_again now x)) (word_is given _ e ∙ m.1)
      (items_are given _ e ∙ one_packet from (last_packet x)) (live_is given _ e ∙ inserted_here xs from (asked_again now x))
      (again file size k x (Some (asked_again now x)) at (stands (asked_again now x) refl (asked_at file size k now x at)))
  turned_by (Accepts request owner) given m e s = broken given (word_is given _ e.1.1 ∙ m.1)
  turned_by Ignores given m e s =
      after_as file size k _ Remains _ [] _ (map.get xs from) (word_is given _ e ∙ m) (items_are given _ e) (live_is given _ e)
      (nothing_new file size k (map.get xs from) s)
  turned_by Finishes given m e s =
      let at = live_at file size k (map.get xs from) m.x m.live_is s in
      after_as file size k _ (Ends m.x.sent) _ [] _ _ (word_is given _ e ∙ m.ends) (items_are given _ e) refl
      (record { number_is = at.sents; last = ends_as file size k m.x true at m.last; nothing = refl })
  turned_by BreaksOff given m e s = broken given (word_is given _ e ∙ m)
  turned_by (GoesOn x) given m e s =
      let at = live_at file size k (map.get xs from) x m.live_is s in
      after_as file size k _ (Moves x.sent) _ (last_packet (gone_on now x) ∷ []) _ (Some (gone_on now x)) (word_is given _ e ∙ m.moves)
      (items_are given _ e ∙ one_packet from (last_packet (gone_on now x))) (live_is given _ e ∙ inserted_here xs from (gone_on now x))
      (next_goes file size k now x at m.more, stands (gone_on now x) refl (gone_on_at file size k now x at m.more))
  turned_by Leaves given m e s = broken given (word_is given _ e ∙ m)

-- a datagram of the peer
pub packet_turned : (t : Tables) (now : ℕ) (xs : Transfers) (from : Peer) (bytes : List ℕ) (given : Given) (file : List ℕ) (size k : ℕ)
    → TftpStep t xs (datagram_at now from bytes) given → Stands file size k (map.get xs from)
    → After (fate_of (packet_of bytes) (tftp_line given.word)) file size k (packets_to from given.items) (map.get given.transfers from)
unfolding TftpStep Turned
packet_turned t now xs from bytes given file size k step s =
    turned_by (view t from.ip) now xs from bytes file size k (way (view t from.ip) xs (datagram_at now from bytes)) given (means_way (view t from.ip) now xs from bytes) step s
