-- A read request that was accepted: the transfer that it begins.
use Rattle.std.proofs.Common.{◌≡◌, ℕ, true, false, cond, true≢false, List, Result, Ok, refl, sym, ap, subst, ◌∙◌}
use Rattle.std.specs.FinMap as map
use Rattle.off_base.specs.declared.addresses.Peer.{Peer}
use Rattle.off_base.specs.declared.macs.Mac.{Mac}
use Rattle.off_defs.specs.State.{Tables}
use Rattle.off_packets.specs.Packets.{Meant, Reads, packet_of}
use Rattle.off_packets.specs.declared.packets.Options.{Options}
use Rattle.off_transfer_rules.specs.Requests.{datagram_at, request_for, file_owner}
use Rattle.off_transfer_rules.specs.View.{View, view, IsBuiltBy}
use Rattle.off_transfer_rules.specs.Transfers.{Transfers, has_no_room, first_word, new_transfer}
use Rattle.off_transfer_rules.specs.Steps.{Way, Denies, Repeats, Accepts, Ignores, Finishes, BreaksOff, GoesOn, Leaves, way, Given, gives, with_transfer, last_to, GivesBy, TftpStep}
use Rattle.off_transfer_rules.specs.Words.{tftp_line}
use Rattle.off_packets.specs.declared.faults.PacketFault.{PacketFault}
use Rattle.off_transfer_laws.proofs.TextLemmas.{Fits}
use Rattle.off_transfer_laws.proofs.WayLemmas.{Accepting, Standing, standing_way}
use Rattle.off_transfer_runs.specs.Turns.{Fate, Remains, Moves, Breaks, says_accepted, fate_of}
use Rattle.off_transfer_runs.proofs.Fates.{Means, means_way}

pub record Begins (v : View) (now : ℕ) (xs : Transfers) (from : Peer) (bytes : List ℕ) (given : Given) (name : List ℕ) (asked : Options) : Type 0 where
  pub mac : Mac
  pub owner : ℕ
  pub file : List ℕ
  pub accepting : Accepting v now from.ip mac owner name
  pub fits : Fits asked
  pub built : IsBuiltBy v now from.ip file
  pub gave : given ≡ gives (with_transfer xs from (new_transfer (datagram_at now from bytes) (request_for name asked) (file_owner mac owner) file)) (last_to from (new_transfer (datagram_at now from bytes) (request_for name asked) (file_owner mac owner) file)) (first_word asked)

module _ (v : View) (now : ℕ) (xs : Transfers) (from : Peer) (bytes : List ℕ) (given : Given) (name : List ℕ) (asked : Options) where
  breaks : (read : Result Meant PacketFault) (line : List ℕ) → read ≡ Ok (Reads name asked) → says_accepted line ≡ true → fate_of read line ≡ Breaks
  breaks read line is says = ap (λ (r : Result Meant PacketFault). fate_of r line) is ∙ ap (λ b. cond b Breaks Remains) says

  word_is : (read : Result Meant PacketFault) (other : Given) → given ≡ other → fate_of read (tftp_line given.word) ≡ fate_of read (tftp_line other.word)
  word_is read other e = ap (λ (g : Given). fate_of read (tftp_line g.word)) e

  not_accepted : (other : Given) → given ≡ other → says_accepted (tftp_line given.word) ≡ true → says_accepted (tftp_line other.word) ≡ false
      → Begins v now xs from bytes given name asked
  not_accepted other e says none = absurd (true≢false (sym says ∙ ap (λ (g : Given). says_accepted (tftp_line g.word)) e ∙ none))

  stays_on : (f : Fate) → f ≡ Breaks → f ≡ Remains → Begins v now xs from bytes given name asked
  stays_on f a b = cc

  moves_on : (f : Fate) (number : ℕ) → f ≡ Breaks → f ≡ Moves number → Begins v now xs from bytes given name asked
  moves_on f number a b = cc

  begins_by : (read : Result Meant PacketFault) (w : Way) → read ≡ Ok (Reads name asked) → says_accepted (tftp_line given.word) ≡ true
      → Means (map.get xs from) read w → Standing v now from.ip (has_no_room xs) (map.get xs from) w → GivesBy v xs (datagram_at now from bytes) w given
      → Begins v now xs from bytes given name asked
  begins_by read (Denies denial) is says m s e = stays_on _ (breaks read (tftp_line given.word) is says) (word_is read _ e ∙ m)
  begins_by read (Repeats x) is says m s e = not_accepted _ e says refl
  begins_by read (Accepts request owner) is says m s e =
      let same : Ok (Reads request.name request.options) ≡ Ok (Reads name asked) = sym m.0 ∙ is in
      let names : request.name ≡ name = cc in
      let sizes : request.options ≡ asked = cc in
      subst (λ n. Begins v now xs from bytes given n asked) names (subst (λ a. Begins v now xs from bytes given request.name a) sizes (record {
        mac = owner.modem;
        owner = owner.subscriber;
        file = e.0;
        accepting = s.0;
        fits = s.2;
        built = e.1.0;
        gave = e.1.1;
      }))
  begins_by read Ignores is says m s e = not_accepted _ e says refl
  begins_by read Finishes is says m s e = not_accepted _ e says refl
  begins_by read BreaksOff is says m s e = not_accepted _ e says refl
  begins_by read (GoesOn x) is says m s e = moves_on _ x.sent (breaks read (tftp_line given.word) is says) (word_is read _ e ∙ m.moves)
  begins_by read Leaves is says m s e = not_accepted _ e says refl

pub begins : (t : Tables) (now : ℕ) (xs : Transfers) (from : Peer) (bytes : List ℕ) (given : Given) (name : List ℕ) (asked : Options)
    → packet_of bytes ≡ Ok (Reads name asked) → says_accepted (tftp_line given.word) ≡ true → TftpStep t xs (datagram_at now from bytes) given
    → Begins (view t from.ip) now xs from bytes given name asked
unfolding TftpStep
begins t now xs from bytes given name asked read says step =
    begins_by (view t from.ip) now xs from bytes given name asked (packet_of bytes) (way (view t from.ip) xs (datagram_at now from bytes)) read says
    (means_way (view t from.ip) now xs from bytes) (standing_way (view t from.ip) now xs from bytes) step
