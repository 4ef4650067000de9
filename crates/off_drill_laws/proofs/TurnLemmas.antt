-- Each event of a drill at its stage is one effect.
use Rattle.std.proofs.Common.{◌≡◌, ℕ, suc, ◌+◌, ◌<◌, ◌≤◌, max, Bool, true, false, ◌==◌, List, [], length, None, Ok, refl, ap, subst, ◌∙◌, arith}
use Rattle.std.specs.FinMap as map
use Rattle.off_base.specs.declared.addresses.Peer.{Peer}
use Rattle.off_defs.specs.declared.events.What.TheVariants.{Datagram}
use Rattle.off_defs.specs.declared.events.Service.TheVariants.{Dhcp, Tftp}
use Rattle.off_defs.specs.declared.keys.Key.TheVariants as key
use Rattle.off_defs.specs.declared.tables.Row.TheVariants as row
use Rattle.off_defs.specs.declared.results.Outcome.TheVariants.{Did}
use Rattle.off_defs.specs.Clock.{later_by}
use Rattle.off_defs.specs.State.{Tables, Held, Effect, state_of, at_moment}
use Rattle.off_defs.specs.Tables.{with_row}
use Rattle.off_lease_rules.specs.Steps.{dhcp_step}
use Rattle.off_lease_rules.specs.declared.results.LeaseStep.{LeaseStep}
use Rattle.off_transfer_rules.specs.Requests.{datagram_at}
use Rattle.off_transfer_rules.specs.Steps.{Given, gives, TftpStep}
use Rattle.off_transfer_rules.specs.Transfers.{Transfers}
use Rattle.off_transfer_rules.specs.declared.words.TftpWord.TheVariants as word
use Rattle.off_dhcp.specs.Datagram.{Received, message_of}
use Rattle.off_cpe_rules.specs.Behind.{modem_behind}
use Rattle.off_book.specs.Dhcp.{dhcp_said, dhcp_effect}
use Rattle.off_book.specs.Step.{Step}
use Rattle.off_book.specs.Tftp.{transfers_effect, tftp_said}
use Rattle.off_laws.proofs.Messages.{message_did}
use Rattle.off_drill_rules.specs.Rows.{moment, mac, address, is_active, lease, drill_tables}
use Rattle.off_drill_rules.specs.Messages.{by_relay, by_modem, discover, request, read_request, acknowledgement}
use Rattle.off_drill_rules.specs.Events.{asks_for_offer, asks_for_lease, asks_for_file, acknowledges, blocks_of}
use Rattle.off_drill_rules.specs.Law.{held_behind, drill_state}
use Rattle.off_drill_laws.specs.Stages.{offered_lease, offered_tables, offered_state, moving, moving_state, file_size}
use Rattle.off_drill_laws.proofs.RowLemmas.{one_more}
use Rattle.off_drill_laws.proofs.LeaseLemmas.{discovered, requested, read_discover as reads_discover, read_request as reads_request, own_discover, own_request, offer_step, offer_is, ack_step, ack_is}
use Rattle.off_drill_laws.proofs.PacketLemmas.{transfers_with, last_of, read_is, next_is, last_ends}

-- an office without connections
abbrev held_with : ℕ → Transfers → Held
held_with now transfers = record { now = now; transfers = transfers; connections = map.empty }

-- a message does what it does at its own moment, which is no earlier than the office's
message_turn : (t : Tables) (now at : ℕ) (from : Peer) (bytes : List ℕ) (m : Received) (step : LeaseStep) (effect : Effect) → now ≤ at → message_of bytes ≡ Ok m → (m.kind == 10) ≡ false
    → modem_behind t m ≡ None → dhcp_step t at bytes ≡ step
    → Step (state_of t (held_with now map.empty)) (record { at = record { 0 = at }; what = Datagram Dhcp from bytes }) Did effect
    → effect ≡ dhcp_effect (state_of t (held_with at map.empty)) step
unfolding Step
message_turn t now at from bytes m step effect later read other own is did =
    let same : max now at ≡ at = omega (arith, later) in
    message_did (at_moment (state_of t (held_with now map.empty)) at) bytes effect m read other own did
    ∙ ap (λ (n : ℕ). dhcp_effect (state_of t (held_with n map.empty)) (dhcp_step t n bytes)) same
    ∙ ap (dhcp_effect (state_of t (held_with at map.empty))) is

-- and so does a packet
pub record Packet (t : Tables) (at : ℕ) (transfers : Transfers) (from : Peer) (bytes : List ℕ) (effect : Effect) : Type 0 where
  pub given : Given
  pub step : TftpStep t transfers (datagram_at at from bytes) given
  pub does : effect ≡ transfers_effect (state_of t (held_with at transfers)) given.transfers (tftp_said given)

packet_turn : (t : Tables) (now at : ℕ) (transfers : Transfers) (from : Peer) (bytes : List ℕ) (effect : Effect) → now ≤ at
    → Step (state_of t (held_with now transfers)) (record { at = record { 0 = at }; what = Datagram Tftp from bytes }) Did effect
    → Packet t at transfers from bytes effect
unfolding Step
packet_turn t now at transfers from bytes effect later did =
    let same : max now at ≡ at = omega (arith, later) in
    record {
      given = did.given;
      step = subst (λ (m : ℕ). TftpStep t transfers (datagram_at m from bytes) did.given) same did.step;
      does = did.does ∙ ap (λ (m : ℕ). transfers_effect (state_of t (held_with m transfers)) did.given.transfers (tftp_said did.given)) same;
    }

in_time : (i seconds : ℕ) → i ≤ 4000 → seconds ≤ 86400 → later_by seconds (moment i) ≡ moment i + seconds
in_time i seconds few short = omega (arith, few, short)

module _ (n k : ℕ) (more : k < n) (few : n ≤ 4000) where
  pub discover_turn : (effect : Effect) → Step (drill_state n k) (asks_for_offer (suc k)) Did effect
      → (effect.said ≡ dhcp_said (offer_step (suc k))) × (effect.after ≡ offered_state n k)
  discover_turn effect did =
      let e = message_turn (drill_tables n k) (moment k) (moment (suc k)) by_relay (discover (suc k)) (discovered (suc k)) (offer_step (suc k)) effect (omega arith) (reads_discover (suc k)) refl (own_discover (drill_tables n k) (suc k)) (offer_is n k more few) did in (
        ap (λ (f : Effect). f.said) e,
        ap (λ (f : Effect). f.after) e
            ∙ ap (λ (m : ℕ).
            state_of
            (with_row (with_row (drill_tables n k) (key.Lease (address (suc k))) (row.Lease (record { hold = (offered_lease (suc k)).hold; expiry = record { 0 = m } })))
            (key.Held (mac (suc k))) (row.Held (address (suc k)))) (held_behind (suc k)))
            (in_time (suc k) 120 (omega (arith, more, few)) (omega arith)),
      )

  pub request_turn : (effect : Effect) → Step (offered_state n k) (asks_for_lease (suc k)) Did effect
      → (effect.said ≡ dhcp_said (ack_step (suc k))) × (effect.after ≡ drill_state n (suc k))
  request_turn effect did =
      let e = message_turn (offered_tables n k) (moment (suc k)) (moment (suc k)) by_relay (request (suc k)) (requested (suc k)) (ack_step (suc k)) effect (omega arith) (reads_request (suc k)) refl (own_request (offered_tables n k) (suc k)) (ack_is n k more few) did in (
        ap (λ (f : Effect). f.said) e,
        ap (λ (f : Effect). f.after) e
            ∙ ap (λ (m : ℕ).
            state_of (with_row (offered_tables n k) (key.Lease (address (suc k))) (row.Lease (record { hold = (lease (suc k)).hold; expiry = record { 0 = m } }))) (held_behind (suc k)))
            (in_time (suc k) 86400 (omega (arith, more, few)) (omega arith))
            ∙ ap (λ (t : Tables). state_of t (held_behind (suc k))) (one_more n k),
      )

  pub record ReadTurn (effect : Effect) : Type 0 where
    pub file : List ℕ
    pub size : length file ≡ file_size (is_active (suc k))
    pub said : effect.said ≡ tftp_said (gives (transfers_with (suc k) (moving (suc k) file 0 false)) (last_of (suc k) (moving (suc k) file 0 false)) word.Oack)
    pub after : effect.after ≡ moving_state n (suc k) file 0 false

  pub read_turn : (effect : Effect) → Step (drill_state n (suc k)) (asks_for_file (suc k)) Did effect → ReadTurn effect
  read_turn effect did =
      let p = packet_turn (drill_tables n (suc k)) (moment (suc k)) (moment (suc k)) map.empty (by_modem (suc k)) (read_request (suc k)) effect (omega arith) did in
      let r = read_is n (suc k) few (omega arith) (omega (arith, more)) p.given p.step in
      let e = p.does ∙ ap (λ (g : Given). transfers_effect (drill_state n (suc k)) g.transfers (tftp_said g)) r.is in
      record { file = r.file; size = r.size; said = ap (λ (f : Effect). f.said) e; after = ap (λ (f : Effect). f.after) e }

  module _ (file : List ℕ) (number : ℕ) (answered : Bool) (size : length file ≡ file_size (is_active (suc k))) where
    pub next_turn : number < blocks_of (is_active (suc k)) → (effect : Effect) → Step (moving_state n (suc k) file number answered) (acknowledges (suc k) number) Did effect
        → (effect.said ≡ tftp_said (gives (transfers_with (suc k) (moving (suc k) file (suc number) true)) (last_of (suc k) (moving (suc k) file (suc number) true)) (word.Block (suc number))))
        × (effect.after ≡ moving_state n (suc k) file (suc number) true)
    next_turn below effect did =
        let p = packet_turn (drill_tables n (suc k)) (moment (suc k)) (moment (suc k)) (transfers_with (suc k) (moving (suc k) file number answered)) (by_modem (suc k)) (acknowledgement number) effect (omega arith) did in
        let r = next_is n (suc k) file number answered few (omega arith) (omega (arith, more)) size below p.given p.step in
        let e = p.does ∙ ap (λ (g : Given). transfers_effect (moving_state n (suc k) file number answered) g.transfers (tftp_said g)) r in
        (ap (λ (f : Effect). f.said) e, ap (λ (f : Effect). f.after) e)

    pub last_turn : number ≡ blocks_of (is_active (suc k)) → (effect : Effect) → Step (moving_state n (suc k) file number answered) (acknowledges (suc k) number) Did effect
        → (effect.said ≡ tftp_said (gives map.empty [] word.Done)) × (effect.after ≡ drill_state n (suc k))
    last_turn last effect did =
        let p = packet_turn (drill_tables n (suc k)) (moment (suc k)) (moment (suc k)) (transfers_with (suc k) (moving (suc k) file number answered)) (by_modem (suc k)) (acknowledgement number) effect (omega arith) did in
        let r = last_ends n (suc k) file number answered few (omega arith) (omega (arith, more)) size last p.given p.step in
        let e = p.does ∙ ap (λ (g : Given). transfers_effect (moving_state n (suc k) file number answered) g.transfers (tftp_said g)) r in
        (ap (λ (f : Effect). f.said) e, ap (λ (f : Effect). f.after) e)
