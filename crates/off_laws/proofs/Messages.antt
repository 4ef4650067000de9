-- What becomes of a datagram to the DHCP port.
use Rattle.std.proofs.Common.{◌≡◌, ◌==◌, ℕ, false, List, [], Some, None, Result, Ok, Err, refl, sym, ap, subst, ◌∙◌}
use Rattle.off_defs.specs.Tables.{write_all}
use Rattle.off_account_rules.specs.Good.{Good}
use Rattle.off_defs.specs.State.{Tables, State, Effect}
use Rattle.off_dhcp.specs.declared.faults.DhcpFault.{DhcpFault}
use Rattle.off_dhcp.specs.Datagram.{Received, message_of}
use Rattle.off_lease_rules.specs.Words.{acts}
use Rattle.off_lease_rules.specs.Steps.{step_of, dhcp_step}
use Rattle.off_query_laws.proofs.KindLemmas.{no_query}
use Rattle.off_cpe_rules.specs.Behind.{modem_behind}
use Rattle.off_cpe_rules.specs.Words as device
use Rattle.off_cpe_rules.specs.declared.results.DeviceStep.{DeviceStep}
use Rattle.off_cpe_laws.proofs.WordLemmas.{refused_writes}
use Rattle.off_book.specs.Dhcp.{LeaseDid, MessageDid, DatagramDid, DhcpDid, device_of}
use Rattle.off_laws.proofs.Devices.{device_told, no_device}
use Rattle.off_lease_laws.proofs.LawLemmas.{refusals_change_nothing, datagrams_leave_fit}

read_refused : (t : Tables) (now : ℕ) (read : Result Received DhcpFault) → acts (step_of t now read).word ≡ false → (step_of t now read).writes ≡ []
read_refused t now (Ok m) refused = refusals_change_nothing t now m refused
read_refused t now (Err fault) refused = refl

-- what is refused writes nothing
pub datagram_refused : (t : Tables) (now : ℕ) (bytes : List ℕ) → acts (dhcp_step t now bytes).word ≡ false → (dhcp_step t now bytes).writes ≡ []
unfolding dhcp_step
datagram_refused t now bytes refused = read_refused t now (message_of bytes) refused

-- of a device too
pub device_refused : (t : Tables) (now : ℕ) (bytes : List ℕ) (step : DeviceStep) → device_of t now bytes ≡ Some step → device.acts step.word ≡ false → step.writes ≡ []
device_refused t now bytes step is refused =
    let d = device_told t now bytes step is in
    ap (λ (s : DeviceStep). s.writes) d.does ∙ refused_writes t now d.message d.modem (ap (λ (s : DeviceStep). device.acts s.word) (sym d.does) ∙ refused)

-- good tables stay good
pub datagram_good : (t : Tables) (now : ℕ) (bytes : List ℕ) → Good t → Good (write_all t (dhcp_step t now bytes).writes)
datagram_good t now bytes good = (datagrams_leave_fit t now bytes _ _ _ (record { tables_after = refl; sent = refl; said = refl })).good good

-- a message of another kind than a query's, of whom is behind no modem, is taken as a modem's
pub message_did : (s : State) (bytes : List ℕ) (effect : Effect) (m : Received) → message_of bytes ≡ Ok m → (m.kind == 10) ≡ false → modem_behind s.tables m ≡ None → DhcpDid s bytes effect
    → LeaseDid s bytes effect
message_did s bytes effect m read other own did =
    subst (MessageDid s bytes effect) (no_device s.tables s.held.now bytes m read own) (subst (DatagramDid s bytes effect) (no_query bytes m read other) did)
