-- What a turn makes of a device's lease that lasts.
use Rattle.std.proofs.Common.{◌≡◌, inl, inr, ℕ, ◌<◌, true, false, List, Some, Result, Ok, refl, sym, ap, subst, ◌∙◌, arith}
use Rattle.off_base.specs.declared.addresses.Ip4.{Ip4}
use Rattle.off_base.specs.declared.addresses.Peer.{Peer}
use Rattle.off_base.specs.declared.macs.Mac.{Mac}
use Rattle.off_defs.specs.declared.events.Service.TheVariants.{Dhcp}
use Rattle.off_defs.specs.declared.events.What.TheVariants.{Datagram}
use Rattle.off_defs.specs.declared.keys.Key.TheVariants as key
use Rattle.off_defs.specs.declared.writes.Write.{Write}
use Rattle.off_defs.specs.declared.results.Outcome.{Outcome}
use Rattle.off_defs.specs.declared.tables.DeviceLease.{DeviceLease}
use Rattle.off_defs.specs.State.{Tables, State, Effect, at_moment}
use Rattle.off_defs.specs.Tables.{write_all}
use Rattle.off_dhcp.specs.declared.faults.DhcpFault.{DhcpFault}
use Rattle.off_dhcp.specs.Datagram.{Received, message_of}
use Rattle.off_account_rules.specs.Rows.{device_in}
use Rattle.off_account_rules.specs.Good.{Good, device_owner}
use Rattle.off_asking.specs.Asking.{client}
use Rattle.off_lease_rules.specs.Steps.{step_of, dhcp_step}
use Rattle.off_lease_laws.proofs.KindLemmas.{others_stay}
use Rattle.off_cpe_rules.specs.Behind.{modem_behind}
use Rattle.off_cpe_rules.specs.Steps.{step_behind}
use Rattle.off_cpe_rules.specs.Words.{acts}
use Rattle.off_cpe_laws.specs.Laws.{after_step}
use Rattle.off_cpe_laws.proofs.WordLemmas.{refused_writes}
use Rattle.off_book.specs.Dhcp.{device_line}
use Rattle.off_book.specs.Step.{Step}
use Rattle.off_book.specs.Run.{Turn, effect_of}
use Rattle.off_laws.specs.Leases.{TakesMessage, moment_of}
use Rattle.off_laws.proofs.Ways.{Way, stays, serves, forgets, hears, answers, messages, devices, way}
use Rattle.off_cpe_laws.proofs.RowLemmas.{device_read}
use Rattle.off_cpe_boot_laws.specs.Known.{IsBehind}
use Rattle.off_cpe_boot_laws.specs.Waiting.{ServesDevice, GivesUp, DeviceKeeps}
use Rattle.off_cpe_boot_laws.proofs.Behind.{behind_is}
use Rattle.off_cpe_boot_laws.proofs.Fates as fates
use Rattle.off_cpe_boot_laws.proofs.Clerks.{request_becomes}

-- a modem's message leaves the rows of devices
message_leaves : (t : Tables) (now : ℕ) (read : Result Received DhcpFault) (address : Ip4) → device_in (write_all t (step_of t now read).writes) address ≡ device_in t address
message_leaves t now (Ok m) address = ap (device_read address) (others_stay t now m (key.Device address) (λ e. omega (arith, e)) (λ e. omega (arith, e)))
message_leaves t now read address = refl

pub datagram_leaves : (t : Tables) (now : ℕ) (bytes : List ℕ) (address : Ip4) → device_in (write_all t (dhcp_step t now bytes).writes) address ≡ device_in t address
unfolding dhcp_step
datagram_leaves t now bytes address = message_leaves t now (message_of bytes) address

-- ---- the lease is as it was, or the turn served the device, which keeps the address or gave it up

pub data Becomes (s : State) (turn : Turn) (modem device : Mac) (address : Ip4) (u : Tables) : Type 0 where
  remains : device_in u address ≡ device_in s.tables address → Becomes s turn modem device address u
  renews : ServesDevice device turn → DeviceKeeps modem device address s.tables u → Becomes s turn modem device address u
  given : GivesUp modem device address s turn → Becomes s turn modem device address u

module _ (s : State) (turn : Turn) (modem device : Mac) (address : Ip4) (lease : DeviceLease) (good : Good s.tables)
    (there : device_in s.tables address ≡ Some lease) (owned : device_owner lease.hold ≡ Some (modem, device)) (live : moment_of s turn < lease.expiry.0) where
  abbrev B : Tables → Type 0
  B u = Becomes s turn modem device address u

  abbrev here : State
  here = at_moment s turn.event.at.0

  -- the turn took a message of a device
  module _ (from : Peer) (bytes : List ℕ) (m : Received) (other : Mac) (came : turn.event.what ≡ Datagram Dhcp from bytes) (read : message_of bytes ≡ Ok m)
      (behind : modem_behind s.tables m ≡ Some other) (line : turn.said.line ≡ device_line (step_behind s.tables (moment_of s turn) m other).word) where
    takes : TakesMessage m turn
    takes = record { from = from; bytes = bytes; came = came; read = read }

    served : acts (step_behind s.tables (moment_of s turn) m other).word ≡ true → client m ≡ device → ServesDevice device turn
    served acting sender = record { message = m; word = (step_behind s.tables (moment_of s turn) m other).word; takes = takes; sender = sender; line = line; acting = acting }

    by_fate : acts (step_behind s.tables (moment_of s turn) m other).word ≡ true → fates.Fate s.tables m other (modem, device) address (after_step s.tables (moment_of s turn) m other)
        → B (after_step s.tables (moment_of s turn) m other)
    unfolding served
    by_fate acting (fates.stays same) = remains same
    by_fate acting (fates.keeps owner kept) = renews (served acting (ap (λ (w : Mac × Mac). w.1) owner)) kept
    by_fate acting (fates.gives owner up) =
        given (record {
          served = served acting (ap (λ (w : Mac × Mac). w.1) owner);
          behind = subst (λ (w : Mac). IsBehind s.tables m w) (ap (λ (w : Mac × Mac). w.0) owner) (behind_is s.tables m other behind);
          gives = up;
        })

    message_becomes : B (after_step s.tables (moment_of s turn) m other)
    message_becomes =
        elim (acts (step_behind s.tables (moment_of s turn) m other).word) as (λ b. acts (step_behind s.tables (moment_of s turn) m other).word ≡ b → B (after_step s.tables (moment_of s turn) m other)) [
          | true ↦ λ acting. by_fate acting (fates.fate s.tables good (moment_of s turn) m other (modem, device) address lease there owned live)
          | false ↦ λ refused. remains (ap (λ (writes : List Write). device_in (write_all s.tables writes) address) (refused_writes s.tables (moment_of s turn) m other refused))
        ] refl

  way_becomes : (outcome : Outcome) (effect : Effect) → turn.said.line ≡ effect.said.line → Way here turn.event.what outcome effect → B effect.after.tables
  way_becomes outcome effect line (stays is none) = remains (ap (λ (u : State). device_in u.tables address) is)
  way_becomes outcome effect line (serves transfers is none) = remains (ap (λ (u : State). device_in u.tables address) is)
  way_becomes outcome effect line (forgets conn is none) = remains (ap (λ (u : State). device_in u.tables address) is)
  way_becomes outcome effect line (hears conn bytes room is none) = remains (ap (λ (u : State). device_in u.tables address) is)
  way_becomes outcome effect line (answers conn piece method target body came acted is) =
      elim (request_becomes address s.tables good (moment_of s turn) method target body) as (λ c. B effect.after.tables) [
        | inl same ↦ remains (ap (λ (e : Effect). device_in e.after.tables address) is ∙ same)
        | inr gone ↦ absurd (gone.0 lease there live)
      ]
  way_becomes outcome effect line (messages from bytes came acted is) =
      remains (ap (λ (e : Effect). device_in e.after.tables address) is ∙ datagram_leaves s.tables (moment_of s turn) bytes address)
  way_becomes outcome effect line (devices from bytes m other came acted read behind is) =
      subst (λ (e : Effect). B e.after.tables) (sym is) (message_becomes from bytes m other came read behind (line ∙ ap (λ (e : Effect). e.said.line) is))

  pub turn_becomes : (after : State) → Step s turn.event turn.outcome (effect_of turn after) → B after.tables
  unfolding Step
  turn_becomes after step = way_becomes turn.outcome (effect_of turn after) refl (way here turn.event.what turn.outcome (effect_of turn after) step)
