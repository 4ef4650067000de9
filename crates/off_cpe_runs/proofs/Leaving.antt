-- A turn that took a message of a device leaves every row but leases of devices.
use Rattle.std.proofs.Common.{◌≡◌, ℕ, true, false, List, Option, Some, None, Ok, refl, ap, subst, ◌∙◌}
use Rattle.off_base.specs.declared.addresses.Peer.{Peer}
use Rattle.off_base.specs.declared.macs.Mac.{Mac}
use Rattle.off_defs.specs.declared.events.Service.TheVariants.{Dhcp}
use Rattle.off_defs.specs.declared.events.What.{What}
use Rattle.off_defs.specs.declared.events.What.TheVariants.{Datagram}
use Rattle.off_defs.specs.declared.keys.Key.{Key}
use Rattle.off_defs.specs.declared.keys.Key.TheVariants as key
use Rattle.off_defs.specs.declared.results.Outcome.{Outcome}
use Rattle.off_defs.specs.declared.results.Outcome.TheVariants.{Did, Memory, Keeper}
use Rattle.off_defs.specs.State.{State, Effect, at_moment}
use Rattle.off_defs.specs.Tables.{row_at}
use Rattle.off_dhcp.specs.Datagram.{Received, message_of}
use Rattle.off_order_laws.proofs.DevicePools.{is_no_device}
use Rattle.off_query_rules.specs.Asked.{query_of}
use Rattle.off_cpe_rules.specs.Behind.{modem_behind}
use Rattle.off_cpe_rules.specs.Steps.{step_behind}
use Rattle.off_book.specs.Dhcp.{MessageDid, DatagramDid, device_effect}
use Rattle.off_book.specs.Step.{Step, Does}
use Rattle.off_book.specs.Run.{effect_of}
use Rattle.off_laws.proofs.Devices.{row_aside, device_is}
use Rattle.off_cpe_runs.specs.Holding.{is_device}
use Rattle.off_cpe_runs.specs.Laws.{DevicesLeaveOthers}

no_device : (q : Key) → is_device q ≡ false → is_no_device q ≡ true
unfolding is_no_device
no_device (key.Device address) e = cc
no_device q e = refl

module _ (s : State) (bytes : List ℕ) (m : Received) (modem : Mac) (read : message_of bytes ≡ Ok m) (behind : modem_behind s.tables m ≡ Some modem) (q : Key) (other : is_device q ≡ false) where
  abbrev Left : Effect → Type 0
  Left effect = row_at effect.after.tables q ≡ row_at s.tables q

  same_left : (effect one : Effect) → effect ≡ one → one.after ≡ s → Left effect
  same_left effect one is same = ap (λ (e : Effect). row_at e.after.tables q) is ∙ ap (λ (u : State). row_at u.tables q) same

  datagram_leaves : (effect : Effect) (asked : Option (List ℕ)) → DatagramDid s bytes effect asked → Left effect
  datagram_leaves effect (Some query) did = same_left effect _ did refl
  datagram_leaves effect None did =
      let is : effect ≡ device_effect s (step_behind s.tables s.held.now m modem) =
      subst (MessageDid s bytes effect) (device_is s.tables s.held.now bytes m modem read behind) did in
      ap (λ (e : Effect). row_at e.after.tables q) is ∙ row_aside s.tables s.held.now m modem q (no_device q other)

  does_leave : (from : Peer) (outcome : Outcome) (effect : Effect) → Does s (Datagram Dhcp from bytes) outcome effect → Left effect
  does_leave from Did effect does = datagram_leaves effect (query_of bytes) does
  does_leave from Memory effect does = same_left effect _ does refl
  does_leave from Keeper effect does = same_left effect _ does refl

pub devices_leave_others : DevicesLeaveOthers
unfolding Step
devices_leave_others s after turn step d q other =
    does_leave (at_moment s turn.event.at.0) d.takes.bytes d.message d.modem d.takes.read d.behind q other d.takes.from turn.outcome (effect_of turn after)
    (subst (λ (what : What). Does (at_moment s turn.event.at.0) what turn.outcome (effect_of turn after)) d.takes.came step)
