-- A device that waits keeps what it has; and it waits where it's left alone.
use Rattle.std.proofs.Common.{◌≡◌, ◌≢◌, ℕ, ◌<◌, List, [], ◌∷◌, ◌++◌, All, Some, option_and_then, refl, sym, ap, subst, ◌∙◌, arith}
use Rattle.std.proofs.lemmas.List.Elements.{All-head, All-tail, All-same}
use Rattle.off_base.specs.declared.addresses.Ip4.{Ip4}
use Rattle.off_base.specs.declared.addresses.Peer.{Peer}
use Rattle.off_base.specs.declared.macs.Mac.{Mac}
use Rattle.off_defs.specs.declared.events.Service.TheVariants.{Dhcp}
use Rattle.off_defs.specs.declared.events.What.{What}
use Rattle.off_defs.specs.declared.events.What.TheVariants.{Datagram}
use Rattle.off_defs.specs.declared.results.Outcome.{Outcome}
use Rattle.off_defs.specs.declared.results.Outcome.TheVariants.{Did, Memory, Keeper}
use Rattle.off_defs.specs.declared.tables.DeviceLease.{DeviceLease}
use Rattle.off_defs.specs.State.{Tables, State, Effect, at_moment}
use Rattle.off_account_rules.specs.Rows.{device_in}
use Rattle.off_account_rules.specs.Good.{Good, device_owner}
use Rattle.off_table_laws.specs.Laws.{device_owner_in}
use Rattle.off_table_laws.proofs.TableLaws.{device_owned}
use Rattle.off_asking.specs.Asking.{client}
use Rattle.off_cpe_rules.specs.declared.words.DeviceWord.{DeviceWord}
use Rattle.off_book.specs.Dhcp.{device_line}
use Rattle.off_book.specs.Step.{Step, Does}
use Rattle.off_book.specs.Run.{Turn, Run, effect_of}
use Rattle.off_laws.specs.Leases.{moment_of}
use Rattle.off_laws.proofs.Lines.{line_is, device_tells}
use Rattle.off_laws.proofs.StepLaws.{moment_is_greatest, step_good}
use Rattle.off_laws.proofs.RunLaws.{one_end, moment_never_falls}
use Rattle.off_cpe_boot_laws.specs.Waiting.{ServesDevice, DoesNotServeDevice, GivesUp, DeviceLeaseLasts, DeviceWaits, DeviceKeeps, WaitingDevicesKeep, DeviceLeasesOutlast, DevicesLeftAloneWait, MostDoNotServeDevices}
use Rattle.off_cpe_boot_laws.proofs.Turns.{Becomes, remains, renews, given, turn_becomes}
use Rattle.off_boot_laws.proofs.Waiting.{one_message}

same_lease : (modem device : Mac) (address : Ip4) (t u : Tables) → device_in u address ≡ device_in t address → device_owner_in t address ≡ Some (modem, device) → DeviceKeeps modem device address t u
same_lease modem device address t u same owned = record {
  owned = ap (option_and_then (λ (lease : DeviceLease). device_owner lease.hold)) same ∙ owned;
  bound = λ b. record { expiry = b.expiry; is = same ∙ b.is };
}

-- ---- who waits

module _ (s after : State) (turn : Turn) (modem device : Mac) (address : Ip4) (good : Good s.tables) (step : Step s turn.event turn.outcome (effect_of turn after))
    (owned : device_owner_in s.tables address ≡ Some (modem, device)) (lasts : DeviceLeaseLasts address s turn) (stays : GivesUp modem device address s turn → ⊥) where
  becomes_keeps : Becomes s turn modem device address after.tables → DeviceKeeps modem device address s.tables after.tables
  becomes_keeps (remains same) = same_lease modem device address s.tables after.tables same owned
  becomes_keeps (renews served kept) = kept
  becomes_keeps (given up) = absurd (stays up)

  pub turn_keeps : DeviceKeeps modem device address s.tables after.tables
  turn_keeps =
      let l = device_owned (device_in s.tables address) (modem, device) owned in
      becomes_keeps (turn_becomes s turn modem device address l.0 good l.1 l.2 (lasts l.0 l.1) after step)

pub waits_on : (modem device : Mac) (address : Ip4) (s after : State) (turn : Turn) (turns : List Turn) → Step s turn.event turn.outcome (effect_of turn after)
    → DeviceWaits modem device address s (turn ∷ turns) → DeviceWaits modem device address after turns
waits_on modem device address s after turn turns step waits before later next from parts up_to =
    waits (turn ∷ before) later next from (ap (λ (rest : List Turn). turn ∷ rest) parts) (after, (step, up_to))

pub waiting_devices_keep : WaitingDevicesKeep
waiting_devices_keep s last [] modem device address good run owned waits =
    subst (λ (u : State). DeviceKeeps modem device address s.tables u.tables) (sym run) (record { owned = owned; bound = λ b. b })
waiting_devices_keep s last (turn ∷ turns) modem device address good run owned waits =
    let here = waits [] turns turn s refl refl in
    let first = turn_keeps s run.0 turn modem device address good run.1.0 owned here.0 here.1 in
    let rest =
    waiting_devices_keep run.0 last turns modem device address (step_good s turn.event turn.outcome (effect_of turn run.0) run.1.0 good) run.1.1 first.owned
    (waits_on modem device address s run.0 turn turns run.1.0 waits) in
    record { owned = rest.owned; bound = λ b. rest.bound (first.bound b) }

-- ---- who is left alone

module _ (modem device : Mac) (address : Ip4) (lease : DeviceLease) (owned : device_owner lease.hold ≡ Some (modem, device)) where
  abbrev There : State → Type 0
  There s = device_in s.tables address ≡ Some lease

  becomes_same : (s after : State) (turn : Turn) → There s → DoesNotServeDevice device turn → Becomes s turn modem device address after.tables → There after
  becomes_same s after turn there quiet (remains same) = same ∙ there
  becomes_same s after turn there quiet (renews served kept) = absurd (quiet served)
  becomes_same s after turn there quiet (given up) = absurd (quiet up.served)

  turn_outlasts : (s after : State) (turn : Turn) → Step s turn.event turn.outcome (effect_of turn after) → Good s.tables → There s → after.held.now < lease.expiry.0
      → DoesNotServeDevice device turn → There after
  turn_outlasts s after turn step good there live quiet =
      let moment = moment_is_greatest s turn.event turn.outcome (effect_of turn after) step in
      becomes_same s after turn there quiet
      (turn_becomes s turn modem device address lease good there owned (subst (λ (n : ℕ). n < lease.expiry.0) moment live) after step)

  outlasts : (s last : State) (turns : List Turn) → Good s.tables → Run s turns last → There s → All (DoesNotServeDevice device) turns → last.held.now < lease.expiry.0 → There last
  outlasts s last [] good run there quiet live = ap (λ (u : State). device_in u.tables address) run ∙ there
  outlasts s last (turn ∷ turns) good run there quiet live =
      let later = moment_never_falls run.0 last turns run.1.1 in
      let kept = turn_outlasts s run.0 turn run.1.0 good there (omega (arith, later, live)) (All-head (DoesNotServeDevice device) turn turns quiet) in
      outlasts run.0 last turns (step_good s turn.event turn.outcome (effect_of turn run.0) run.1.0 good) run.1.1 kept (All-tail (DoesNotServeDevice device) turn turns quiet) live

  lasts_here : (s after last : State) (turn : Turn) (later : List Turn) → Step s turn.event turn.outcome (effect_of turn after) → Run after later last
      → There s → last.held.now < lease.expiry.0 → DeviceLeaseLasts address s turn
  lasts_here s after last turn later step run there live other is =
      let moment = moment_is_greatest s turn.event turn.outcome (effect_of turn after) step in
      let never = moment_never_falls after last later run in
      let both : Some lease ≡ Some other = sym there ∙ is in
      let same : lease ≡ other = cc in
      subst (λ (l : DeviceLease). moment_of s turn < l.expiry.0) same (omega (arith, moment, never, live))

  waits_at : (s from last : State) (before later : List Turn) (turn : Turn) → Good s.tables → Run s (before ++ turn ∷ later) last
      → There s → All (DoesNotServeDevice device) (before ++ turn ∷ later) → last.held.now < lease.expiry.0 → Run s before from
      → DeviceLeaseLasts address from turn × (GivesUp modem device address from turn → ⊥)
  waits_at s from last [] later turn good run there quiet live up_to =
      subst (λ (u : State). DeviceLeaseLasts address u turn × (GivesUp modem device address u turn → ⊥)) (sym up_to)
      (lasts_here s run.0 last turn later run.1.0 run.1.1 there live, λ up. All-head (DoesNotServeDevice device) turn later quiet up.served)
  waits_at s from last (first ∷ before) later turn good run there quiet live up_to =
      let never = moment_never_falls run.0 last (before ++ turn ∷ later) run.1.1 in
      let same : up_to.0 ≡ run.0 = one_end s up_to.0 run.0 (first ∷ []) (up_to.0, (up_to.1.0, refl)) (run.0, (run.1.0, refl)) in
      let kept = turn_outlasts s run.0 first run.1.0 good there (omega (arith, never, live)) (All-head (DoesNotServeDevice device) first (before ++ turn ∷ later) quiet) in
      waits_at run.0 from last before later turn (step_good s first.event first.outcome (effect_of first run.0) run.1.0 good) run.1.1 kept
      (All-tail (DoesNotServeDevice device) first (before ++ turn ∷ later) quiet) live (subst (λ (u : State). Run u before from) same up_to.1.1)

pub device_leases_outlast : DeviceLeasesOutlast
device_leases_outlast s last turns modem device address lease good run there owned quiet live = outlasts modem device address lease owned s last turns good run there quiet live

pub devices_left_alone_wait : DevicesLeftAloneWait
devices_left_alone_wait s last turns modem device address lease good run there owned quiet live before later turn from parts up_to =
    waits_at modem device address lease owned s from last before later turn good (subst (λ (ts : List Turn). Run s ts last) parts run) there
    (All-same (DoesNotServeDevice device) (before ++ turn ∷ later) turns (sym parts) quiet) live up_to

-- ---- turns that don't serve

undone_says : (s : State) (from : Peer) (bytes : List ℕ) (outcome : Outcome) (effect : Effect) (said : DeviceWord) → Does s (Datagram Dhcp from bytes) outcome effect
    → effect.said.line ≡ device_line said → outcome ≢ Did → ⊥
undone_says s from bytes Did effect said does line undone = undone refl
undone_says s from bytes Memory effect said does line undone = (device_tells from bytes said effect.said.line line).0 (line_is effect _ does)
undone_says s from bytes Keeper effect said does line undone = (device_tells from bytes said effect.said.line line).1 (line_is effect _ does)

undone_serves : (s after : State) (turn : Turn) (device : Mac) → Step s turn.event turn.outcome (effect_of turn after) → turn.outcome ≢ Did → ServesDevice device turn → ⊥
unfolding Step
undone_serves s after turn device step undone served =
    undone_says (at_moment s turn.event.at.0) served.takes.from served.takes.bytes turn.outcome (effect_of turn after) served.word
    (subst (λ (what : What). Does (at_moment s turn.event.at.0) what turn.outcome (effect_of turn after)) served.takes.came step) served.line undone

pub most_do_not_serve_devices : MostDoNotServeDevices
most_do_not_serve_devices s after turn device step = record {
  undone = λ undone served. undone_serves s after turn device step undone served;
  another = λ m takes apart served. apart (ap client (one_message turn m served.message takes served.takes) ∙ served.sender);
}
