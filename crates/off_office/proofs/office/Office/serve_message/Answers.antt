use Rattle.std.proofs.Common.{◌≡◌, Option, Some, None, IfSome, option_map, Result, Ok, IfOk, sym, ap, subst, ◌∙◌}
use Rattle.off_defs.specs.State.{Tables}
use Rattle.off_account_rules.specs.Rows.{devices}
use Rattle.off_behind.proofs.FollowLemmas.{keeps_stands}
use Rattle.off_behind.specs.Neighbours.{StandsIn}
use Rattle.off_cpe_rules.specs.declared.results.DeviceStep.{DeviceStep}
use Rattle.off_cpe.specs.declared.answering.DeviceAnswer.{DeviceAnswer}
use Rattle.off_office.specs.Conditions.{KnowsDevices}
use Rattle.off_office.specs.Desk.{Desk}
use Rattle.off_outside.specs.declared.keeper.KeepErr.{KeepErr}
use Rattle.off_outside.specs.KeeperCalls.{Reads}
use Rattle.off_outside.proofs.KeeperLemmas.{reads_as}
use Rattle.off_office.proofs.LeaseLemmas.{DecidesDevice, device_serves, modem_serves, device_spent, modem_spent, untold_spent}
use Rattle.off_office.proofs.office.Office.serve_message.Goals as goal

abbrev steps : Option DeviceAnswer → Option DeviceStep
steps answer = option_map (λ a. a.step) answer

pub carry_device-requires-clause-stands : goal.carry_device-requires-clause-stands
carry_device-requires-clause-stands g c =
    let is : c.answer_by.result ≡ Ok (Some c.in-Ok-Some.answer) = let outer = c.in-Ok-Some.is in let inner = c.in-Ok-Some.field-0-is in cc in
    subst (λ (d : Desk). (t : Tables) → KnowsDevices d.devices t → StandsIn c.in-Ok-Some.answer.own t) c.self.view_is (λ t knows.
    subst (λ (r : Result (Option DeviceAnswer) KeepErr). IfOk r (λ answer. IfSome answer (λ a. StandsIn a.own t))) is
    (c.answer_by.ensures.stands t (keeps_stands c.self.inside.devices (devices t) knows)))

pub returns-in-Ok-Some-clause-told : goal.returns-in-Ok-Some-clause-told
returns-in-Ok-Some-clause-told g c =
    device_serves c.carry_device.result _ _ _ c.in-Ok-Some.answer.step _ _ _ _ (g.met.K.Keeper.rests c.args.keeper.now)
    (subst (λ (d : Desk). Reads (DecidesDevice (Some c.in-Ok-Some.answer.step) d c.args.m.now) (g.K.Keeper.seen c.args.keeper.now) (g.K.Keeper.seen c.answer_by.new.keeper)) c.self.view_is
    (reads_as c.in-Ok-Some.ensures.told (λ t says mirrors.
    let decided = says (record {
      leases = keeps_stands c.self.inside.devices (devices t) mirrors.devices;
      free = record { moment = c.self.invariant.1; keeps = mirrors.device_pools };
      hubs = record { moment = c.self.invariant.0; keeps = mirrors.pools };
    }) in
    sym (ap steps c.in-Ok-Some.field-0-is) ∙ decided)))
    c.carry_device.ensures.told

pub returns-in-Ok-Some-clause-spent : goal.returns-in-Ok-Some-clause-spent
returns-in-Ok-Some-clause-spent g c =
    let is : c.answer_by.result ≡ Ok (Some c.in-Ok-Some.answer) = let outer = c.in-Ok-Some.is in let inner = c.in-Ok-Some.field-0-is in cc in
    device_spent c.answer_by.result c.args.m.now c.in-Ok-Some.answer _ _ _ is c.answer_by.ensures.own c.answer_by.ensures.none c.answer_by.ensures.few c.answer_by.ensures.aside
    c.carry_device.ensures.spent

pub returns-in-Ok-None-clause-spent : goal.returns-in-Ok-None-clause-spent
returns-in-Ok-None-clause-spent g c =
    let is : c.answer_by.result ≡ Ok None = let outer = c.in-Ok-None.is in let inner = c.in-Ok-None.field-0-is in cc in
    modem_spent c.answer_by.result c.args.m.now _ _ _ is c.answer_by.ensures.spent c.answer_by.ensures.idle c.serve_modem.ensures.spent

pub returns-in-Err-clause-spent : goal.returns-in-Err-clause-spent
returns-in-Err-clause-spent g c =
    untold_spent c.answer_by.result c.in-Err.err c.args.m.now _ _ c.in-Err.is c.answer_by.ensures.own c.answer_by.ensures.once c.answer_by.ensures.few

pub returns-in-Ok-None-clause-told : goal.returns-in-Ok-None-clause-told
returns-in-Ok-None-clause-told g c =
    modem_serves c.serve_modem.result _ _ _ _ _ _ _ (g.met.K.Keeper.rests c.args.keeper.now)
    (subst (λ (d : Desk). Reads (DecidesDevice None d c.args.m.now) (g.K.Keeper.seen c.args.keeper.now) (g.K.Keeper.seen c.answer_by.new.keeper)) c.self.view_is
    (reads_as c.in-Ok-None.ensures.told (λ t says mirrors.
    let decided = says (record {
      leases = keeps_stands c.self.inside.devices (devices t) mirrors.devices;
      free = record { moment = c.self.invariant.1; keeps = mirrors.device_pools };
      hubs = record { moment = c.self.invariant.0; keeps = mirrors.pools };
    }) in
    sym (ap steps c.in-Ok-None.field-0-is) ∙ decided)))
    c.serve_modem.ensures.told
