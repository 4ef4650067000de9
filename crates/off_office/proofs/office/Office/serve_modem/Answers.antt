use Rattle.std.proofs.Common.{◌≡◌, MatchResult, OnErr, subst}
use Rattle.off_office.specs.Desk.{Desk}
use Rattle.off_office.specs.Leasing.{DidStep}
use Rattle.off_outside.specs.KeeperCalls.{IsWritten, NotCommitted}
use Rattle.off_office.proofs.LeaseLemmas.{step_modem, modem_not, step_spent, not_spent}
use Rattle.off_office.proofs.office.Office.serve_modem.Goals as goal

pub returns-in-Ok-clause-told : goal.returns-in-Ok-clause-told
returns-in-Ok-clause-told g c =
    let decided = g.K.Keeper.seen c.decide_modem.new.keeper in
    let done = g.K.Keeper.seen c.carry_step.new.keeper in
    step_modem c.carry_step.result _ _ _ c.in-Ok.step _ _ _ _ (g.met.K.Keeper.rests c.args.keeper.now) c.in-Ok.ensures.told
    (subst (λ (d : Desk). MatchResult c.carry_step.result (λ _. DidStep c.in-Ok.step d c.carry_step.new.self c.carry_step.new.out decided done)
    (λ err. NotCommitted (IsWritten c.in-Ok.step.writes) err decided done)) c.decide_modem.ensures.same c.carry_step.ensures.told)

pub returns-in-Ok-clause-same : goal.returns-in-Ok-clause-same
returns-in-Ok-clause-same g c =
    subst (λ (d : Desk). OnErr c.carry_step.result (c.carry_step.new.self ≡ d)) c.decide_modem.ensures.same c.carry_step.ensures.same

pub returns-in-Ok-clause-spent : goal.returns-in-Ok-clause-spent
returns-in-Ok-clause-spent g c =
    step_spent c.args.m.now c.in-Ok.step.writes (g.K.Keeper.seen c.args.keeper.now) (g.K.Keeper.seen c.decide_modem.new.keeper) (g.K.Keeper.seen c.carry_step.new.keeper)
    c.decide_modem.ensures.spent c.carry_step.ensures.spent

pub returns-in-Err-clause-told : goal.returns-in-Err-clause-told
returns-in-Err-clause-told g c =
    modem_not c.in-Err.err c.args.m.now c.args.self.now c.decide_modem.new.self c.args.out.now (g.K.Keeper.seen c.args.keeper.now) (g.K.Keeper.seen c.decide_modem.new.keeper)
    (g.met.K.Keeper.rests c.args.keeper.now) c.in-Err.ensures.told

pub returns-in-Err-clause-spent : goal.returns-in-Err-clause-spent
returns-in-Err-clause-spent g c = not_spent c.args.m.now (g.K.Keeper.seen c.args.keeper.now) (g.K.Keeper.seen c.decide_modem.new.keeper) c.decide_modem.ensures.spent
