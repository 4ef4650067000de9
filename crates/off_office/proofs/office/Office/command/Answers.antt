use Rattle.std.proofs.lemmas.Result.{err_from_is_err_and}
use Rattle.off_office.proofs.CommandLemmas.{command_done, command_fits, command_refused, command_undone, decided_spent, done_spent}
use Rattle.off_office.proofs.office.Office.command.Goals as goal

pub returns-clause-told : goal.returns-clause-told
returns-clause-told g c =
    command_done _ _ _ _ c.reach.new.self _ _ _ _ c.reach.ensures (g.met.K.Keeper.rests c.args.keeper.now) c.in_ok-planned.ensures.told c.in_ok-settle.ensures.told c.in_ok-settle.ensures.ok

pub returns-in_err-planned-clause-told : goal.returns-in_err-planned-clause-told
returns-in_err-planned-clause-told g c =
    let p = err_from_is_err_and c.from_residual.result c.from_residual.ensures.1 in
    rw (p.1, p.2) (command_refused _ _ _ _ c.reach.new.self _ _ c.reach.ensures (g.met.K.Keeper.rests c.args.keeper.now) c.in_err-planned.ensures.told)

pub returns-in_err-settle-clause-told : goal.returns-in_err-settle-clause-told
returns-in_err-settle-clause-told g c =
    let p = err_from_is_err_and c.from_residual-in_err-settle.result c.from_residual-in_err-settle.ensures.1 in
    rw (p.1, p.2) (command_undone _ _ _ _ _ c.reach.new.self _ _ _ _ c.reach.ensures (g.met.K.Keeper.rests c.args.keeper.now) c.in_ok-planned.ensures.told c.in_err-settle.ensures.told c.in_err-settle.ensures.err)

pub returns-clause-spent : goal.returns-clause-spent
returns-clause-spent g c = done_spent _ _ _ _ _ _ c.plan.ensures.spent c.settle.ensures.spent c.in_ok-planned.ensures.commits

pub returns-in_err-planned-clause-spent : goal.returns-in_err-planned-clause-spent
returns-in_err-planned-clause-spent g c = decided_spent _ _ _ _ c.plan.ensures.spent

pub returns-in_err-settle-clause-spent : goal.returns-in_err-settle-clause-spent
returns-in_err-settle-clause-spent g c = done_spent _ _ _ _ _ _ c.plan.ensures.spent c.settle.ensures.spent c.in_ok-planned.ensures.commits

pub returns-clause-good : goal.returns-clause-good
returns-clause-good g c = command_fits _ _ _ _ _ _ _ c.requires.sound (returns-clause-told g c)

pub returns-clause-walks : goal.returns-clause-walks
returns-clause-walks g c =
    λ t told. done_spent _ _ _ _ _ _ (c.plan.ensures.walks t told) c.settle.ensures.spent c.in_ok-planned.ensures.commits

pub returns-in_err-planned-clause-walks : goal.returns-in_err-planned-clause-walks
returns-in_err-planned-clause-walks g c = λ t told. decided_spent _ _ _ _ (c.plan.ensures.walks t told)

pub returns-in_err-settle-clause-walks : goal.returns-in_err-settle-clause-walks
returns-in_err-settle-clause-walks g c =
    λ t told. done_spent _ _ _ _ _ _ (c.plan.ensures.walks t told) c.settle.ensures.spent c.in_ok-planned.ensures.commits
