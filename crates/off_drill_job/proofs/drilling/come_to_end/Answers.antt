use Rattle.std.proofs.Common.{subst}
use Rattle.off_drill_job.specs.Drilling.{FindsRows}
use Rattle.off_drill_job.proofs.DrillLemmas.{ends_going, ends_unread, ends_with_rows}
use Rattle.off_drill_job.proofs.drilling.come_to_end.Goals as goal

pub returns-in-Ok-false : goal.returns-in-Ok-false
returns-in-Ok-false g c =
    ends_going c.carry_out.result c.args.count c.in-Ok.office (g.K.Keeper.seen c.args.keeper.now) (g.K.Keeper.seen c.start.new.keeper) (g.K.Keeper.seen c.has_rows.new.keeper) _ _ _
    (g.met.K.Keeper.rests c.args.keeper.now) c.in-Ok.ensures.held c.in-Ok.ensures.told
    (subst (λ b. FindsRows b (g.K.Keeper.seen c.start.new.keeper) (g.K.Keeper.seen c.has_rows.new.keeper)) c.in-Ok-false.field-0-test c.in-Ok-false.ensures) c.carry_out.ensures

pub returns-in-Ok : goal.returns-in-Ok
returns-in-Ok g c =
    ends_unread c.args.count c.requires c.in-Err-has_rows.err c.in-Ok.office (g.K.Keeper.seen c.args.keeper.now) (g.K.Keeper.seen c.start.new.keeper) (g.K.Keeper.seen c.has_rows.new.keeper) _
    (g.met.K.Keeper.rests c.args.keeper.now) (g.met.K.Keeper.rests c.start.new.keeper) c.in-Ok.ensures.told c.in-Err-has_rows.ensures

pub returns-in-Ok-true : goal.returns-in-Ok-true
returns-in-Ok-true g c =
    ends_with_rows c.args.count c.in-Ok.office (g.K.Keeper.seen c.args.keeper.now) (g.K.Keeper.seen c.start.new.keeper) (g.K.Keeper.seen c.has_rows.new.keeper) _
    (g.met.K.Keeper.rests c.args.keeper.now) c.in-Ok.ensures.told
    (subst (λ b. FindsRows b (g.K.Keeper.seen c.start.new.keeper) (g.K.Keeper.seen c.has_rows.new.keeper)) c.in-Ok-true.field-0-test c.in-Ok-true.ensures)
