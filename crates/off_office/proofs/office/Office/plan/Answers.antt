use Rattle.std.proofs.Common.{refl, subst}
use Rattle.off_outside.specs.KeeperCalls.{Reads}
use Rattle.off_office.specs.Desk.{Desk}
use Rattle.off_office.specs.Answering.{IsPlanned, NotPlanned}
use Rattle.off_office.specs.contracts.office.Office.{the_view}
use Rattle.off_office.proofs.CommandLemmas.{is_planned, not_planned, commits_within, counts_rows}
use Rattle.off_office.proofs.office.Office.plan.Goals as goal

pub returns-in-Ok-clause-told : goal.returns-in-Ok-clause-told
returns-in-Ok-clause-told g c =
    subst (λ (d : Desk). Reads (IsPlanned d c.args.c.now c.in-Ok.planned) (g.K.Keeper.seen c.args.keeper.now) (g.K.Keeper.seen c.decide.new.keeper))
    c.self.view_is (is_planned _ (the_view c.self.inside) c.self.inside.users _ _ _ refl c.in-Ok.ensures.told)

pub returns-in-Ok-clause-commits : goal.returns-in-Ok-clause-commits
returns-in-Ok-clause-commits g c = commits_within _ _ c.in-Ok.ensures.answers

pub returns-in-Ok-clause-rows : goal.returns-in-Ok-clause-rows
returns-in-Ok-clause-rows g c = counts_rows _ _ c.in-Ok.ensures.rows

pub returns-in-Err-clause-told : goal.returns-in-Err-clause-told
returns-in-Err-clause-told g c =
    subst (λ (d : Desk). NotPlanned d c.args.c.now c.in-Err.err (g.K.Keeper.seen c.args.keeper.now) (g.K.Keeper.seen c.decide.new.keeper))
    c.self.view_is (not_planned (the_view c.self.inside) c.self.inside.users _ _ _ _ refl c.in-Err.ensures.told)
