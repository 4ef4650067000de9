use Rattle.off_office.proofs.AnswerLemmas.{carried_ends, refuse_ends}
use Rattle.off_office.proofs.CommandLemmas.{decided_spent, done_spent}
use Rattle.off_office.proofs.office.Office.answer_command.Goals as goal

pub returns-in-Ok-clause-told : goal.returns-in-Ok-clause-told
returns-in-Ok-clause-told g c =
    carried_ends c.carry_out.result _ _ _ _ _ _ _ _ _ (g.met.K.Keeper.rests c.args.keeper.now) c.in-Ok.ensures.told c.carry_out.ensures.told

pub returns-in-Ok-clause-spent : goal.returns-in-Ok-clause-spent
returns-in-Ok-clause-spent g c = done_spent _ _ _ _ _ _ c.plan.ensures.spent c.carry_out.ensures.spent c.in-Ok.ensures.commits

pub returns-in-Err-clause-told : goal.returns-in-Err-clause-told
returns-in-Err-clause-told g c =
    refuse_ends c.in-Err.err c.refuse.result _ _ _ _ _ _ (g.met.K.Keeper.rests c.args.keeper.now) c.in-Err.ensures.told c.refuse.ensures

pub returns-in-Err-clause-spent : goal.returns-in-Err-clause-spent
returns-in-Err-clause-spent g c = decided_spent _ _ _ _ c.plan.ensures.spent
