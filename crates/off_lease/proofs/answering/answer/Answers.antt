use Rattle.std.proofs.Common.{List, None, sym, ap, ◌∙◌}
use Rattle.off_defs.specs.declared.writes.Write.{Write}
use Rattle.off_outside.proofs.KeeperLemmas.{reads_none}
use Rattle.off_lease_rules.specs.Steps.{lease_step_by}
use Rattle.off_lease.proofs.CaseLemmas.{own_step, none_are_enough, rows_are_enough}
use Rattle.off_lease.proofs.answering.answer.Goals as goal

pub returns-in-Some-clause-told : goal.returns-in-Some-clause-told
returns-in-Some-clause-told g c =
    reads_none (λ t stands.
    c.silent.ensures ∙ ap (λ (writes : List Write). lease_step_by c.in-Some.word writes None) c.new.ensures ∙ own_step t c.args.now.0 c.args.m.now c.in-Some.word c.in-Some.ensures)

pub returns-in-Some-clause-spent : goal.returns-in-Some-clause-spent
returns-in-Some-clause-spent g c = none_are_enough c.args.m.now c.in-Some.word _ c.in-Some.ensures

pub returns-in-None-clause-spent : goal.returns-in-None-clause-spent
returns-in-None-clause-spent g c = rows_are_enough c.args.m.now (sym c.in-None.ensures) c.answer_by_rows.ensures.spent
