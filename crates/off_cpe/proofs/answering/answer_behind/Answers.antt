use Rattle.std.proofs.Common.{List, None, ap, ◌∙◌}
use Rattle.off_defs.specs.declared.writes.Write.{Write}
use Rattle.off_outside.proofs.KeeperLemmas.{reads_none}
use Rattle.off_cpe_rules.specs.Steps.{step_by}
use Rattle.off_cpe.proofs.CaseLemmas.{own_step}
use Rattle.off_cpe.proofs.answering.answer_behind.Goals as goal

pub returns-in-Some-clause-told : goal.returns-in-Some-clause-told
returns-in-Some-clause-told g c =
    reads_none (λ t known read.
    c.silent.ensures ∙ ap (λ (writes : List Write). step_by c.in-Some.word writes None) c.new.ensures
    ∙ own_step t c.args.now.0 c.args.modem.mac c.args.m.now c.in-Some.word c.in-Some.ensures)
