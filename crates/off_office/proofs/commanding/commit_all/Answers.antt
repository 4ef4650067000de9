use Rattle.std.proofs.Common.{arith}
use Rattle.std.proofs.lemmas.Bool.Decides.{nat_tests}
use Rattle.off_outside.proofs.KeeperLemmas.{settled_none}
use Rattle.off_office.proofs.CommandLemmas.{settled_by, none_spent, commit_spent}
use Rattle.off_office.proofs.commanding.commit_all.Goals as goal

pub returns-then-is_empty-clause-told : goal.returns-then-is_empty-clause-told
returns-then-is_empty-clause-told g c = settled_none _ _ (grind (arith, nat_tests))

pub returns-then-is_empty-clause-spent : goal.returns-then-is_empty-clause-spent
returns-then-is_empty-clause-spent g c = none_spent _ _

pub returns-clause-spent : goal.returns-clause-spent
returns-clause-spent g c = commit_spent _ (grind (arith, nat_tests)) c.commit.ensures.counted

pub returns-clause-told : goal.returns-clause-told
returns-clause-told g c = settled_by c.commit.result _ _ _ (grind (arith, nat_tests)) c.commit.ensures.told
