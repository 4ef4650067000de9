use Rattle.off_laws.proofs.StepLaws.{tables_by_commit}
use Rattle.off_laws.proofs.the_tables_change_by_commits.Goals as goal

pub returns : goal.returns
returns c = tables_by_commit
