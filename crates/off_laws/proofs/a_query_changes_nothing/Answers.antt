use Rattle.off_laws.proofs.StepLaws.{queries_change_nothing}
use Rattle.off_laws.proofs.a_query_changes_nothing.Goals as goal

pub returns : goal.returns
returns c = queries_change_nothing
