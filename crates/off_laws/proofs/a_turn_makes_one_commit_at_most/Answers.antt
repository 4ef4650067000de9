use Rattle.off_laws.proofs.RunLaws.{one_commit}
use Rattle.off_laws.proofs.a_turn_makes_one_commit_at_most.Goals as goal

pub returns : goal.returns
returns c = one_commit
