use Rattle.off_laws.proofs.StepLaws.{moment_is_greatest}
use Rattle.off_laws.proofs.the_moment_is_the_greatest_so_far.Goals as goal

pub returns : goal.returns
returns c = moment_is_greatest
