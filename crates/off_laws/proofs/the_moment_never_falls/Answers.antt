use Rattle.off_laws.proofs.RunLaws.{moment_never_falls}
use Rattle.off_laws.proofs.the_moment_never_falls.Goals as goal

pub returns : goal.returns
returns c = moment_never_falls
