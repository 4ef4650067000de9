use Rattle.off_keepsql.proofs.BeginLemmas.{honest_steady}
use Rattle.off_keepsql.proofs.laws.honest_files_are_steady.Goals as goal

pub returns : goal.returns
returns g c = honest_steady g.D.Disk
