use Rattle.off_kept.proofs.RightLemmas.{kept_stays_right}
use Rattle.off_kept.proofs.laws.kept_bodies_stay_right.Goals as goal

pub returns : goal.returns
returns c = kept_stays_right
