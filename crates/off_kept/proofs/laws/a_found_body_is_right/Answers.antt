use Rattle.off_kept.proofs.RightLemmas.{found_right}
use Rattle.off_kept.proofs.laws.a_found_body_is_right.Goals as goal

pub returns : goal.returns
returns c = found_right
