use Rattle.off_kept.proofs.RightLemmas.{first_right}
use Rattle.off_kept.proofs.laws.a_right_entry_may_be_first.Goals as goal

pub returns : goal.returns
returns c = first_right
