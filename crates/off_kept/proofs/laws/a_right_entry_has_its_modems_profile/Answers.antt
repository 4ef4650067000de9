use Rattle.off_kept.proofs.RightLemmas.{right_profile}
use Rattle.off_kept.proofs.laws.a_right_entry_has_its_modems_profile.Goals as goal

pub returns : goal.returns
returns c = right_profile
