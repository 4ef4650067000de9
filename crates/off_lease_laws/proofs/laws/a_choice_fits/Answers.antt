use Rattle.off_lease_laws.proofs.FreeLemmas.{choice_fits}
use Rattle.off_lease_laws.proofs.laws.a_choice_fits.Goals as goal

pub returns : goal.returns
returns c = choice_fits
