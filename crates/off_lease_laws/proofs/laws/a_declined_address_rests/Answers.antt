use Rattle.off_lease_laws.proofs.EffectLemmas.{declines_rest}
use Rattle.off_lease_laws.proofs.laws.a_declined_address_rests.Goals as goal

pub returns : goal.returns
returns c = declines_rest
