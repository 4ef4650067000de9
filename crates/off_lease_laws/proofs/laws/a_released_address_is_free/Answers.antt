use Rattle.off_lease_laws.proofs.EffectLemmas.{releases_free}
use Rattle.off_lease_laws.proofs.laws.a_released_address_is_free.Goals as goal

pub returns : goal.returns
returns c = releases_free
