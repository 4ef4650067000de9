use Rattle.off_lease_laws.proofs.EffectLemmas.{offers_hold}
use Rattle.off_lease_laws.proofs.laws.an_offer_is_held.Goals as goal

pub returns : goal.returns
returns c = offers_hold
