use Rattle.off_lease_laws.proofs.GoodLemmas.{good_stays}
use Rattle.off_lease_laws.proofs.laws.good_tables_stay_good.Goals as goal

pub returns : goal.returns
returns c = good_stays
