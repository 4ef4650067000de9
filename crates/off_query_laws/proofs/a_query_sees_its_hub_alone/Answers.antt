use Rattle.off_query_laws.proofs.AlikeLemmas.{seen_alike}
use Rattle.off_query_laws.proofs.a_query_sees_its_hub_alone.Goals as goal

pub returns : goal.returns
returns c = seen_alike
