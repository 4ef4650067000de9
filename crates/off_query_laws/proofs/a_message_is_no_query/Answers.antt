use Rattle.off_query_laws.proofs.KindLemmas.{no_query}
use Rattle.off_query_laws.proofs.a_message_is_no_query.Goals as goal

pub returns : goal.returns
returns c = no_query
