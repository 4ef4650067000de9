use Rattle.off_http.proofs.Meanings.{one_meaning}
use Rattle.off_http.proofs.laws.one_answer.Goals as goal

pub returns : goal.returns
returns c = one_meaning
