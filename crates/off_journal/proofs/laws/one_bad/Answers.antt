use Rattle.off_journal.proofs.LawLemmas.{one_bad}
use Rattle.off_journal.proofs.laws.one_bad.Goals as goal

pub returns : goal.returns
returns c = one_bad
