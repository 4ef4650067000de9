use Rattle.off_journal.proofs.LawLemmas.{good_or_bad}
use Rattle.off_journal.proofs.laws.good_or_bad.Goals as goal

pub returns : goal.returns
returns c = good_or_bad
