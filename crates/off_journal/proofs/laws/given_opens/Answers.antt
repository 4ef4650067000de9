use Rattle.off_journal.proofs.LawLemmas.{given_opens}
use Rattle.off_journal.proofs.laws.given_opens.Goals as goal

pub returns : goal.returns
returns c = given_opens
