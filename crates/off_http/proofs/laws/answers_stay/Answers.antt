use Rattle.off_http.proofs.Meanings.{meaning_stays}
use Rattle.off_http.proofs.laws.answers_stay.Goals as goal

pub returns : goal.returns
returns c = meaning_stays
