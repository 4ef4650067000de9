use Rattle.off_mic.proofs.SealLemmas.{verdict_tells}
use Rattle.off_mic.proofs.laws.a_verdict_tells.Goals as goal

pub returns : goal.returns
returns c = verdict_tells
