use Rattle.off_mic.proofs.CheckLemmas.{verified_only}
use Rattle.off_mic.proofs.checking.verify.Goals as goal

pub returns-clause-only : goal.returns-clause-only
returns-clause-only c = verified_only c.args.file.now c.args.secret.now c.found_verdict.result c.found_verdict.ensures
