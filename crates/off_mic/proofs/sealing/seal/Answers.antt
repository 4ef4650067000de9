use Rattle.off_mic.proofs.SealLemmas.{seal_only, seal_first}
use Rattle.off_mic.proofs.sealing.seal.Goals as goal

pub returns-clause-only : goal.returns-clause-only
returns-clause-only c = seal_only c.args.file.now c.args.secret.now c.found_seal.result c.found_seal.ensures

pub returns-clause-first : goal.returns-clause-first
returns-clause-first c = seal_first c.args.file.now c.args.secret.now c.found_seal.result c.found_seal.ensures
