use Rattle.off_keepsql.proofs.BeginLemmas.{memory_steady}
use Rattle.off_keepsql.proofs.laws.memory_is_steady.Goals as goal

pub returns : goal.returns
returns c = memory_steady
