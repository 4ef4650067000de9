use Rattle.std.proofs.Common.{cond}
use Rattle.std.proofs.lemmas.Map.Entries.{sum_by_values_permutation}
use Rattle.off_users.specs.declared.named.Named.{Named}
use Rattle.off_users.proofs.users.room_for_modems.Goals as goal

pub returns-in-Ok-clause-counts : goal.returns-in-Ok-clause-counts
returns-in-Ok-clause-counts c = λ p. sum_by_values_permutation (λ (x : Named). cond (p x) 1 0) _ _ c.reserve.ensures.entries.0
