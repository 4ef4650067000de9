use Rattle.std.proofs.Common.{ℕ, Option, ap}
use Rattle.std.specs.Option.{unwrap_or}
use Rattle.off_users.proofs.users.room_for_counts.Goals as goal

pub returns-in-Ok-clause-counts : goal.returns-in-Ok-clause-counts
returns-in-Ok-clause-counts c = λ n. ap (λ (o : Option ℕ). unwrap_or o 0) (c.reserve.ensures.entries.2 n)
