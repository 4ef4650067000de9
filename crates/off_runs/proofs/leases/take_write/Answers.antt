use Rattle.std.proofs.Common.{ℕ, Option, subst}
use Rattle.off_defs.specs.declared.tables.Pool.{Pool}
use Rattle.off_runs.specs.Leases.{pools_by}
use Rattle.off_runs.specs.Shelf.{Shelved}
use Rattle.off_runs.proofs.leases.take_write.Goals as goal

pub returns-clause-shelved : goal.returns-clause-shelved
returns-clause-shelved c = λ g by s.
    subst (λ (o : Option (ℕ × Option Pool)). Shelved g (pools_by o by) c.take_pool.new.pools.items c.take_pool.new.aside.items) c.in-Some.ensures.is
    (c.take_pool.ensures.shelved g by s)
