use Rattle.std.proofs.Common.{MatchOption, subst}
use Rattle.off_runs.specs.Held.{PoolHeld, NoneOpen, IsLeastOpen, expiry_at}
use Rattle.off_runs.specs.Changes.{first_of}
use Rattle.off_runs.proofs.LeastLemmas.{laid_least}
use Rattle.off_runs.proofs.pool_runs.PoolRuns.least.Goals as goal

pub returns-then-now-self : goal.returns-then-now-self
returns-then-now-self c =
    let i = c.self.inside in
    rw c.first_address.ensures
    (subst (λ (h : PoolHeld). MatchOption (first_of i.runs.items) (NoneOpen (expiry_at h) c.args.now.0 h.pool) (IsLeastOpen (expiry_at h) c.args.now.0 h.pool)) c.self.view_is
    (laid_least i.pool i.expiries.items i.laid_at.0 c.args.now.0 i.runs.items i.soonest (c.self.invariant.laid c.if-not-self.true) c.if-self-now.true c.if-now-self.true))
