use Rattle.std.proofs.Common.{subst}
use Rattle.off_runs.specs.Held.{PoolHeld}
use Rattle.off_runs.specs.Changes.{Copied}
use Rattle.off_runs.proofs.GatherLemmas.{copied_part}
use Rattle.off_runs.proofs.pool_runs.PoolRuns.copy.Goals as goal

pub returns-then-low-high : goal.returns-then-low-high
returns-then-low-high c =
    let to = c.copy_part.new.to.items in
    let old : PoolHeld = record { number = c.self.inside.number; pool = c.self.inside.pool; hub = c.self.inside.hub; expiries = c.self.inside.expiries.items } in
    let other : PoolHeld = record { number = c.other.inside.number; pool = c.other.inside.pool; hub = c.other.inside.hub; expiries = c.other.inside.expiries.items } in
    let here : Copied other old (record old { expiries = to }) =
    copied_part other old c.max-low.result c.min-high.result to c.max-low.ensures c.min-high.ensures c.copy_part.ensures.part in
    subst (λ (h : PoolHeld). Copied c.args.other.now h (record old { expiries = to })) c.self.view_is
    (subst (λ (h : PoolHeld). Copied h old (record old { expiries = to })) c.other.view_is here)
