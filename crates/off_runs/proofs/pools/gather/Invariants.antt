-- Those of the pools so far are copied.
use Rattle.std.proofs.Common.{take}
use Rattle.off_runs.specs.Changes.{CopiedAll}
use Rattle.off_runs.proofs.pools.gather.Given as goal

abbrev pub invariant-loop-place : goal.invariant-loop-place
invariant-loop-place l = CopiedAll l.pools.items (take l.place l.pools.items) l.fn.fresh l.fresh
