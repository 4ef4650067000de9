-- Those aside and the spares are as many as before.
use Rattle.std.proofs.Common.{◌≡◌, ◌+◌, ◌≤◌, vec_len}
use Rattle.std.specs.Vec.{vec_capacity}
use Rattle.off_runs.proofs.shelf.put_back.Given as goal

abbrev pub invariant-back : goal.invariant-back
invariant-back l = record {
  all : vec_len l.aside + vec_len l.spare ≡ vec_len l.fn.aside + vec_len l.fn.spare;
  room : vec_capacity l.fn.aside ≤ vec_capacity l.aside;
  kept : vec_capacity l.fn.spare ≤ vec_capacity l.spare;
}

abbrev pub decreases-back : goal.decreases-back
decreases-back l = vec_len l.aside
