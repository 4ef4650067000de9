-- Those in front are as they were, and those behind are what a Tick leaves of them.
use Rattle.std.proofs.Common.{◌≡◌, ◌≤◌, ◌++◌, take, drop, vec_len}
use Rattle.std.specs.Vec.{vec_capacity}
use Rattle.off_tftp.specs.Kept.{ticked_list}
use Rattle.off_tftp.proofs.ticking.tick_all.Given as goal

abbrev pub invariant-back : goal.invariant-back
invariant-back l =
    (l.entries.items ≡ take l.left l.fn.entries.items ++ ticked_list l.now.0 (drop l.left l.fn.entries.items)) × (l.left ≤ vec_len l.fn.entries) × (l.left ≤ vec_len l.entries)
    × (vec_len l.entries ≤ vec_len l.fn.entries) × (vec_capacity l.entries ≡ vec_capacity l.fn.entries)

abbrev pub decreases-back : goal.decreases-back
decreases-back l = l.left
