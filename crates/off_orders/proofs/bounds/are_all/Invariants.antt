use Rattle.std.proofs.Common.{◌≡◌, true, take}
use Rattle.std.specs.List.{list_all}
use Rattle.off_orders.specs.Sound.{is_row_of}
use Rattle.off_orders.proofs.bounds.are_all.Given as goal

abbrev pub invariant-loop-place : goal.invariant-loop-place
invariant-loop-place l = list_all (is_row_of l.kind) (take l.place l.rows) ≡ true
