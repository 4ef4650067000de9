use Rattle.std.proofs.Common.{◌≡◌, drop}
use Rattle.off_tree.specs.Value.{is_name}
use Rattle.off_tree.proofs.values.is_name.Given as goal

abbrev pub invariant-loop-place : goal.invariant-loop-place
invariant-loop-place l = is_name (drop l.place l.value) ≡ is_name l.value
