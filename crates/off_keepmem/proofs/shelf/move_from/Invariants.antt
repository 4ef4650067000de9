use Rattle.std.proofs.Common.{◌≡◌, ◌+◌, ◌≤◌, ◌++◌, length, drop, vec_len}
use Rattle.std.specs.Vec.{vec_capacity}
use Rattle.std.specs.Vec.Iter.{drain_items}
use Rattle.off_keepmem.proofs.shelf.move_from.Given as goal

abbrev pub invariant-loop-entry : goal.invariant-loop-entry
invariant-loop-entry l = record {
  items : l.upper.items ++ drain_items l.entry-iterator ≡ l.fn.upper.items ++ drop l.fn.place l.fn.entries.items;
  room : vec_len l.upper + length (drain_items l.entry-iterator) ≤ vec_capacity l.upper;
  len : vec_len l.upper + length (drain_items l.entry-iterator) + l.fn.place ≡ vec_len l.fn.upper + vec_len l.fn.entries;
  grown : vec_capacity l.fn.upper ≤ vec_capacity l.upper;
}
