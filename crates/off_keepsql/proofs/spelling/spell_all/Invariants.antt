use Rattle.std.proofs.Common.{◌≡◌, take, map as each}
use Rattle.off_keepsql.specs.Stored.{cell_write, AllSpelled}
use Rattle.off_keepsql.proofs.spelling.spell_all.Given as goal

abbrev pub invariant-loop-i : goal.invariant-loop-i
invariant-loop-i l = record {
  cells : l.cells ≡ each cell_write (take l.i l.writes);
  spelled : AllSpelled (take l.i l.writes);
  own : l.own ≡ l.initial.own;
}
