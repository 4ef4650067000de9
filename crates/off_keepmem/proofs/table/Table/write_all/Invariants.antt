use Rattle.std.proofs.Common.{◌≡◌, ◌+◌, ◌≤◌}
use Rattle.off_keepmem.specs.Entries.{Rises, rows_after}
use Rattle.off_keepmem.specs.Puts.{puts_in}
use Rattle.off_keepmem.proofs.table.Table.write_all.Given as goal

abbrev pub invariant-loop-write : goal.invariant-loop-write
invariant-loop-write l = record {
  entries : rows_after l.self.entries l.write-iterator.rest.items ≡ rows_after l.fn.self.entries l.fn.writes.items;
  rises : Rises l.self.entries;
  room : puts_in l.write-iterator.rest.items ≤ l.self.spare;
  spent : l.fn.self.spare + puts_in l.write-iterator.rest.items ≤ l.self.spare + puts_in l.fn.writes.items;
}
