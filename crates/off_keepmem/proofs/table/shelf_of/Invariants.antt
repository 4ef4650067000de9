use Rattle.std.proofs.Common.{◌<◌, ◌≤◌, ◌-◌, length, take, drop}
use Rattle.off_keepmem.specs.Entries.{AreBelow, AreAbove}
use Rattle.off_keepmem.specs.Shelves.{entries_on}
use Rattle.off_keepmem.proofs.table.shelf_of.Given as goal

abbrev pub invariant-search : goal.invariant-search
invariant-search l = record {
  order : l.low < l.high;
  within : l.high ≤ length l.shelves.items;
  front : AreBelow l.key (entries_on (take l.low l.shelves.items));
  behind : AreAbove l.key (entries_on (drop l.high l.shelves.items));
}

abbrev pub decreases-search : goal.decreases-search
decreases-search l = l.high - l.low
