use Rattle.std.proofs.Common.{◌≤◌, ◌-◌, length, take, drop}
use Rattle.off_keepmem.specs.Entries.{AreBelow, NoneBelow}
use Rattle.off_keepmem.proofs.shelf.place_of.Given as goal

abbrev pub invariant-search : goal.invariant-search
invariant-search l = record {
  order : l.low ≤ l.high;
  within : l.high ≤ length l.entries.items;
  front : AreBelow l.key (take l.low l.entries.items);
  behind : NoneBelow l.key (drop l.high l.entries.items);
}

abbrev pub decreases-search : goal.decreases-search
decreases-search l = l.high - l.low
