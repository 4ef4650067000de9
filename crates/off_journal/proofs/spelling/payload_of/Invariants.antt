use Rattle.std.proofs.Common.{◌≡◌, take}
use Rattle.off_spelled.specs.Storable.{AllSpelled}
use Rattle.off_journal.specs.Payload.{payload_of}
use Rattle.off_journal.proofs.spelling.payload_of.Given as goal

abbrev pub invariant-loop-i : goal.invariant-loop-i
invariant-loop-i l = record {
  spelled : AllSpelled (take l.i l.writes);
  bytes : l.payload ≡ payload_of (take l.i l.writes);
  own : l.own ≡ l.initial.own;
}
