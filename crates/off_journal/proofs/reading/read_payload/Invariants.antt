use Rattle.std.proofs.Common.{◌≡◌, ◌++◌, length}
use Rattle.off_spelled.specs.Storable.{AllSpelled}
use Rattle.off_journal.specs.Payload.{payload_of}
use Rattle.off_journal.proofs.reading.read_payload.Given as goal

abbrev pub invariant-loop-rest : goal.invariant-loop-rest
invariant-loop-rest l = record {
  spelled : AllSpelled l.writes.items;
  so_far : l.bytes ≡ payload_of l.writes.items ++ l.rest;
}

abbrev pub decreases-loop-rest : goal.decreases-loop-rest
decreases-loop-rest l = length l.rest
