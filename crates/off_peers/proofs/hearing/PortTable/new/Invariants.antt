use Rattle.std.proofs.Common.{◌≡◌, [], replicate}
use Rattle.off_peers.proofs.hearing.PortTable.new.Given as goal

abbrev pub invariant-loop-row : goal.invariant-loop-row
invariant-loop-row l = l.rows.items ≡ replicate l._row []
