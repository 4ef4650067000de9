-- The rows before this one are put, and none of them breaks a rule.
use Rattle.std.proofs.Common.{◌*◌}
use Rattle.off_outside.specs.KeeperCalls.{Reads, Spent}
use Rattle.off_commands.specs.Imports.{Stands}
use Rattle.off_commands.proofs.RowsLemmas.{Led}
use Rattle.off_commands.proofs.putting.put_rows.Given as goal

abbrev pub invariant-loop-i : goal.invariant-loop-i
invariant-loop-i g l =
    Stands l.counts l.so_far
    × Reads (Led l.counts l.rows l.i l.so_far) (g.K.Keeper.seen l.fn.keeper) (g.K.Keeper.seen l.keeper)
    × Spent (3 * l.i) (g.K.Keeper.seen l.fn.keeper) (g.K.Keeper.seen l.keeper)
