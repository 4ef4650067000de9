use Rattle.std.proofs.Common.{◌≡◌}
use Rattle.off_drill_rules.specs.Rows.{founded, peopled}
use Rattle.off_drill_rules.specs.Law.{held_behind}
use Rattle.off_drill_parts.specs.Commands.{peopling}
use Rattle.off_drill_job.specs.Founding.{Builds}
use Rattle.off_drill_job.proofs.founding.people.Given as goal

abbrev pub invariant-loop-k : goal.invariant-loop-k
invariant-loop-k g l =
    Builds (peopling l.k) founded (peopled l.k) l.fn.office l.office (g.K.Keeper.seen l.fn.keeper) (g.K.Keeper.seen l.keeper) × (l.office.held ≡ held_behind 0)
