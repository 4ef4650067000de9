-- Laws of devices' leases over whole runs.
use Rattle.std.specs.Prelude.{List}
use Rattle.off_defs.specs.State.{State}
use Rattle.off_account_rules.specs.Good.{Good}
use Rattle.off_book.specs.Step.{Step}
use Rattle.off_book.specs.Run.{Turn, Run, effect_of}
use Rattle.off_cpe_runs.specs.Holding.{DevicesAreRight, Grants, IsWithinLimit, LeavesOthers}
use Rattle.off_cpe_runs.specs.Holding.{TakesDevices, DevicesHoldThrough}

-- in every state of a run
abbrev pub DevicesStayRight : Type 0
DevicesStayRight =
    (s last : State) (turns : List Turn) → Good s.tables → Run s turns last → DevicesAreRight last

abbrev pub GrantsAreWithinLimits : Type 0
GrantsAreWithinLimits =
    (s after : State) (turn : Turn) → Good s.tables
    → Step s turn.event turn.outcome (effect_of turn after) → Grants turn.said.line
    → IsWithinLimit s turn after

abbrev pub DevicesLeaveOthers : Type 0
DevicesLeaveOthers =
    (s after : State) (turn : Turn) → Step s turn.event turn.outcome (effect_of turn after)
    → TakesDevices s turn → LeavesOthers s.tables after.tables

abbrev pub DevicesHoldOverRuns : Type 0
DevicesHoldOverRuns = (s : State) (turns : List Turn) → Good s.tables → DevicesHoldThrough s turns
