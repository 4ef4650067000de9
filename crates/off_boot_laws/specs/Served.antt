-- The same for an operator: where every turn of a run goes well, nothing is asked of a turn.
use Rattle.std.specs.Prelude.{List, All}
use Rattle.off_defs.specs.State.{State}
use Rattle.off_account_rules.specs.Good.{Good}
use Rattle.off_book.specs.Run.{Turn}
use Rattle.off_boot_laws.specs.Went.{GoesWell, Anyhow}
use Rattle.off_boot_laws.specs.Boot.{BootsBy}
use Rattle.off_boot_laws.specs.Keeping.{KeepsBy}

-- who asks boots, and who asks again keeps its address
pub record ModemsAreServed (Well : Turn → Type 0) (s : State) (turns : List Turn) : Type 0 where
  pub boots : BootsBy Well s turns
  pub keeps : KeepsBy Well s turns

abbrev pub AllAreServed : Type 0
AllAreServed = (s : State) (turns : List Turn) → Good s.tables → All GoesWell turns
    → ModemsAreServed Anyhow s turns
