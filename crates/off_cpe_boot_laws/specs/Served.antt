-- What a run does for devices that ask; and the same for an operator: where every turn of a run
-- goes well, nothing is asked of a turn.
use Rattle.std.specs.Prelude.{List, All}
use Rattle.off_defs.specs.State.{State}
use Rattle.off_account_rules.specs.Good.{Good}
use Rattle.off_book.specs.Run.{Turn}
use Rattle.off_boot_laws.specs.Went.{GoesWell, Anyhow}
use Rattle.off_cpe_boot_laws.specs.Binding.{DeviceBindsBy}
use Rattle.off_cpe_boot_laws.specs.Keeping.{DeviceKeepsBy}

-- a device that asks is bound, and one that asks again keeps its address
pub record DevicesAreServed (Well : Turn → Type 0) (s : State) (turns : List Turn) : Type 0 where
  pub binds : DeviceBindsBy Well s turns
  pub keeps : DeviceKeepsBy Well s turns

abbrev pub AllDevicesAreServed : Type 0
AllDevicesAreServed =
    (s : State) (turns : List Turn) → Good s.tables → All GoesWell turns
    → DevicesAreServed Anyhow s turns
