use Rattle.off_boot_laws.proofs.Between.{rows_stay}
use Rattle.off_boot_laws.proofs.rows_that_are_left_stay.Goals as goal

pub returns : goal.returns
returns c = rows_stay
