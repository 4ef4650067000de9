use Rattle.off_disk.proofs.Ends.{closed_1, closed_2}
use Rattle.off_disk.proofs.appending.close.Goals as goal

pub returns-in_default-clause-settles : goal.returns-in_default-clause-settles
returns-in_default-clause-settles g c = closed_1 c.in_default.ensures

pub returns-clause-settles : goal.returns-clause-settles
returns-clause-settles g c = closed_2 c.in-Ok.ensures
