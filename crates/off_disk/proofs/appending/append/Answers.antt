use Rattle.off_disk.proofs.Ends.{appended_1, appended_2, appended_3}
use Rattle.off_disk.proofs.appending.append.Goals as goal

pub returns-in_default : goal.returns-in_default
returns-in_default g c = λ payload room same short. appended_1 c.in_default.ensures

pub returns-in_default-write_synced : goal.returns-in_default-write_synced
returns-in_default-write_synced g c = λ payload room same short. appended_2 room same c.in-Ok.ensures c.in_default-write_synced.ensures

pub returns : goal.returns
returns g c = λ payload room same short. appended_3 room same c.in-Ok.ensures c.in-Ok-write_synced.ensures
