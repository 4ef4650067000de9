use Rattle.off_disk.proofs.Moments.{not_stored}
use Rattle.off_disk.proofs.appending.write_synced.Goals as goal

pub returns-in_default-sync : goal.returns-in_default-sync
returns-in_default-sync g c = not_stored (λ b told. g.met.D.Disk.lengths c.args.disk.now b told) c.requires c.in-Ok.ensures c.in_default-sync.ensures
