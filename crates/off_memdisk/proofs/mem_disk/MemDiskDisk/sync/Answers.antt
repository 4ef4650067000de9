use Rattle.off_memdisk.proofs.DiskLemmas.{sync_tells}
use Rattle.off_memdisk.proofs.mem_disk.MemDiskDisk.sync.Goals as goal

pub returns-clause-told : goal.returns-clause-told
returns-clause-told c = sync_tells c.mark.result c.args.self.now c.mark.new.self c.mark.ensures.sound c.mark.ensures.exact
