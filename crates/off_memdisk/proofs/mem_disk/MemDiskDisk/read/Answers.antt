use Rattle.off_memdisk.proofs.DiskLemmas.{read_tells}
use Rattle.off_memdisk.proofs.mem_disk.MemDiskDisk.read.Goals as goal

pub returns-clause-told : goal.returns-clause-told
returns-clause-told c = read_tells c.give.result c.args.at c.give.new.out c.args.self.now c.give.new.self c.give.ensures
