use Rattle.std.proofs.Common.{arith}
use Rattle.off_memdisk.proofs.DiskLemmas.{write_tells}
use Rattle.off_memdisk.proofs.mem_disk.MemDiskDisk.write_at.Goals as goal

pub returns-clause-told : goal.returns-clause-told
returns-clause-told c = write_tells c.put.result c.args.at c.args.piece.now c.args.self.now c.put.new.self c.put.ensures.sound (omega (arith, c.requires)) c.put.ensures.exact
