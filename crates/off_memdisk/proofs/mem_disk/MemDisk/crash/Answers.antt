use Rattle.off_memdisk.proofs.TearLemmas.{crashed}
use Rattle.off_memdisk.proofs.mem_disk.MemDisk.crash.Goals as goal

pub returns : goal.returns
returns c = crashed c.over.result c.args.self.now c.self.inside.base.items c.deref.result.now c.in_ok-image.image.items c.self.inside.marks.items c.deref-2.result.now
    c.self.inside.pieces.items c.deref-3.result.now c.self.inside.room c.self.inside.faults c.self.inside.failing c.new.result
    c.self.view_is c.deref.ensures.value c.deref-2.ensures.value c.deref-3.ensures.value c.in_ok-image.ensures.left c.new.ensures c.over.ensures
