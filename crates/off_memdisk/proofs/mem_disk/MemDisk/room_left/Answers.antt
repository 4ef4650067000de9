use Rattle.std.proofs.Common.{◌≡◌, length, arith, rules}
use Rattle.off_memdisk.proofs.HeldLemmas.{left_of}
use Rattle.off_memdisk.proofs.mem_disk.MemDisk.room_left.Goals as goal

pub returns : goal.returns
returns c =
    let base : c.len.result ≡ length c.self.inside.base.items = search rules in
    let pieces : c.len-2.result ≡ length c.self.inside.pieces.items = search rules in
    let marks : c.len-3.result ≡ length c.self.inside.marks.items = search rules in
    let left = left_of c.args.self.now c.self.inside.base.items c.self.inside.marks.items c.self.inside.pieces.items c.self.inside.bytes.items c.self.inside.room c.self.inside.faults c.self.inside.failing
    c.self.view_is c.self.invariant.0 in
    omega (arith, left, base, pieces, marks)
