use Rattle.std.proofs.Common.{◌-◌, length, rules, arith}
use Rattle.off_disk.proofs.Stretches.{within_reads}
use Rattle.off_disk.proofs.ahead.ReadAheadDisk.read.Goals as goal

pub returns : goal.returns
returns g c = within_reads c.args.at (length c.args.out.now) (c.args.at - c.reach.new.self.at) c.reach.new.self.at c.reach.new.self.count c.copy_from_slice.new.self c.reach.new.self.room.items
    (g.D.Disk.seen c.args.self.now.disk) (g.D.Disk.seen c.reach.new.self.disk)
    c.in-Ok.ensures c.reach.new.self.shows (omega (arith, c.in-Ok.ensures.within.behind)) (search rules) (search rules)
