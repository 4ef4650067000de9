use Rattle.std.proofs.Common.{rules}
use Rattle.off_disk.proofs.Stretches.{filled_shows}
use Rattle.off_disk.proofs.ahead.ReadAhead.fill.Goals as goal

pub invariant_of-self-2-clause-shows : goal.invariant_of-self-2-clause-shows
invariant_of-self-2-clause-shows g c =
    filled_shows c.args.at c.min-count.result c.read_front.new.room.items (g.D.Disk.seen c.args.self.now.disk) (g.D.Disk.seen c.read_front.new.disk) c.in-Ok.ensures.read (search rules)
