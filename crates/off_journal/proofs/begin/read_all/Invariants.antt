use Rattle.std.proofs.Common.{◌≡◌, ◌<◌, ◌-◌}
use Rattle.off_disk.specs.DiskCalls.{Kept}
use Rattle.off_journal.specs.Begin.{SoFar}
use Rattle.off_journal.proofs.begin.read_all.Given as goal

abbrev pub invariant-records : goal.invariant-records
invariant-records g l = record {
  kept : Kept (g.D.Disk.seen l.initial.disk) (g.D.Disk.seen l.disk);
  faults : (g.D.Disk.seen l.disk).faults ≡ (g.D.Disk.seen l.initial.disk).faults;
  within : l.gate < (g.D.Disk.seen l.disk).size;
  so_far : SoFar l.rows.tables l.gate (g.D.Disk.seen l.disk);
}

abbrev pub decreases-records : goal.decreases-records
decreases-records g l = (g.D.Disk.seen l.disk).size - l.gate
