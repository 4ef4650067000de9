-- What a keeper tells that has just begun over a disk, or over a database.
use Rattle.std.specs.Prelude.{◌≡◌}
use Rattle.sqlite_disk.specs.declared.Disk as disk
use Rattle.off_outside.specs.KeeperSeen.{KeeperSeen}
use Rattle.off_cells.specs.CellsSeen.{CellsSeen}
use Rattle.off_keepsql.specs.Begin.{BeginsOverFiles}
use Rattle.off_cached.specs.declared.cached.Cached.{Cached}
use Rattle.off_cached.specs.Cached.{BeginsOver}
use Rattle.off_disk.specs.DiskSeen.{DiskSeen}
use Rattle.off_journal.specs.Begin.{HasBegun}

-- It has begun over a disk none of whose calls had failed.
pub record BeginsOverDisk {D : Type 0} (disk_seen : D → DiskSeen) (seen : KeeperSeen) : Type 0 where
  pub disk : D
  pub faults : (disk_seen disk).faults ≡ 0
  pub begun : HasBegun (disk_seen disk) seen

-- It has begun in front of a store, a keeper that has begun over a database whose files were
-- opened.
pub record BeginsInFront {D K : Type 0} (g : disk.Ghosts D) (cells : K → CellsSeen)
    (seen : K → KeeperSeen) (keeper : Cached K) : Type 0 where
  pub store : K
  pub begun : BeginsOverFiles g (cells store) (seen store)
  pub read : BeginsOver seen (seen store) keeper
