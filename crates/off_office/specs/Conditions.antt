-- What holds between two calls of what an office keeps and the tables. Whatever else an office
-- comes to keep of the tables is one more field of `Mirrors`.
use Rattle.std.specs.Prelude.{◌≡◌, List}
use Rattle.off_defs.specs.declared.writes.Write.{Write}
use Rattle.off_defs.specs.State.{Tables}
use Rattle.off_defs.specs.Tables.{write_all}
use Rattle.off_account_rules.specs.Good.{Opens, Good}
use Rattle.off_account_rules.specs.Migration.{migration, migrated}
use Rattle.off_account_rules.specs.declared.counts.Counts.{Counts}
use Rattle.off_account_rules.specs.Rows.{counts_of, devices}
use Rattle.off_kept.specs.Entries.{without_written}
use Rattle.off_kept.specs.Right.{AllRight}
use Rattle.off_tftp.specs.Agreements.{AllAgreed, without_touched}
use Rattle.off_runs.specs.Held.{PoolHeld, KeepsPools}
use Rattle.off_runs.specs.Leases.{ground}
use Rattle.off_device_runs.specs.Ground.{device_ground}
use Rattle.off_users.specs.Users.{UsersHeld, StandsFor}
use Rattle.off_users.specs.Kept.{NamedMap, Knows}
use Rattle.off_behind.specs.Buckets.{Leases, Keeps}
use Rattle.off_outside.specs.KeeperSeen.{KeeperSeen}
use Rattle.off_outside.specs.KeeperCalls.{Settled}
use Rattle.off_opening.specs.Standing.{OpensAs}
use Rattle.off_opening.specs.declared.opening.Opening.TheVariants as opening
use Rattle.off_office.specs.Desk.{Desk}
use Rattle.off_office.specs.Opening.{OpensTo}

-- the leases of devices that are kept are those that the tables have
abbrev pub KnowsDevices : List Leases → Tables → Type 0
KnowsDevices held t = Keeps held (devices t)

-- what an office keeps of the tables is what stands there: how many rows there are of each kind,
-- the bodies of files, which addresses agree with transfers, the pools with their hubs and the
-- expiries of their addresses, the pools for devices likewise, what each modem names, and the leases
-- of devices
pub record Mirrors (desk : Desk) (tables : Tables) : Type 0 where
  pub counts : desk.counts ≡ counts_of tables
  pub kept : AllRight tables desk.kept
  pub agreements : AllAgreed tables desk.agreements
  pub pools : KeepsPools desk.pools (ground tables)
  pub device_pools : KeepsPools desk.device_pools (device_ground tables)
  pub users : Knows desk.users tables
  pub devices : KnowsDevices desk.devices tables

-- and the tables are good
pub record Fits (desk : Desk) (tables : Tables) : Type 0 where
  pub good : Good tables
  pub mirrors : Mirrors desk tables

-- Where the office mirrored the tables, good or not, P holds of the tables before and after; where
-- they were good, it mirrors them again.
pub record Under (before after : Desk) (P : Tables → Tables → Type 0) (t u : Tables) : Type 0 where
  pub holds : Mirrors before t → P t u
  pub stays : Fits before t → Mirrors after u

-- the same of several events: where the office fitted the tables, it fits them again
pub record WhereFit (before after : Desk) (P : Tables → Tables → Type 0) (t u : Tables) : Type 0
  where
    pub holds : Fits before t → P t u × Fits after u

-- an office that opened fits what its tables have become
abbrev pub Opened : Desk → KeeperSeen → KeeperSeen → Type 0
Opened desk = OpensTo (Fits desk)

-- an office that begins over tables whose rows were counted, and whose modems name what is given
pub record Begun (desk : Desk) (counts : Counts) (named : UsersHeld) (tables : Tables) : Type 0
  where
    pub counts_are : desk.counts ≡ counts
    pub kept : AllRight tables desk.kept
    pub agreements : AllAgreed tables desk.agreements
    pub pools : KeepsPools desk.pools (ground tables)
    pub device_pools : KeepsPools desk.device_pools (device_ground tables)
    pub users : StandsFor named tables → Knows desk.users tables
    pub devices : KnowsDevices desk.devices tables

-- An office whose tables were counted when they opened, and whose modems name what is given. Where
-- they are told, it fits what the migration makes of them.
pub record Founded (desk : Desk) (counts : Counts) (named : UsersHeld) (old new : KeeperSeen)
    : Type 0 where
  pub writes : List Write
  pub are : (t : Tables) → old.tables t → writes ≡ migration t
  pub settled : Settled writes old new
  pub fits : (t : Tables) → old.tables t → OpensAs t (opening.Open counts named)
      → Fits desk (migrated t)

-- of what is kept of the tables nothing changed
pub record StaysAs (before after : Desk) : Type 0 where
  pub counts : after.counts ≡ before.counts
  pub kept : after.kept ≡ before.kept
  pub agreements : after.agreements ≡ before.agreements
  pub pools : after.pools ≡ before.pools
  pub device_pools : after.device_pools ≡ before.device_pools
  pub users : after.users ≡ before.users
  pub devices : after.devices ≡ before.devices

-- What is kept of the tables follows writes: the counts are those that are given, bodies of which a
-- row was written are forgotten, and so is the agreement that they may have ended; what modems name
-- is what they name behind the writes, and the pools are those behind them, where the tables before
-- open. The leases of devices are those behind them where the tables before are told, or whatever
-- they were.
abbrev pub PoolsFollow : List PoolHeld → List PoolHeld → List Write → Type 0
PoolsFollow old new writes =
    (t : Tables) → Opens t → KeepsPools old (ground t) → KeepsPools new (ground (write_all t writes))

abbrev pub DevicePoolsFollow : List PoolHeld → List PoolHeld → List Write → Type 0
DevicePoolsFollow old new writes =
    (t : Tables) → Opens t → KeepsPools old (device_ground t)
    → KeepsPools new (device_ground (write_all t writes))

abbrev pub UsersFollow : NamedMap → NamedMap → List Write → Type 0
UsersFollow old new writes = (t : Tables) → Knows old t → Knows new (write_all t writes)

abbrev pub DevicesFollow : (Tables → Type 0) → List Leases → List Leases → List Write → Type 0
DevicesFollow told old new writes =
    (t : Tables) → told t → KnowsDevices old t → KnowsDevices new (write_all t writes)

abbrev pub any_tables : Tables → Type 0
any_tables t = Unit {0}

pub record Follows (told : Tables → Type 0) (before after : Desk) (counts : Counts)
    (writes : List Write) : Type 0 where
  pub held : after.held ≡ before.held
  pub counts_are : after.counts ≡ counts
  pub kept : after.kept ≡ without_written writes before.kept
  pub agreements : after.agreements ≡ without_touched writes before.agreements
  pub pools : PoolsFollow before.pools after.pools writes
  pub device_pools : DevicePoolsFollow before.device_pools after.device_pools writes
  pub users : UsersFollow before.users after.users writes
  pub devices : DevicesFollow told before.devices after.devices writes

-- what the office keeps still fits the tables
abbrev pub StaysFit : Desk → Desk → Tables → Tables → Type 0
StaysFit before after t u = Fits before t → Fits after u
