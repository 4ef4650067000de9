-- What the test of the tables keeps of each row.
use Rattle.std.specs.Prelude.{ℕ, Bool, cond, ◌&&◌, List, map, Option, Some, None}
use Rattle.std.specs.FinMap as map_of
use Rattle.off_base.specs.declared.macs.Mac.{Mac}
use Rattle.off_defs.specs.declared.keys.Key.{Key}
use Rattle.off_defs.specs.declared.keys.Key.TheVariants as key
use Rattle.off_defs.specs.declared.tables.Row.{Row}
use Rattle.off_defs.specs.declared.tables.Row.TheVariants as row
use Rattle.off_defs.specs.declared.tables.Pool.{Pool}
use Rattle.off_defs.specs.declared.kinds.Kind.{Kind}
use Rattle.off_defs.specs.State.{Tables}
use Rattle.off_account_rules.specs.Rows.{is_possible, is_of_kind}
use Rattle.off_account_rules.specs.Good.{owner_of, device_owner}
use Rattle.off_users.specs.declared.named.Named.{Named}
use Rattle.off_base.specs.Macs.{is_same_mac}
use Rattle.off_opening.specs.declared.marks.Mark.{Mark}
use Rattle.off_opening.specs.declared.marks.Tie.{Tie}
use Rattle.off_opening.specs.declared.marks.Tie.TheVariants as tie

-- what of a row is compared with other rows
abbrev pub tie_of : Row → Tie
tie_of (row.Site site) = tie.Free
tie_of (row.Subscriber subscriber) = tie.Free
tie_of (row.AddOn settings) = tie.Free
tie_of (row.Modem modem) = tie.Modem modem.subscriber modem.class
tie_of (row.Class class) = tie.Free
tie_of (row.Pool pool) = tie.Pool pool
tie_of (row.Lease lease) = tie.Lease (owner_of lease.hold)
tie_of (row.Held address) = tie.Held address
tie_of (row.Batch batch) = tie.Free
tie_of (row.PoolHub hub) = tie.PoolHub hub
tie_of (row.Device lease) = tie.Device (device_owner lease.hold)

abbrev pub mark_of : Key × Row → Mark
mark_of entry = record { key = entry.0; fits = is_possible entry.0 entry.1; tie = tie_of entry.1 }

-- the marks of all rows, in the order of keys
abbrev pub marks_of : Tables → List Mark
marks_of tables = map mark_of (map_of.entries tables)

-- the pool of a mark
abbrev pub tied_pool : Key → Tie → Option (ℕ × Pool)
tied_pool (key.Pool n) (tie.Pool pool) = Some (n, pool)
tied_pool key tie = None

abbrev pub marked_pool : Mark → Option (ℕ × Pool)
marked_pool mark = tied_pool mark.key mark.tie

abbrev pub tied_device_pool : Key → Tie → Option (ℕ × Pool)
tied_device_pool (key.DevicePool n) (tie.Pool pool) = Some (n, pool)
tied_device_pool key tie = None

abbrev pub marked_device_pool : Mark → Option (ℕ × Pool)
marked_device_pool mark = tied_device_pool mark.key mark.tie

-- the modem and its device that have the lease of a mark
abbrev pub tied_owner : Key → Tie → Option (Mac × Mac)
tied_owner (key.Device address) (tie.Device owner) = owner
tied_owner key tie = None

abbrev pub marked_owner : Mark → Option (Mac × Mac)
marked_owner mark = tied_owner mark.key mark.tie

-- what the modem of a mark names
abbrev pub named_tied : Key → Tie → Option (Mac × Named)
named_tied (key.Modem modem) (tie.Modem subscriber class) =
    Some (modem, record { subscriber = subscriber; class = class })
named_tied key tie = None

abbrev pub named_mark : Mark → Option (Mac × Named)
named_mark mark = named_tied mark.key mark.tie

-- what a modem names where an entry, or none, comes first
abbrev pub named_first : Option (Mac × Named) → Mac → Option Named → Option Named
named_first None q later = later
named_first (Some entry) q later = cond (is_same_mac entry.0 q) (Some entry.1) later

-- whether a mark is of a row that is counted
abbrev pub is_marked : Kind → Mark → Bool
is_marked kind mark = is_of_kind kind mark.key && mark.fits
