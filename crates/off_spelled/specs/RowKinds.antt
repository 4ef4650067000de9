-- The kinds of rows, by number: of a row, and of the rows that a key may have.
use Rattle.std.specs.Prelude.{ℕ}
use Rattle.off_defs.specs.declared.keys.Key.{Key}
use Rattle.off_defs.specs.declared.keys.Key.TheVariants as key
use Rattle.off_defs.specs.declared.tables.Row.{Row}
use Rattle.off_defs.specs.declared.tables.Row.TheVariants.{Site, Subscriber, AddOn, Modem, Class}
use Rattle.off_defs.specs.declared.tables.Row.TheVariants.{Pool, Lease, Held, Batch}
use Rattle.off_defs.specs.declared.tables.Row.TheVariants.{PoolHub, Device}

abbrev pub row_kind : Row → ℕ
row_kind (Site site) = 1
row_kind (Subscriber subscriber) = 2
row_kind (AddOn settings) = 3
row_kind (Modem modem) = 4
row_kind (Class class) = 5
row_kind (Pool pool) = 6
row_kind (Lease lease) = 7
row_kind (Held address) = 8
row_kind (Batch batch) = 9
row_kind (PoolHub hub) = 10
row_kind (Device lease) = 11

-- a hub has a site's row, and a pool for devices a pool's
abbrev pub kind_at : Key → ℕ
kind_at key.Site = 1
kind_at (key.Subscriber number) = 2
kind_at (key.AddOn subscriber number) = 3
kind_at (key.Modem mac) = 4
kind_at (key.Class number) = 5
kind_at (key.Pool number) = 6
kind_at (key.Lease address) = 7
kind_at (key.Held mac) = 8
kind_at (key.Batch number) = 9
kind_at (key.Hub number) = 1
kind_at (key.PoolHub pool) = 10
kind_at (key.DevicePool number) = 6
kind_at (key.Device address) = 11
