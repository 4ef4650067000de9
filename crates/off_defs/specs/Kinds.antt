-- The kinds of rows, by number, in the order in which the tables' keys have them.
use Rattle.std.specs.Prelude.{ℕ}
use Rattle.off_defs.specs.declared.keys.Key.{Key}
use Rattle.off_defs.specs.declared.keys.Key.TheVariants.{Site, Subscriber, AddOn, Modem, Class}
use Rattle.off_defs.specs.declared.keys.Key.TheVariants.{Pool, Lease, Held, Batch}
use Rattle.off_defs.specs.declared.keys.Key.TheVariants.{Hub, PoolHub, DevicePool, Device}

-- the number of a key's kind
abbrev pub kind_of : Key → ℕ
kind_of Site = 1
kind_of (Subscriber number) = 2
kind_of (AddOn subscriber number) = 3
kind_of (Modem mac) = 4
kind_of (Class number) = 5
kind_of (Pool number) = 6
kind_of (Lease address) = 7
kind_of (Held mac) = 8
kind_of (Batch number) = 9
kind_of (Hub number) = 10
kind_of (PoolHub pool) = 11
kind_of (DevicePool number) = 12
kind_of (Device address) = 13
