-- The bytes of a key of the tables: its kind in one byte, and then its numbers, the most
-- significant byte first.
use Rattle.std.specs.Prelude.{◌≡◌, ℕ, ◌<◌, ◌^◌, List, [], ◌∷◌, ◌++◌, length}
use Rattle.std.specs.Int.{to_be_bytes, w32, w64}
use Rattle.off_defs.specs.declared.keys.Key.{Key}
use Rattle.off_defs.specs.declared.keys.Key.TheVariants.{Site, Subscriber, AddOn, Modem, Class}
use Rattle.off_defs.specs.declared.keys.Key.TheVariants.{Pool, Lease, Held, Batch}
use Rattle.off_defs.specs.declared.keys.Key.TheVariants.{Hub, PoolHub, DevicePool, Device}
pub use Rattle.off_defs.specs.Kinds.{kind_of}

-- the bytes of a key's numbers
abbrev pub numbers_of : Key → List ℕ
numbers_of Site = []
numbers_of (Subscriber number) = to_be_bytes w32 number
numbers_of (AddOn subscriber number) = to_be_bytes w32 subscriber ++ number ∷ []
numbers_of (Modem mac) = mac.0
numbers_of (Class number) = to_be_bytes w32 number
numbers_of (Pool number) = to_be_bytes w32 number
numbers_of (Lease address) = to_be_bytes w32 address.0
numbers_of (Held mac) = mac.0
numbers_of (Batch number) = to_be_bytes w64 number
numbers_of (Hub number) = to_be_bytes w32 number
numbers_of (PoolHub pool) = to_be_bytes w32 pool
numbers_of (DevicePool number) = to_be_bytes w32 number
numbers_of (Device address) = to_be_bytes w32 address.0

abbrev pub key_bytes : Key → List ℕ
key_bytes key = kind_of key ∷ numbers_of key

-- The key's numbers are in the ranges of their types, and a hardware address has six bytes. Each
-- key of the program is so.
abbrev pub IsRanged : Key → Type 0
IsRanged Site = Unit {0}
IsRanged (Subscriber number) = number < 2 ^ 32
IsRanged (AddOn subscriber number) = (subscriber < 2 ^ 32) × (number < 256)
IsRanged (Modem mac) = length mac.0 ≡ 6
IsRanged (Class number) = number < 2 ^ 32
IsRanged (Pool number) = number < 2 ^ 32
IsRanged (Lease address) = address.0 < 2 ^ 32
IsRanged (Held mac) = length mac.0 ≡ 6
IsRanged (Batch number) = number < 2 ^ 64
IsRanged (Hub number) = number < 2 ^ 32
IsRanged (PoolHub pool) = pool < 2 ^ 32
IsRanged (DevicePool number) = number < 2 ^ 32
IsRanged (Device address) = address.0 < 2 ^ 32
