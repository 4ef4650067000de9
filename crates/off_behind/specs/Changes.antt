-- What writes change of devices' leases, and the leases that they put in the place of others.
use Rattle.std.specs.Prelude.{◌≡◌, ℕ, ◌+◌, ◌≤◌, ◌<◌, Bool, not, true, List, [], ◌∷◌, length, Option, Some, None, option_and_then, if◌then◌else◌}
use Rattle.std.specs.List.{filter, list_any, insert, prefix_len}
use Rattle.std.specs.Ordering.{nat_cmp, is_gt, eq_by_cmp}
use Rattle.std.specs.declared.cmp.Ordering.{Ordering}
use Rattle.off_base.specs.declared.addresses.Ip4.{Ip4}
use Rattle.off_defs.specs.declared.keys.Key.TheVariants as key
use Rattle.off_defs.specs.declared.tables.DeviceLease.{DeviceLease}
use Rattle.off_defs.specs.declared.writes.Write.{Write}
use Rattle.off_defs.specs.declared.writes.Write.TheVariants.{Put, Drop}
use Rattle.off_defs.specs.State.{Tables}
use Rattle.off_defs.specs.Tables.{written}
use Rattle.off_account_rules.specs.Rows.{passes, as_device, device_in}
use Rattle.off_behind.specs.Buckets.{Leases, Bucket, bucket_at, room_at, is_in}

-- the address whose lease a write changes, and its new lease
abbrev pub change_of : Write → Option (Ip4 × Option DeviceLease)
change_of (Put (key.Device address) held) = Some (address, as_device held)
change_of (Drop (key.Device address)) = Some (address, None)
change_of write = None

-- the leases that the addresses of writes have, each before its own write
abbrev pub old_at : Tables → Write → Option DeviceLease
old_at tables write = option_and_then (λ change. device_in tables change.0) (change_of write)

abbrev pub olds_of : Tables → List Write → List (Option DeviceLease)
olds_of tables [] = []
olds_of tables (write ∷ writes) = old_at tables write ∷ olds_of (written tables write) writes

-- the lease of an address is in this bucket; a write puts one there
abbrev pub holds : ℕ → Ip4 → Option DeviceLease → Bool
holds place address lease = passes (λ lease. is_in place (address, lease)) lease

abbrev pub puts_in : ℕ → Write → Bool
puts_in place write = passes (λ change. holds place change.0 change.1) (change_of write)

-- each bucket into which a write puts a lease has room for so many more; and for as many as there
-- are writes
abbrev pub HasRoomFor : ℕ → List Write → List Bucket → Type 0
HasRoomFor more writes buckets =
    (place : ℕ) → place < 16384 → list_any (puts_in place) writes ≡ true
    → length (bucket_at buckets place) + more ≤ room_at buckets place

abbrev pub HasRoom : List Write → List Bucket → Type 0
HasRoom writes buckets = HasRoomFor (length writes) writes buckets

-- the order of addresses, in which leases stand in a bucket
abbrev pub by_address : Ip4 → Ip4 → Ordering
by_address a b = nat_cmp a.0 b.0

abbrev pub place_in : Ip4 → Leases → ℕ
place_in address leases = prefix_len (λ entry. is_gt (by_address address entry.0)) leases

abbrev pub without_address : Ip4 → Leases → Leases
without_address address leases = filter (λ entry. not (eq_by_cmp by_address address entry.0)) leases

-- what a bucket is once the lease of an address that has none there is put where it's to be
abbrev pub taken : ℕ → Ip4 → Option DeviceLease → Leases → Leases
taken place address None leases = leases
taken place address (Some lease) leases =
    if is_in place (address, lease) then insert leases (place_in address leases) (address, lease)
    else leases
