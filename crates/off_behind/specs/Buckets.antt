-- Leases of devices in buckets, by the modems that they are behind.
use Rattle.std.specs.Prelude.{◌≡◌, ℕ, ◌+◌, ◌*◌, ◌%◌, ◌≤◌, ◌<◌, ◌==◌, Bool, List, [], get_or, slice_index, if◌then◌else◌, map}
use Rattle.std.specs.List.{filter}
use Rattle.off_base.specs.declared.addresses.Ip4.{Ip4}
use Rattle.off_base.specs.declared.macs.Mac.{Mac}
use Rattle.off_defs.specs.declared.tables.DeviceLease.{DeviceLease}
use Rattle.off_account_rules.specs.Rows.{passes}
use Rattle.off_account_rules.specs.Good.{device_owner}

abbrev pub Leases : Type 0
Leases = List (Ip4 × DeviceLease)

-- what is held in a bucket: its leases, and for how many it has room
abbrev pub Bucket : Type 0
Bucket = Leases × ℕ

abbrev pub no_bucket : Bucket
no_bucket = ([], 0)

abbrev pub bucket_of : Mac → ℕ
bucket_of modem = (slice_index modem.0 4 * 256 + slice_index modem.0 5) % 16384

abbrev pub is_in : ℕ → Ip4 × DeviceLease → Bool
is_in place entry = passes (λ owner. bucket_of owner.0 == place) (device_owner entry.1.hold)

abbrev pub bucket_at : List Bucket → ℕ → Leases
bucket_at buckets place = (get_or buckets place no_bucket).0

abbrev pub room_at : List Bucket → ℕ → ℕ
room_at buckets place = (get_or buckets place no_bucket).1

-- each bucket has the leases of its modems, in the order in which all of them stand
abbrev pub Indexes : List Bucket → Leases → Type 0
Indexes buckets leases =
    (place : ℕ) → place < 16384 → bucket_at buckets place ≡ filter (is_in place) leases

-- one bucket has other leases, the others stay, and none has less room
pub record Becomes (place : ℕ) (leases : Leases) (old new : List Bucket) : Type 0 where
  pub leases_are : (other : ℕ) →
      bucket_at new other ≡ (if other == place then leases else bucket_at old other)
  pub rooms : (other : ℕ) → room_at old other ≤ room_at new other

-- the leases alone, of which each bucket has what it's to have
abbrev pub leases_in : List Bucket → List Leases
leases_in buckets = map (λ bucket. bucket.0) buckets

abbrev pub Keeps : List Leases → Leases → Type 0
Keeps held leases =
    (place : ℕ) → place < 16384 → get_or held place [] ≡ filter (is_in place) leases
