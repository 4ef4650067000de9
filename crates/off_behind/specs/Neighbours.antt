-- What the leases behind a modem are to one of its devices, and which writes are aside of its own.
use Rattle.std.specs.Prelude.{◌≡◌, ℕ, Bool, not, ◌==◌, List, Option, Some, IfSome}
use Rattle.std.specs.List.{find, filter}
use Rattle.off_base.specs.declared.addresses.Ip4.{Ip4}
use Rattle.off_base.specs.declared.macs.Mac.{Mac}
use Rattle.off_defs.specs.declared.tables.DeviceLease.{DeviceLease}
use Rattle.off_defs.specs.declared.writes.Write.{Write}
use Rattle.off_defs.specs.State.{Tables}
use Rattle.off_account_rules.specs.Rows.{passes, device_in}
use Rattle.off_account_rules.specs.Good.{is_address}
use Rattle.off_cpe_rules.specs.Behind.{is_owned, others_among}
use Rattle.off_behind.specs.Buckets.{Leases}
use Rattle.off_behind.specs.Changes.{change_of}
use Rattle.off_behind.specs.declared.leases.Neighbours.{Neighbours}

-- the first lease that is the device's, and how many live ones other devices have
pub record AreNeighbours (seen : Neighbours) (now : ℕ) (modem device : Mac) (leases : Leases)
    : Type 0 where
  pub own : seen.own ≡ find (λ entry. is_owned modem device entry.1) leases
  pub others : seen.others ≡ others_among now modem device leases

-- a lease that is known stands in the tables
abbrev pub StandsIn : Option (Ip4 × DeviceLease) → Tables → Type 0
StandsIn known tables = IfSome known (λ entry. device_in tables entry.0 ≡ Some entry.1)

-- the writes that change the lease of another address than that of a lease that is known
abbrev pub is_elsewhere : Option (Ip4 × DeviceLease) → Write → Bool
is_elsewhere known write =
    passes (λ change. not (passes (λ entry. is_address change.0 entry.0) known)) (change_of write)

abbrev pub elsewhere : Option (Ip4 × DeviceLease) → List Write → List Write
elsewhere known writes = filter (is_elsewhere known) writes
