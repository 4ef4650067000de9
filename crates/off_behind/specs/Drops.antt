-- Writes of which none puts a device's lease: whose leases they drop.
use Rattle.std.specs.Prelude.{◌≡◌, ◌==◌, Bool, not, true, ◌&&◌, nat_le, List, Option, is_some}
use Rattle.std.specs.List.{filter, list_any}
use Rattle.off_base.specs.declared.addresses.Ip4.{Ip4}
use Rattle.off_defs.specs.declared.writes.Write.{Write}
use Rattle.off_account_rules.specs.Rows.{passes}
use Rattle.off_behind.specs.Buckets.{Leases}
use Rattle.off_behind.specs.Changes.{change_of}

-- a write puts a device's lease; a write changes the lease of an address
abbrev pub puts : Write → Bool
puts write = passes (λ change. is_some change.1) (change_of write)

abbrev pub changes : Ip4 → Write → Bool
changes address write = passes (λ change. change.0.0 == address.0) (change_of write)

-- the least and the greatest of some addresses, and those between them
abbrev pub Ends : Type 0
Ends = Ip4 × Ip4

abbrev pub is_between : Ip4 → Ends → Bool
is_between address ends = nat_le ends.0.0 address.0 && nat_le address.0 ends.1.0

-- all addresses whose leases writes change lie between these
abbrev pub AreEnds : List Write → Option Ends → Type 0
AreEnds writes ends =
    (address : Ip4) → list_any (changes address) writes ≡ true
    → passes (is_between address) ends ≡ true

-- the lease of an address is dropped; the leases that are left
abbrev pub is_dropped : List Write → Ends → Ip4 → Bool
is_dropped writes ends address =
    is_between address ends && list_any (changes address) writes

abbrev pub without_dropped : List Write → Ends → Leases → Leases
without_dropped writes ends leases = filter (λ entry. not (is_dropped writes ends entry.0)) leases
