-- A device's own lease as it's known stands in the tables.
use Rattle.std.proofs.Common.{◌≡◌, ◌==◌, ℕ, Bool, true, Option, Some, None, sym, ap, ◌∙◌, arith}
use Rattle.std.proofs.lemmas.Bool.Decides.{nat_tests}
use Rattle.std.specs.List.{find}
use Rattle.off_base.specs.declared.addresses.Ip4.{Ip4}
use Rattle.off_base.specs.declared.macs.Mac.{Mac}
use Rattle.off_defs.specs.declared.tables.DeviceLease.{DeviceLease}
use Rattle.off_defs.specs.State.{Tables}
use Rattle.off_table_laws.proofs.ListLemmas.{found_passes}
use Rattle.off_cpe_laws.proofs.RowLemmas.{listed_device}
use Rattle.off_account_rules.specs.Rows.{device_in, devices}
use Rattle.off_cpe_rules.specs.Behind.{is_owned}
use Rattle.off_behind.specs.Neighbours.{AreNeighbours, StandsIn}
use Rattle.off_behind.specs.declared.leases.Neighbours.{Neighbours}

-- a lease that is found in the tables stands there
found_stands : (t : Tables) (p : Ip4 × DeviceLease → Bool) (own : Option (Ip4 × DeviceLease)) → own ≡ find p (devices t) → StandsIn own t
found_stands t p None is = tt
found_stands t p (Some lease) is = listed_device t lease.0 lease.1 (found_passes p (devices t) lease (sym is)).0

pub own_stands : (t : Tables) (now : ℕ) (modem device : Mac) (seen : Neighbours) → AreNeighbours seen now modem device (devices t) → StandsIn seen.own t
own_stands t now modem device seen are = found_stands t (λ (entry : Ip4 × DeviceLease). is_owned modem device entry.1) seen.own are.own

-- ---- the lease that is known, at its own address

pub at_own : (known : Ip4 × DeviceLease) (address : Ip4) (t : Tables) → (known.0.0 == address.0) ≡ true → device_in t known.0 ≡ Some known.1 → device_in t address ≡ Some known.1
at_own known address t same stands =
    let numbers : address.0 ≡ known.0.0 = grind (arith, nat_tests) in
    let is : address ≡ known.0 = ap (λ n. record { 0 = n }) numbers in
    ap (device_in t) is ∙ stands
