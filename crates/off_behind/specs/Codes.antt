-- The code of what is kept, by which a proof tells two such values apart. Nothing here says what
-- the office does.
use Rattle.std.specs.Prelude.{◌≡◌, ℕ, Bool, true, false, List, [], refl}
use Rattle.std.specs.Coded.{Coded, code_by, coded×, coded_ℕ, coded_bool, coded_list}
use Rattle.off_base.specs.declared.addresses.Ip4.{Ip4}
use Rattle.off_base.specs.declared.macs.Mac.{Mac}
use Rattle.off_base.specs.declared.moments.Moment.{Moment}
use Rattle.off_defs.specs.declared.tables.DeviceHold.{DeviceHold}
use Rattle.off_defs.specs.declared.tables.DeviceHold.TheVariants.{Offered, Bound, Declined}
use Rattle.off_defs.specs.declared.tables.DeviceLease.{DeviceLease}
use Rattle.off_behind.specs.Buckets.{Leases}

abbrev Parts : Type 0
Parts = (Bool × Bool) × (List ℕ × List ℕ)

abbrev parts_of : DeviceHold → Parts
parts_of (Offered modem device) = ((true, true), (modem.0, device.0))
parts_of (Bound modem device) = ((true, false), (modem.0, device.0))
parts_of Declined = ((false, false), ([], []))

abbrev hold_by : Bool → Bool → Mac → Mac → DeviceHold
hold_by true true modem device = Offered modem device
hold_by true false modem device = Bound modem device
hold_by false offered modem device = Declined

abbrev hold_of : Parts → DeviceHold
hold_of p = hold_by p.0.0 p.0.1 (record { 0 = p.1.0 }) (record { 0 = p.1.1 })

abbrev entry_of : Ip4 → DeviceHold → Moment → Ip4 × DeviceLease
entry_of address hold expiry = (address, record { hold = hold; expiry = expiry })

pub same_entry : (address : Ip4) (hold : DeviceHold) (expiry : Moment) →
    entry_of address (hold_of (parts_of hold)) expiry ≡ entry_of address hold expiry
same_entry address (Offered modem device) expiry = refl
same_entry address (Bound modem device) expiry = refl
same_entry address Declined expiry = refl

abbrev lease_code : Coded (Ip4 × DeviceLease)
lease_code =
    code_by (ℕ × (Parts × ℕ))
    (coded× coded_ℕ
    (coded× (coded× (coded× coded_bool coded_bool)
    (coded× (coded_list coded_ℕ) (coded_list coded_ℕ)))
    coded_ℕ))
    (λ e. (e.0.0, (parts_of e.1.hold, e.1.expiry.0)))
    (λ p. (record { 0 = p.0 }, record { hold = hold_of p.1.0; expiry = record { 0 = p.1.1 } }))
    (λ e. same_entry e.0 e.1.hold e.1.expiry)

abbrev pub buckets_code : Coded (List Leases)
buckets_code = coded_list (coded_list lease_code)
