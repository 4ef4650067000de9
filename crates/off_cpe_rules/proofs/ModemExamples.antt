-- Worked examples: the modem that a device is behind, over any tables that have the rows that are
-- named, and when that modem is online.
use Rattle.std.proofs.Common.{◌≡◌, ℕ, true, false, List, [], ◌∷◌, ◌++◌, map, Option, Some, None, is_some, refl}
use Rattle.off_base.specs.Parts.{parts_in}
use Rattle.off_base.specs.declared.addresses.Ip4.{Ip4}
use Rattle.off_base.specs.declared.macs.Mac.{Mac}
use Rattle.off_defs.specs.declared.tables.Hold.TheVariants as modem_hold
use Rattle.off_defs.specs.declared.tables.Lease.{Lease}
use Rattle.off_defs.specs.declared.tables.DeviceHold.TheVariants.{Declined}
use Rattle.off_defs.specs.State.{Tables}
use Rattle.off_account_rules.specs.Rows.{modem_in, lease_in, held_in, device_in}
use Rattle.off_asking.specs.Asking.{ip, relayed}
use Rattle.off_cpe_rules.specs.Behind.{is_another, modem_for, modem_behind, is_online}
use Rattle.off_account_rules.specs.Good.{is_live_bound}
use Rattle.off_cpe_rules.proofs.Office.{address, mac, modem, device, direct, through, said, asked, lease_by, offered_to, bound_to}

-- the modem that each of these options 82 names
abbrev Names : Option Mac → List (List ℕ) → Type 0
Names named options =
    map (λ option. relayed (direct 1 0xa1 0 option)) options ≡ map (λ option. named) options

-- of several the first counts
modem_named : Names (Some (mac modem))
    ((82 ∷ 8 ∷ 2 ∷ 6 ∷ modem)
    ∷ (82 ∷ 12 ∷ 1 ∷ 2 ∷ 0 ∷ 7 ∷ 2 ∷ 6 ∷ modem)
    ∷ (82 ∷ 16 ∷ 2 ∷ 6 ∷ (modem ++ 2 ∷ 6 ∷ device 9))
    ∷ [])
unfolding parts_in
modem_named = refl

-- also where it hasn't six bytes, and so names none
none_named : Names None
    ((82 ∷ 11 ∷ 2 ∷ 1 ∷ 7 ∷ 2 ∷ 6 ∷ modem)
    ∷ (82 ∷ 9 ∷ 2 ∷ 7 ∷ (modem ++ 7 ∷ []))
    ∷ (82 ∷ 8 ∷ 1 ∷ 6 ∷ modem)
    ∷ []
    ∷ [])
unfolding parts_in
none_named = refl

-- a relay may name the modem itself, which is no device then
device_named : is_another (said 1 0xa1 []) (mac modem) ≡ true
device_named = refl

client_named : is_another (said 1 0xa1 []) (mac (device 0xa1)) ≡ false
client_named = refl

-- without a relay's word the lease says it, also one that was only offered, but to its device alone
modem_of_a_bound_device : modem_for (mac (device 0xa1)) (lease_by (bound_to 0xa1) 1700086400) ≡ Some (mac modem)
modem_of_a_bound_device = refl

modem_of_an_offered_device : modem_for (mac (device 0xa1)) (lease_by (offered_to 0xa1) 1700000120) ≡ Some (mac modem)
modem_of_an_offered_device = refl

modem_for_another_device : modem_for (mac (device 0xa2)) (lease_by (bound_to 0xa1) 1700086400) ≡ None
modem_for_another_device = refl

modem_for_itself : modem_for (mac modem) (lease_by (bound_to 0xa1) 1700086400) ≡ None
modem_for_itself = refl

modem_of_a_resting_address : modem_for (mac (device 0xa1)) (lease_by Declined 1700000660) ≡ None
modem_of_a_resting_address = refl

-- ---- over tables

-- the relay names a modem on record, whatever its device says
behind_the_modem : (tables : Tables) → is_some (modem_in tables (mac modem)) ≡ true →
    modem_behind tables (said 1 0xa1 []) ≡ Some (mac modem)
unfolding modem_behind parts_in
behind_the_modem tables there = rw there refl

behind_it_when_declining : (tables : Tables) → is_some (modem_in tables (mac modem)) ≡ true →
    modem_behind tables (said 4 0xa1 (asked 10)) ≡ Some (mac modem)
unfolding modem_behind parts_in
behind_it_when_declining tables there = rw there refl

-- a modem that isn't on record has no device, not even one whose lease is there
behind_an_unknown_modem : (tables : Tables) → is_some (modem_in tables (mac modem)) ≡ false →
    modem_behind tables (through 3 0xa1 0x0a80000a []) ≡ None
unfolding modem_behind parts_in
behind_an_unknown_modem tables absent = rw absent refl

-- what a modem says itself is no device's, nor what has a part that is cut
of_the_modem_itself : (tables : Tables) →
    modem_behind tables (direct 3 0xa1 0x0a80000a (82 ∷ 8 ∷ 2 ∷ 6 ∷ device 0xa1)) ≡ None
unfolding modem_behind parts_in
of_the_modem_itself tables = refl

with_a_cut_part : (tables : Tables) →
    modem_behind tables (direct 3 0xa1 0x0a80000a (82 ∷ 9 ∷ 2 ∷ 6 ∷ (modem ++ 1 ∷ []))) ≡ None
unfolding modem_behind parts_in
with_a_cut_part tables = refl

-- without a relay's word the lease of its own address names the modem to one that renews or
-- releases, also where the relay's word hasn't six bytes
renewing_alone : (tables : Tables) → device_in tables (address 10) ≡ Some (lease_by (bound_to 0xa1) 1700086400) →
    modem_behind tables (direct 3 0xa1 0x0a80000a []) ≡ Some (mac modem)
unfolding modem_behind parts_in
renewing_alone tables there = rw there refl

releasing_alone : (tables : Tables) → device_in tables (address 10) ≡ Some (lease_by (bound_to 0xa1) 1700086400) →
    modem_behind tables (direct 7 0xa1 0x0a80000a (82 ∷ 3 ∷ 2 ∷ 1 ∷ 7 ∷ [])) ≡ Some (mac modem)
unfolding modem_behind parts_in
releasing_alone tables there = rw there refl

renewing_what_another_has : (tables : Tables) → device_in tables (address 10) ≡ Some (lease_by (bound_to 0xa2) 1700086400) →
    modem_behind tables (direct 3 0xa1 0x0a80000a []) ≡ None
unfolding modem_behind parts_in
renewing_what_another_has tables there = rw there refl

renewing_what_nobody_has : (tables : Tables) → device_in tables (address 10) ≡ None →
    modem_behind tables (direct 3 0xa1 0x0a80000a []) ≡ None
unfolding modem_behind parts_in
renewing_what_nobody_has tables absent = rw absent refl

-- one that looks for an address or declines it is no device then
discovering_alone : (tables : Tables) → modem_behind tables (direct 1 0xa1 0x0a80000a []) ≡ None
unfolding modem_behind parts_in
discovering_alone tables = refl

declining_alone : (tables : Tables) → modem_behind tables (direct 4 0xa1 0x0a80000a (asked 10)) ≡ None
unfolding modem_behind parts_in
declining_alone tables = refl

-- ---- when a modem is online

-- a modem is online while it's bound to an address
abbrev modem_address : Ip4
modem_address = ip 0x0a40000a

abbrev modem_lease : Lease
modem_lease = record { hold = modem_hold.Bound (mac modem); expiry = record { 0 = 1700086400 } }

online_before_the_end : is_live_bound 1700086399 modem_lease ≡ true
online_before_the_end = refl

offline_at_the_end : is_live_bound 1700086400 modem_lease ≡ false
offline_at_the_end = refl

offline_when_offered : is_live_bound 1700000000 (record modem_lease { hold = modem_hold.Offered (mac modem) }) ≡ false
offline_when_offered = refl

online_by_the_tables : (tables : Tables) → held_in tables (mac modem) ≡ Some modem_address → lease_in tables modem_address ≡ Some modem_lease →
    is_online tables 1700086399 (mac modem) ≡ true
online_by_the_tables tables held leased = rw (held, leased) refl

offline_without_an_address : (tables : Tables) → held_in tables (mac modem) ≡ None →
    is_online tables 1700086399 (mac modem) ≡ false
offline_without_an_address tables absent = rw absent refl
