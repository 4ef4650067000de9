-- Worked examples, evaluated: the leases behind a modem, and the address that a message is about.
use Rattle.std.proofs.Common.{◌≡◌, ℕ, Bool, true, false, ◌&&◌, List, [], ◌∷◌, ◌++◌, map, Option, Some, None, option_map, refl}
use Rattle.std.specs.List.{find}
use Rattle.off_base.specs.Parts.{parts_in}
use Rattle.off_base.specs.declared.addresses.Ip4.{Ip4}
use Rattle.off_defs.specs.declared.tables.Pool.{Pool}
use Rattle.off_defs.specs.declared.tables.DeviceHold.TheVariants.{Bound, Declined}
use Rattle.off_defs.specs.declared.tables.DeviceLease.{DeviceLease}
use Rattle.off_dhcp.specs.Datagram.{Received}
use Rattle.off_account_rules.specs.Rows.{has_address}
use Rattle.off_account_rules.specs.Good.{is_address}
use Rattle.off_asking.specs.Choice.{least_of, chosen_by}
use Rattle.off_cpe_rules.specs.Behind.{has_ended, own_among, others_among, behind_among}
use Rattle.off_cpe_rules.proofs.Office.{pool, address, elsewhere, mac, modem, device, direct, through, said, asked, meant, lease_by, offered_to, bound_to}

-- ---- leases behind a modem: the tables have those of the first two devices

abbrev leases : List (Ip4 × DeviceLease)
leases = (address 10, lease_by (offered_to 0xa1) 1700000120) ∷ (address 11, lease_by (offered_to 0xa2) 1700000120) ∷ []

own_of_the_second : own_among (mac modem) (mac (device 0xa2)) leases ≡ Some (address 11)
own_of_the_second = refl

others_of_the_third : others_among 1700000119 (mac modem) (mac (device 0xa3)) leases ≡ 2
others_of_the_third = refl

others_of_the_second : others_among 1700000119 (mac modem) (mac (device 0xa2)) leases ≡ 1
others_of_the_second = refl

others_later : others_among 1700000120 (mac modem) (mac (device 0xa3)) leases ≡ 0
others_later = refl

others_behind_another : others_among 1700000119 (mac (device 9)) (mac (device 0xa3)) leases ≡ 0
others_behind_another = refl

-- a day later the first has moved here from behind another modem and has gone again, the second is
-- bound, and the third is offered an address
abbrev later_leases : List (Ip4 × DeviceLease)
later_leases =
    (address 10, lease_by (Bound (mac (device 9)) (mac (device 0xa1))) 1700172800)
    ∷ (address 11, lease_by (bound_to 0xa2) 1700172800)
    ∷ (address 12, lease_by Declined 1700172800)
    ∷ (address 13, lease_by (bound_to 0xa1) 1700086400)
    ∷ (address 14, lease_by (offered_to 0xa3) 1700086520)
    ∷ []

-- its own is the one behind this modem, bound or offered, whether or not it has ended
own_of_the_first : own_among (mac modem) (mac (device 0xa1)) later_leases ≡ Some (address 13)
own_of_the_first = refl

own_behind_another : own_among (mac (device 9)) (mac (device 0xa1)) later_leases ≡ Some (address 10)
own_behind_another = refl

own_of_the_third : own_among (mac modem) (mac (device 0xa3)) later_leases ≡ Some (address 14)
own_of_the_third = refl

own_of_a_fourth : own_among (mac modem) (mac (device 0xa4)) later_leases ≡ None
own_of_a_fourth = refl

-- the others are those that live behind this modem, bound or offered
others_of_the_first : others_among 1700086400 (mac modem) (mac (device 0xa1)) later_leases ≡ 2
others_of_the_first = refl

others_of_a_fourth : others_among 1700086399 (mac modem) (mac (device 0xa4)) later_leases ≡ 3
others_of_a_fourth = refl

all_behind : behind_among 1700086400 (mac modem) later_leases ≡ 2
all_behind = refl

-- ---- the address that a message is about

-- an address is free from the moment at which its lease ends, or where it has none
free_without_a_lease : has_ended 1700000119 None ≡ true
free_without_a_lease = refl

held_before_the_end : has_ended 1700000119 (Some (lease_by (offered_to 0xa1) 1700000120)) ≡ false
held_before_the_end = refl

free_at_the_end : has_ended 1700000120 (Some (lease_by (bound_to 0xa1) 1700000120)) ≡ true
free_at_the_end = refl

resting : has_ended 1700000119 (Some (lease_by Declined 1700000120)) ≡ false
resting = refl

abbrev is_free : ℕ → Pool → Ip4 → Bool
is_free now pool other =
    has_address pool other && has_ended now (option_map (λ entry. entry.1) (find (λ entry. is_address other entry.0) leases))

-- by the leases of the first two: what a device says, its own address, and the one that is chosen
abbrev Chooses : List (Received × Option Ip4 × Option Ip4) → Type 0
Chooses cases =
    map (λ entry. chosen_by (is_free 1700000119) entry.0 (Some pool) entry.1) cases ≡ map (λ entry. entry.2) cases

-- the one that it asks for, where that is free and of the pool; else the least that is free
chosen_for_a_third : Chooses
    ((said 1 0xa3 [], None, Some (address 12))
    ∷ (said 1 0xa3 (asked 15), None, Some (address 15))
    ∷ (said 1 0xa3 (asked 10), None, Some (address 12))
    ∷ (said 1 0xa3 (asked 200), None, Some (address 12))
    ∷ (said 1 0xa3 (50 ∷ 2 ∷ 10 ∷ 128 ∷ []), None, Some (address 12))
    ∷ [])
unfolding parts_in least_of
chosen_for_a_third = refl

-- its own before all others, where that is of the pool
chosen_for_the_second : Chooses
    ((said 1 0xa2 [], Some (address 11), Some (address 11))
    ∷ (said 1 0xa2 (asked 15), Some (address 11), Some (address 11))
    ∷ (said 1 0xa2 (asked 15), Some elsewhere, Some (address 15))
    ∷ (said 1 0xa2 [], Some elsewhere, Some (address 12))
    ∷ [])
unfolding parts_in least_of
chosen_for_the_second = refl

-- a REQUEST, a DECLINE and a RELEASE are about the address that they name, whoever has it
named_by_the_device : Chooses
    ((said 3 0xa2 (asked 10 ++ meant 2), Some (address 11), Some (address 10))
    ∷ (said 3 0xa2 (asked 200), None, Some (address 200))
    ∷ (through 3 0xa2 0x0a80000a [], Some (address 11), Some (address 10))
    ∷ (said 4 0xa2 (asked 10), Some (address 11), Some (address 10))
    ∷ (said 4 0xa2 [], Some (address 11), None)
    ∷ (direct 7 0xa2 0x0a80000a [], Some (address 11), Some (address 10))
    ∷ [])
unfolding parts_in least_of
named_by_the_device = refl

-- the first two have ended
chosen_later : chosen_by (is_free 1700000120) (said 1 0xa3 []) (Some pool) None ≡ Some (address 10)
unfolding parts_in least_of
chosen_later = refl

-- the last of a pool is given too, and then none; a device's own stays its own
chosen_last : chosen_by (λ pool other. is_address (address 20) other) (said 1 0xa3 []) (Some pool) None ≡ Some (address 20)
unfolding parts_in least_of
chosen_last = refl

none_behind_the_last : chosen_by (λ pool other. is_address (address 21) other) (said 1 0xa3 []) (Some pool) None ≡ None
unfolding parts_in least_of
none_behind_the_last = refl

none_is_free : chosen_by (λ pool other. false) (said 1 0xa3 (asked 15)) (Some pool) None ≡ None
unfolding parts_in least_of
none_is_free = refl

own_of_a_full_pool : chosen_by (λ pool other. false) (said 1 0xa2 []) (Some pool) (Some (address 11)) ≡ Some (address 11)
unfolding parts_in least_of
own_of_a_full_pool = refl

chosen_without_pool : chosen_by (is_free 1700000119) (said 1 0xa2 (asked 15)) None (Some (address 11)) ≡ None
unfolding parts_in least_of
chosen_without_pool = refl
