-- Worked examples: the rows by which a message is judged, and the addresses that are free, over any
-- tables that have the rows that are named.
use Rattle.std.proofs.Common.{◌≡◌, ℕ, true, false, List, [], ◌∷◌, Some, None, option_map, refl}
use Rattle.off_base.specs.Parts.{parts_in}
use Rattle.off_base.specs.declared.addresses.Ip4.{Ip4}
use Rattle.off_defs.specs.declared.keys.Key.TheVariants as key
use Rattle.off_defs.specs.declared.tables.Row.TheVariants as row_of
use Rattle.off_defs.specs.declared.tables.Pool.{Pool}
use Rattle.off_defs.specs.declared.tables.Hold.TheVariants as modem_hold
use Rattle.off_defs.specs.declared.tables.Lease.{Lease}
use Rattle.off_defs.specs.declared.writes.Write.{Write}
use Rattle.off_defs.specs.declared.writes.Write.TheVariants.{Put}
use Rattle.off_defs.specs.declared.tables.Modem.{Modem}
use Rattle.off_defs.specs.State.{Tables}
use Rattle.off_account_rules.specs.Rows.{modem_in, subscriber_in, lease_in, held_in, device_in, device_pools, devices, site_of}
use Rattle.off_asking.specs.Asking.{ip}
use Rattle.off_cpe_rules.specs.Behind.{modem_behind, is_free, device_case}
use Rattle.off_cpe_rules.specs.Steps.{device_step_for, step_behind, device_step}
use Rattle.off_cpe_rules.specs.declared.words.DeviceWord.{DeviceWord}
use Rattle.off_cpe_rules.specs.declared.words.DeviceWord.TheVariants as word
use Rattle.off_cpe_rules.proofs.Office.{site, pool, address, elsewhere, ann, mac, modem, direct, through, said, asked, lease_by, offered_to, bound_to}

-- ---- the addresses that are free: without a lease, and from the moment at which it ends

free_in_the_tables : (tables : Tables) → device_in tables (address 20) ≡ None → is_free tables 1700000000 pool (address 20) ≡ true
free_in_the_tables tables absent = rw absent refl

taken_before_the_end : (tables : Tables) → device_in tables (address 10) ≡ Some (lease_by (offered_to 0xa1) 1700000120) →
    is_free tables 1700000119 pool (address 10) ≡ false
taken_before_the_end tables there = rw there refl

free_from_the_end : (tables : Tables) → device_in tables (address 10) ≡ Some (lease_by (offered_to 0xa1) 1700000120) →
    is_free tables 1700000120 pool (address 10) ≡ true
free_from_the_end tables there = rw there refl

-- and none that isn't of the pool
before_the_pool : (tables : Tables) → is_free tables 1700000000 pool (address 9) ≡ false
before_the_pool tables = refl

behind_the_pool : (tables : Tables) → is_free tables 1700000000 pool (address 21) ≡ false
behind_the_pool tables = refl

-- ---- the rows of a case: the subscriber of the modem, if that is on record

abbrev row : Modem
row = record { subscriber = 7; class = 1; serial = [] }

of_its_subscriber : (tables : Tables) → modem_in tables (mac modem) ≡ Some row → subscriber_in tables 7 ≡ Some (ann true) →
    (device_case tables 1700000000 (said 1 0xa1 []) (mac modem)).subscriber ≡ Some (ann true)
unfolding device_case
of_its_subscriber tables there active = rw (there, active) refl

without_its_modem : (tables : Tables) → modem_in tables (mac modem) ≡ None →
    (device_case tables 1700000000 (said 1 0xa1 []) (mac modem)).subscriber ≡ None
unfolding device_case
without_its_modem tables absent = rw absent refl

-- the site of the modem's own address, and not of its device's
abbrev modem_address : Ip4
modem_address = ip 0x0a40000a

at_its_modem : (tables : Tables) → held_in tables (mac modem) ≡ Some modem_address → site_of tables modem_address ≡ Some site →
    (device_case tables 1700000000 (said 1 0xa1 []) (mac modem)).site ≡ Some site
unfolding device_case
at_its_modem tables held there = rw (held, there) refl

at_no_site : (tables : Tables) → held_in tables (mac modem) ≡ None → (device_case tables 1700000000 (said 1 0xa1 []) (mac modem)).site ≡ None
unfolding device_case
at_no_site tables absent = rw absent refl

-- the pool of the relay, or of an address that is renewed without one
abbrev other_pool : Pool
other_pool = record { first = ip 0x0a80010a; last = ip 0x0a800114; prefix = 24; router = ip 0x0a800101; relay = ip 0x0a800101 }

abbrev pools : List (ℕ × Pool)
pools = (1, other_pool) ∷ (2, pool) ∷ []

pool_of_the_relay : (tables : Tables) → device_pools tables ≡ pools → (device_case tables 1700000000 (said 1 0xa1 []) (mac modem)).pool ≡ Some pool
unfolding device_case parts_in
pool_of_the_relay tables there = rw there refl

pool_of_a_renewal : (tables : Tables) → device_pools tables ≡ pools →
    (device_case tables 1700000000 (direct 3 0xa1 0x0a80000a []) (mac modem)).pool ≡ Some pool
unfolding device_case parts_in
pool_of_a_renewal tables there = rw there refl

-- a relay's pool counts before that of the address, and a DISCOVER without a relay has none
pool_of_a_rebinding : (tables : Tables) → device_pools tables ≡ pools →
    (device_case tables 1700000000 (through 3 0xa1 0x0a80010a []) (mac modem)).pool ≡ Some pool
unfolding device_case parts_in
pool_of_a_rebinding tables there = rw there refl

pool_without_a_relay : (tables : Tables) → device_pools tables ≡ pools →
    (device_case tables 1700000000 (direct 1 0xa1 0x0a80000a (asked 10)) (mac modem)).pool ≡ None
unfolding device_case parts_in
pool_without_a_relay tables there = rw there refl

-- its own address, and how many others have one
own_by_the_tables : (tables : Tables) → devices tables ≡ (address 10, lease_by (bound_to 0xa2) 1700086400) ∷ (elsewhere, lease_by (bound_to 0xa1) 1700000000) ∷ [] →
    (device_case tables 1700000000 (said 1 0xa1 []) (mac modem)).own ≡ Some elsewhere
unfolding device_case
own_by_the_tables tables there = rw there refl

others_by_the_tables : (tables : Tables) → devices tables ≡ (address 10, lease_by (bound_to 0xa2) 1700086400) ∷ (elsewhere, lease_by (bound_to 0xa1) 1700086400) ∷ [] →
    (device_case tables 1700086399 (said 1 0xa1 []) (mac modem)).others ≡ 1
unfolding device_case
others_by_the_tables tables there = rw there refl

others_gone_by_the_tables : (tables : Tables) → devices tables ≡ (address 10, lease_by (bound_to 0xa2) 1700086400) ∷ [] →
    (device_case tables 1700086400 (said 1 0xa1 []) (mac modem)).others ≡ 0
unfolding device_case
others_gone_by_the_tables tables there = rw there refl

-- ---- a whole step: a device renews its address without a relay

abbrev modem_lease : Lease
modem_lease = record { hold = modem_hold.Bound (mac modem); expiry = record { 0 = 1700086400 } }

renewed_by_the_tables : (tables : Tables)
    → device_in tables (address 10) ≡ Some (lease_by (bound_to 0xa1) 1700000060)
    → devices tables ≡ (address 10, lease_by (bound_to 0xa1) 1700000060) ∷ []
    → device_pools tables ≡ pools
    → modem_in tables (mac modem) ≡ Some row
    → subscriber_in tables 7 ≡ Some (ann true)
    → held_in tables (mac modem) ≡ Some modem_address
    → lease_in tables modem_address ≡ Some modem_lease
    → site_of tables modem_address ≡ Some site
    → option_map {U = DeviceWord × List Write} (λ step. (step.word, step.writes)) (device_step tables 1700000060 (direct 3 0xa1 0x0a80000a []))
    ≡ Some (word.Ack, Put (key.Device (address 10)) (row_of.Device (lease_by (bound_to 0xa1) 1700086460)) ∷ [])
unfolding device_step modem_behind step_behind device_case device_step_for parts_in
renewed_by_the_tables tables own all there known active held leased placed =
    rw (own, all, there, known, active, held, leased, placed) refl
