-- Worked examples, evaluated: messages that are refused, by the word of the first rule that is
-- broken, and messages that a rule close by lets through.
use Rattle.std.proofs.Common.{◌≡◌, ℕ, Bool, true, false, List, [], ◌∷◌, ◌++◌, map, Option, Some, None, refl}
use Rattle.off_base.specs.Parts.{parts_in}
use Rattle.off_base.specs.declared.addresses.Ip4.{Ip4}
use Rattle.off_dhcp.specs.Datagram.{Received}
use Rattle.off_asking.specs.Choice.{least_of, chosen_by}
use Rattle.off_cpe_rules.specs.Steps.{device_step_for}
use Rattle.off_cpe_rules.specs.declared.cases.DeviceCase.{DeviceCase}
use Rattle.off_cpe_rules.specs.declared.results.DeviceStep.{DeviceStep}
use Rattle.off_cpe_rules.specs.declared.words.DeviceWord.{DeviceWord}
use Rattle.off_cpe_rules.specs.declared.words.DeviceWord.TheVariants as word
use Rattle.off_cpe_rules.proofs.Office.{address, elsewhere, mac, modem, direct, through, said, asked, meant, case_by, served, without_pool, without_subscriber}

-- a message by its rows, where all addresses of its pool are free, or none is
abbrev step : Bool → Received → DeviceCase → DeviceStep
step free m c =
    device_step_for 1700000060 (mac modem) m c (chosen_by (λ pool address. free) m c.pool c.own) None

-- messages that write nothing and have no reply, all with this word
abbrev refusal_by : DeviceWord → DeviceStep
refusal_by word = record { writes = []; reply = None; word = word }

abbrev Refuses : Bool → DeviceWord → List (Received × DeviceCase) → Type 0
Refuses free word cases =
    map (λ entry. step free entry.0 entry.1) cases ≡ map (λ entry. refusal_by word) cases

-- messages that are served, all with this word
abbrev Serves : DeviceWord → List (Received × DeviceCase) → Type 0
Serves word cases = map (λ entry. (step false entry.0 entry.1).word) cases ≡ map (λ entry. word) cases

abbrev suspended : Option Ip4 → ℕ → DeviceCase
suspended own others = case_by false true own others

abbrev offline : Option Ip4 → ℕ → DeviceCase
offline own others = case_by true false own others

abbrev own : Option Ip4
own = Some (address 10)

-- a REQUEST takes the offer of this address
abbrev taken : List ℕ
taken = asked 10 ++ meant 2

-- an INFORM, and an OFFER that comes to the office
not_served : Refuses true word.NotServed
    ((said 8 0xa1 [], served None 0)
    ∷ (said 2 0xa1 [], offline None 0)
    ∷ [])
unfolding device_step_for parts_in least_of
not_served = refl

-- a REQUEST for an address beside the one that the device has, for none, and for half of one
no_form : Refuses true word.Form
    ((through 3 0xa1 0x0a80000a (asked 10), served own 0)
    ∷ (said 3 0xa1 [], served own 0)
    ∷ (said 3 0xa1 (50 ∷ 2 ∷ 10 ∷ 128 ∷ meant 2), served own 0)
    ∷ (direct 3 0xa1 0 [], without_pool (served own 0))
    ∷ [])
unfolding device_step_for parts_in least_of
no_form = refl

-- who asks through a relay that has no pool, also without service
no_pool : Refuses true word.NoPool
    ((said 1 0xa1 [], without_pool (served None 0))
    ∷ (said 3 0xa1 taken, without_pool (served own 0))
    ∷ (said 1 0xa1 [], without_pool (suspended None 0))
    ∷ [])
unfolding device_step_for parts_in least_of
no_pool = refl

-- who asks behind a modem without service, also where that is offline
no_service : Refuses true word.Suspended
    ((said 1 0xa1 [], suspended None 0)
    ∷ (said 3 0xa1 taken, suspended own 0)
    ∷ (said 1 0xa1 [], case_by false false None 0)
    ∷ [])
unfolding device_step_for parts_in least_of
no_service = refl

-- or without a subscriber
no_subscriber : Refuses true word.Suspended
    ((said 1 0xa1 [], without_subscriber (served None 0))
    ∷ (said 3 0xa1 taken, without_subscriber (served own 0))
    ∷ [])
unfolding device_step_for parts_in least_of
no_subscriber = refl

-- whatever a device says behind a modem that is offline, and to which server
not_online : Refuses true word.Offline
    ((said 1 0xa1 [], offline None 0)
    ∷ (said 3 0xa1 taken, offline own 0)
    ∷ (said 4 0xa1 (asked 10), offline own 0)
    ∷ (direct 7 0xa1 0x0a80000a [], offline own 0)
    ∷ (said 3 0xa1 (asked 10 ++ meant 9), offline own 0)
    ∷ [])
unfolding device_step_for parts_in least_of
not_online = refl

-- what is meant for the server 10.0.0.9, of one of too many too, and of one without an address
for_another_server : Refuses true word.OtherServer
    ((said 3 0xa1 (asked 10 ++ meant 9), served own 0)
    ∷ (said 4 0xa1 (asked 10 ++ meant 9), served own 0)
    ∷ (direct 7 0xa1 0x0a80000a (meant 9), served own 0)
    ∷ (said 3 0xa1 (asked 10 ++ meant 9), served own 2)
    ∷ (direct 7 0xa1 0x0a80000a (meant 9), served None 0)
    ∷ [])
unfolding device_step_for parts_in least_of
for_another_server = refl

-- who asks where two others have addresses, or more: for its own, or for one that it has not
too_many : Refuses true word.Limit
    ((said 1 0xa1 [], served own 2)
    ∷ (said 3 0xa1 taken, served own 2)
    ∷ (said 3 0xa1 (asked 10), served None 3)
    ∷ [])
unfolding device_step_for parts_in least_of
too_many = refl

-- who has no address: it began anew, it renews, it declines, it releases
no_address : Refuses true word.NoRecord
    ((said 3 0xa1 (asked 10), served None 1)
    ∷ (direct 3 0xa1 0x0a80000a [], served None 1)
    ∷ (said 4 0xa1 (asked 10), served None 1)
    ∷ (direct 7 0xa1 0x0a80000a [], served None 1)
    ∷ [])
unfolding device_step_for parts_in least_of
no_address = refl

-- who declines or releases another address than its own, or declines none
another_address : Refuses true word.NoRecord
    ((said 4 0xa1 (asked 11), served own 1)
    ∷ (direct 7 0xa1 0x0a80000b [], served own 1)
    ∷ (said 4 0xa1 [], served own 1)
    ∷ [])
unfolding device_step_for parts_in least_of
another_address = refl

-- a full pool has no address for who has none of it
full : Refuses false word.PoolFull
    ((said 1 0xa1 [], served None 0)
    ∷ (said 1 0xa1 (asked 12), served (Some elsewhere) 0)
    ∷ [])
unfolding device_step_for parts_in least_of
full = refl

-- also where there are too many
full_and_too_many : Refuses false word.Limit
    ((said 1 0xa1 [], served None 2)
    ∷ [])
unfolding device_step_for parts_in least_of
full_and_too_many = refl

-- A full pool serves who has an address of it. A DISCOVER may name another server, and one other
-- device leaves a place.
offered : Serves word.Offer
    ((said 1 0xa1 (meant 9), served own 0)
    ∷ (said 1 0xa1 [], served own 1)
    ∷ [])
unfolding device_step_for parts_in least_of
offered = refl

-- so it does a REQUEST
acknowledged : Serves word.Ack
    ((said 3 0xa1 taken, served own 1)
    ∷ (said 3 0xa1 (asked 10), served own 1)
    ∷ [])
unfolding device_step_for parts_in least_of
acknowledged = refl

-- an address is given back without a pool, without service, to this server, by one of too many
declined : Serves word.Declined
    ((direct 4 0xa1 0 (asked 10 ++ meant 2), without_pool (suspended own 2))
    ∷ [])
unfolding device_step_for parts_in least_of
declined = refl

-- also where there's no subscriber any more
released : Serves word.Released
    ((direct 7 0xa1 0x0a80000a (meant 2), without_pool (suspended own 2))
    ∷ (direct 7 0xa1 0x0a80000a [], without_subscriber (served own 0))
    ∷ [])
unfolding device_step_for parts_in least_of
released = refl
