-- Worked examples, evaluated: what a device's message does that is served, and a NAK. Two devices of
-- a subscriber who may have two, and a third one; a modem without service, and one that is offline.
use Rattle.std.proofs.Common.{◌≡◌, ℕ, true, false, List, [], ◌∷◌, ◌++◌, replicate, Option, Some, None, refl}
use Rattle.off_base.specs.Parts.{parts_in}
use Rattle.off_base.specs.declared.addresses.Ip4.{Ip4}
use Rattle.off_defs.specs.declared.events.Service.TheVariants as service
use Rattle.off_defs.specs.declared.keys.Key.TheVariants as key
use Rattle.off_defs.specs.declared.tables.Row.TheVariants as row
use Rattle.off_defs.specs.declared.tables.DeviceHold.{DeviceHold}
use Rattle.off_defs.specs.declared.tables.DeviceHold.TheVariants.{Declined}
use Rattle.off_defs.specs.declared.writes.Write.{Write}
use Rattle.off_defs.specs.declared.writes.Write.TheVariants.{Put, Drop}
use Rattle.off_defs.specs.declared.results.Sent.{Sent}
use Rattle.off_defs.specs.declared.results.Sent.TheVariants as sent
use Rattle.off_dhcp.specs.Reply.{head, relay_options, nak_bytes, reply_bytes}
use Rattle.off_asking.specs.Asking.{ip}
use Rattle.off_cpe_rules.specs.Steps.{device_step_for}
use Rattle.off_cpe_rules.specs.declared.results.DeviceStep.{DeviceStep}
use Rattle.off_cpe_rules.specs.declared.words.DeviceWord.{DeviceWord}
use Rattle.off_cpe_rules.specs.declared.words.DeviceWord.TheVariants as word
use Rattle.off_cpe_rules.proofs.Office.{address, elsewhere, mac, modem, device, relayed_by, direct, through, said, asked, meant, case_by, served, without_pool, lease_by, offered_to, bound_to}

-- ---- replies, byte for byte: the fixed part by its fields, with no sname and no file

abbrev none : List ℕ
none = 0 ∷ 0 ∷ 0 ∷ 0 ∷ []

abbrev office : List ℕ
office = 10 ∷ 0 ∷ 0 ∷ 2 ∷ []

abbrev relay : List ℕ
relay = 10 ∷ 128 ∷ 0 ∷ 1 ∷ []

abbrev four : ℕ → List ℕ
four last = 10 ∷ 128 ∷ 0 ∷ last ∷ []

-- flags, ciaddr, yiaddr, siaddr, giaddr and chaddr
abbrev fixed_part : List ℕ → List ℕ → List ℕ → List ℕ → List ℕ → List ℕ → List ℕ
fixed_part flags ciaddr yiaddr siaddr giaddr chaddr =
    (2 ∷ 1 ∷ 6 ∷ 0 ∷ 0x11 ∷ 0x22 ∷ 0x33 ∷ 0x44 ∷ 0 ∷ 0 ∷ []) ++ flags ++ ciaddr ++ yiaddr ++ siaddr ++ giaddr
    ++ chaddr ++ replicate 10 0 ++ replicate 64 0 ++ replicate 128 0 ++ (99 ∷ 130 ∷ 83 ∷ 99 ∷ [])

-- a day's lease, its half and seven eighths of it; the mask, the router, the offset and the clock
abbrev options_given : ℕ → List ℕ
options_given kind =
    53 ∷ 1 ∷ kind ∷ 54 ∷ 4 ∷ 10 ∷ 0 ∷ 0 ∷ 2 ∷ 51 ∷ 4 ∷ 0 ∷ 1 ∷ 0x51 ∷ 0x80 ∷ 58 ∷ 4 ∷ 0 ∷ 0 ∷ 0xa8 ∷ 0xc0 ∷ 59 ∷ 4 ∷ 0 ∷ 1 ∷ 0x27 ∷ 0x50
    ∷ 1 ∷ 4 ∷ 255 ∷ 255 ∷ 255 ∷ 0 ∷ 3 ∷ 4 ∷ 10 ∷ 128 ∷ 0 ∷ 1 ∷ 2 ∷ 4 ∷ 0 ∷ 0 ∷ 0x0e ∷ 0x10 ∷ 4 ∷ 4 ∷ 10 ∷ 0 ∷ 0 ∷ 2 ∷ []

-- an OFFER, or an ACK to a device that has no address
abbrev given : ℕ → ℕ → ℕ → List ℕ
given kind last place =
    fixed_part (0 ∷ 0 ∷ []) none (four place) office relay (device last) ++ options_given kind ++ relayed_by ++ (255 ∷ [])

-- ACKs to one that has its address, through the relay and without it
abbrev confirmed : ℕ → ℕ → List ℕ
confirmed last place =
    fixed_part (0 ∷ 0 ∷ []) (four place) (four place) office relay (device last) ++ options_given 5 ++ relayed_by ++ (255 ∷ [])

abbrev confirmed_direct : ℕ → ℕ → List ℕ
confirmed_direct last place =
    fixed_part (0 ∷ 0 ∷ []) (four place) (four place) office none (device last) ++ options_given 5 ++ (255 ∷ []) ++ replicate 8 0

-- a NAK: through a relay with the flag of a broadcast
abbrev denied : List ℕ → List ℕ → ℕ → List ℕ
denied flags giaddr last =
    fixed_part flags none none none giaddr (device last) ++ (53 ∷ 1 ∷ 6 ∷ 54 ∷ 4 ∷ 10 ∷ 0 ∷ 0 ∷ 2 ∷ []) ++ relayed_by ++ (255 ∷ []) ++ replicate 40 0

abbrev sent_to : Ip4 → ℕ → List ℕ → Option Sent
sent_to address port bytes = Some (sent.Datagram service.Dhcp (record { ip = address; port = port }) bytes)

abbrev to_relay : List ℕ → Option Sent
to_relay bytes = sent_to (address 1) 67 bytes

-- ---- steps

abbrev step_by : DeviceWord → List Write → Option Sent → DeviceStep
step_by word writes reply = record { writes = writes; reply = reply; word = word }

abbrev refusal_by : DeviceWord → DeviceStep
refusal_by word = step_by word [] None

abbrev put : ℕ → DeviceHold → ℕ → Write
put last hold moment = Put (key.Device (address last)) (row.Device (lease_by hold moment))

first_offer : device_step_for 1700000000 (mac modem) (said 1 0xa1 []) (served None 0) (Some (address 10)) None
    ≡ step_by word.Offer (put 10 (offered_to 0xa1) 1700000120 ∷ []) (to_relay (given 2 0xa1 10))
unfolding device_step_for parts_in head relay_options reply_bytes
first_offer = refl

second_offer : device_step_for 1700000000 (mac modem) (said 1 0xa2 []) (served None 1) (Some (address 11)) None
    ≡ step_by word.Offer (put 11 (offered_to 0xa2) 1700000120 ∷ []) (to_relay (given 2 0xa2 11))
unfolding device_step_for parts_in head relay_options reply_bytes
second_offer = refl

third_refused : device_step_for 1700000119 (mac modem) (said 1 0xa3 []) (served None 2) (Some (address 12)) None ≡ refusal_by word.Limit
unfolding device_step_for parts_in
third_refused = refl

third_offer : device_step_for 1700000120 (mac modem) (said 1 0xa3 []) (served None 0) (Some (address 10)) (Some (lease_by (offered_to 0xa1) 1700000120))
    ≡ step_by word.Offer (put 10 (offered_to 0xa3) 1700000240 ∷ []) (to_relay (given 2 0xa3 10))
unfolding device_step_for parts_in head relay_options reply_bytes
third_offer = refl

no_service : device_step_for 1700000000 (mac modem) (said 1 0xa1 []) (case_by false true None 0) (Some (address 10)) None ≡ refusal_by word.Suspended
unfolding device_step_for parts_in
no_service = refl

not_online : device_step_for 1700000000 (mac modem) (said 1 0xa1 []) (case_by true false None 0) (Some (address 10)) None ≡ refusal_by word.Offline
unfolding device_step_for parts_in
not_online = refl

-- an OFFER has no ciaddr, whatever the DISCOVER has there
offer_without_ciaddr : (device_step_for 1700000000 (mac modem) (through 1 0xa1 0x0a80000a []) (served None 0) (Some (address 10)) None).reply ≡ to_relay (given 2 0xa1 10)
unfolding device_step_for parts_in head relay_options reply_bytes
offer_without_ciaddr = refl

-- a device to which its address was offered already is offered it once more, for two minutes from
-- now
offered_again : device_step_for 1700000060 (mac modem) (said 1 0xa1 []) (served (Some (address 10)) 0) (Some (address 10)) (Some (lease_by (offered_to 0xa1) 1700000120))
    ≡ step_by word.Offer (put 10 (offered_to 0xa1) 1700000180 ∷ []) (to_relay (given 2 0xa1 10))
unfolding device_step_for parts_in head relay_options reply_bytes
offered_again = refl

-- one that is bound to it stays so until its lease ends
bound_already : device_step_for 1700086399 (mac modem) (said 1 0xa1 []) (served (Some (address 10)) 0) (Some (address 10)) (Some (lease_by (bound_to 0xa1) 1700086400))
    ≡ step_by word.Offer [] (to_relay (given 2 0xa1 10))
unfolding device_step_for parts_in head relay_options reply_bytes
bound_already = refl

bound_before : device_step_for 1700086400 (mac modem) (said 1 0xa1 []) (served (Some (address 10)) 0) (Some (address 10)) (Some (lease_by (bound_to 0xa1) 1700086400))
    ≡ step_by word.Offer (put 10 (offered_to 0xa1) 1700086520 ∷ []) (to_relay (given 2 0xa1 10))
unfolding device_step_for parts_in head relay_options reply_bytes
bound_before = refl

-- behind another relay than before a device gives up the address that it had there
moved : device_step_for 1700000000 (mac modem) (said 1 0xa1 []) (served (Some elsewhere) 0) (Some (address 10)) None
    ≡ step_by word.Offer (Drop (key.Device elsewhere) ∷ put 10 (offered_to 0xa1) 1700000120 ∷ []) (to_relay (given 2 0xa1 10))
unfolding device_step_for parts_in head relay_options reply_bytes
moved = refl

-- a device that is bound may renew although it's one of as many as there may be
acknowledged : device_step_for 1700000060 (mac modem) (said 3 0xa1 (asked 10 ++ meant 2)) (served (Some (address 10)) 1) (Some (address 10)) None
    ≡ step_by word.Ack (put 10 (bound_to 0xa1) 1700086460 ∷ []) (to_relay (given 5 0xa1 10))
unfolding device_step_for parts_in head relay_options reply_bytes
acknowledged = refl

-- one that began anew asks for the address that it had before
rebooted : device_step_for 1700000060 (mac modem) (said 3 0xa1 (asked 10)) (served (Some (address 10)) 1) (Some (address 10)) None
    ≡ step_by word.Ack (put 10 (bound_to 0xa1) 1700086460 ∷ []) (to_relay (given 5 0xa1 10))
unfolding device_step_for parts_in head relay_options reply_bytes
rebooted = refl

-- one that renews without the relay is answered at its own address, also where its lease had ended
renewed : device_step_for 1700043260 (mac modem) (direct 3 0xa1 0x0a80000a []) (served (Some (address 10)) 1) (Some (address 10)) (Some (lease_by (bound_to 0xa1) 1700043260))
    ≡ step_by word.Ack (put 10 (bound_to 0xa1) 1700129660 ∷ []) (sent_to (address 10) 68 (confirmed_direct 0xa1 10))
unfolding device_step_for parts_in head relay_options reply_bytes
renewed = refl

-- and through the relay where its message came that way
rebound : device_step_for 1700075660 (mac modem) (through 3 0xa1 0x0a80000a []) (served (Some (address 10)) 1) (Some (address 10)) (Some (lease_by (bound_to 0xa1) 1700086460))
    ≡ step_by word.Ack (put 10 (bound_to 0xa1) 1700162060 ∷ []) (to_relay (confirmed 0xa1 10))
unfolding device_step_for parts_in head relay_options reply_bytes
rebound = refl

-- who asks for an address that isn't its own is told so, and nothing is written
not_yours : device_step_for 1700000060 (mac modem) (said 3 0xa1 (asked 10 ++ meant 2)) (served (Some (address 11)) 1) (Some (address 10)) None
    ≡ step_by word.NotYours [] (to_relay (denied (128 ∷ 0 ∷ []) relay 0xa1))
unfolding device_step_for parts_in head relay_options nak_bytes
not_yours = refl

-- so is who takes an offer that was never made, and who has an address that isn't of this pool
never_offered : device_step_for 1700000060 (mac modem) (said 3 0xa1 (asked 10 ++ meant 2)) (served None 1) (Some (address 10)) None
    ≡ step_by word.NotYours [] (to_relay (denied (128 ∷ 0 ∷ []) relay 0xa1))
unfolding device_step_for parts_in head relay_options nak_bytes
never_offered = refl

of_another_pool : device_step_for 1700000060 (mac modem) (through 3 0xa1 0x0a80010a []) (served (Some elsewhere) 1) (Some elsewhere) None
    ≡ step_by word.NotYours [] (to_relay (denied (128 ∷ 0 ∷ []) relay 0xa1))
unfolding device_step_for parts_in head relay_options nak_bytes
of_another_pool = refl

-- without a relay it's told to everybody, whatever address it says that it has
not_yours_direct : device_step_for 1700000060 (mac modem) (direct 3 0xa1 0x0a80000a relayed_by) (served (Some (address 11)) 1) (Some (address 10)) None
    ≡ step_by word.NotYours [] (sent_to (ip 0xffffffff) 68 (denied (0 ∷ 0 ∷ []) none 0xa1))
unfolding device_step_for parts_in head relay_options nak_bytes
not_yours_direct = refl

-- an address that is declined rests, also where the modem has no service any more
declined : device_step_for 1700000060 (mac modem) (said 4 0xa1 (asked 10)) (case_by false true (Some (address 10)) 2) (Some (address 10)) None
    ≡ step_by word.Declined (put 10 Declined 1700000660 ∷ []) None
unfolding device_step_for parts_in
declined = refl

-- one that is released is free at once, and its device needs no relay
released : device_step_for 1700000060 (mac modem) (direct 7 0xa1 0x0a80000a []) (without_pool (case_by false true (Some (address 10)) 2)) (Some (address 10)) (Some (lease_by (bound_to 0xa1) 1700086460))
    ≡ step_by word.Released (Drop (key.Device (address 10)) ∷ []) None
unfolding device_step_for parts_in
released = refl
