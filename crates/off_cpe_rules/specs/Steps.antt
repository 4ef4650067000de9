-- What a device's message does that no rule refuses, and what is sent for it (RFC 2131 sections
-- 3.1, 4.1 and 4.3).
use Rattle.std.specs.Prelude.{ℕ, Bool, true, false, not, ◌&&◌, List, [], ◌∷◌, ◌++◌, replicate, Option, Some, None, option_map, option_and_then, if◌then◌else◌}
use Rattle.off_base.specs.declared.addresses.Ip4.{Ip4}
use Rattle.off_base.specs.declared.macs.Mac.{Mac}
use Rattle.off_defs.specs.declared.keys.Key.TheVariants as key
use Rattle.off_defs.specs.declared.tables.Row.TheVariants as row
use Rattle.off_defs.specs.declared.tables.Site.{Site}
use Rattle.off_defs.specs.declared.tables.DeviceHold.{DeviceHold}
use Rattle.off_defs.specs.declared.tables.DeviceHold.TheVariants.{Offered, Bound, Declined}
use Rattle.off_defs.specs.declared.tables.DeviceLease.{DeviceLease}
use Rattle.off_defs.specs.declared.writes.Write.{Write}
use Rattle.off_defs.specs.declared.writes.Write.TheVariants.{Put, Drop}
use Rattle.off_defs.specs.declared.results.Sent.{Sent}
use Rattle.off_defs.specs.Clock.{later_by}
use Rattle.off_defs.specs.State.{Tables}
use Rattle.off_dhcp.specs.Datagram.{Received}
use Rattle.off_account_rules.specs.Rows.{passes, device_in}
use Rattle.off_account_rules.specs.Good.{is_address}
use Rattle.off_asking.specs.Asking.{client, is_discover, is_request, is_decline}
use Rattle.off_asking.specs.Choice.{provided, for_some}
use Rattle.off_asking.specs.Claims.{refused_by}
use Rattle.off_asking.specs.Sending.{nak_to, offer_named, reply_to}
use Rattle.off_cpe_rules.specs.Behind.{is_live, modem_behind, device_case, chosen_in}
use Rattle.off_cpe_rules.specs.Rules.{rules_for}
use Rattle.off_cpe_rules.specs.declared.cases.DeviceCase.{DeviceCase}
use Rattle.off_cpe_rules.specs.declared.results.DeviceStep.{DeviceStep}
use Rattle.off_cpe_rules.specs.declared.words.DeviceWord.{DeviceWord}
use Rattle.off_cpe_rules.specs.declared.words.DeviceWord.TheVariants as word

-- ---- what is written. Each lease ends so many seconds after now

abbrev pub lease_for : DeviceHold → ℕ → ℕ → DeviceLease
lease_for hold seconds now = record { hold = hold; expiry = record { 0 = later_by seconds now } }

abbrev pub device_row : Ip4 → DeviceHold → ℕ → ℕ → Write
device_row address hold seconds now =
    Put (key.Device address) (row.Device (lease_for hold seconds now))

abbrev pub own_drop : Option Ip4 → List Write
own_drop None = []
own_drop (Some address) = Drop (key.Device address) ∷ []

-- the device's own address before, where it's another one
abbrev pub own_elsewhere : Ip4 → Option Ip4 → Option Ip4
own_elsewhere address own = provided (λ other. not (is_address address other)) own

abbrev pub is_bound : DeviceHold → Bool
is_bound (Bound modem device) = true
is_bound hold = false

abbrev pub is_live_bound : ℕ → DeviceLease → Bool
is_live_bound now lease = is_bound lease.hold && is_live now lease

-- an address is offered for two minutes, and the device gives up the one that it had before; where
-- it is bound to the address already, all stays
abbrev pub offered : ℕ → Mac → Mac → Option Ip4 → Ip4 → Option DeviceLease → List Write
offered now modem device own address lease =
    if passes (is_live_bound now) lease then []
    else own_drop (own_elsewhere address own)
    ++ device_row address (Offered modem device) 120 now ∷ []

-- it is bound for as long as the leases of the modem's hub last
abbrev pub bound : ℕ → Mac → Mac → Ip4 → Site → List Write
bound now modem device address site =
    device_row address (Bound modem device) site.lease now ∷ []

-- a declined address rests for ten minutes; a released one is free at once
abbrev pub set_aside : ℕ → Ip4 → List Write
set_aside now address = device_row address Declined 600 now ∷ []

abbrev pub given_up : Ip4 → List Write
given_up address = Drop (key.Device address) ∷ []

-- ---- what is sent: a device has no boot file

abbrev pub no_name : List ℕ
no_name = replicate 32 0

abbrev pub reply_for : ℕ → Received → DeviceCase → Option Ip4 → Option Sent
reply_for kind m c chosen =
    option_and_then (λ site. option_and_then
    (λ pool. option_map (λ address. reply_to m (offer_named kind site pool no_name address))
    chosen) c.pool) c.site

-- ---- what becomes of a message

abbrev pub step_by : DeviceWord → List Write → Option Sent → DeviceStep
step_by word writes reply = record { writes = writes; reply = reply; word = word }

-- a message that is refused changes nothing, and has no reply but for one word
abbrev pub reply_to_refused : Received → DeviceCase → DeviceWord → Option Sent
reply_to_refused m c word.NotYours = option_map (nak_to m) c.site
reply_to_refused m c word = None

abbrev pub refuses : Received → DeviceCase → DeviceWord → DeviceStep
refuses m c word = step_by word [] (reply_to_refused m c word)

abbrev pub offers : ℕ → Mac → Received → DeviceCase → Option Ip4 → Option DeviceLease → DeviceStep
offers now modem m c chosen lease =
    step_by word.Offer (for_some
    (λ address. offered now modem (client m) c.own address lease) chosen) (reply_for 2 m c chosen)

abbrev pub acknowledges : ℕ → Mac → Received → DeviceCase → Option Ip4 → DeviceStep
acknowledges now modem m c chosen =
    step_by word.Ack (for_some
    (λ address. for_some (bound now modem (client m) address) c.site) chosen)
    (reply_for 5 m c chosen)

abbrev pub declines : ℕ → Option Ip4 → DeviceStep
declines now chosen = step_by word.Declined (for_some (set_aside now) chosen) None

abbrev pub releases : Option Ip4 → DeviceStep
releases chosen = step_by word.Released (for_some given_up chosen) None

abbrev pub accepts : ℕ → Mac → Received → DeviceCase → Option Ip4 → Option DeviceLease → DeviceStep
accepts now modem m c chosen lease =
    if is_discover m then offers now modem m c chosen lease
    else if is_request m then acknowledges now modem m c chosen
    else if is_decline m then declines now chosen
    else releases chosen

abbrev pub unless_refused : Received → DeviceCase → DeviceStep → Option DeviceWord → DeviceStep
unless_refused m c accepted None = accepted
unless_refused m c accepted (Some word) = refuses m c word

-- by the rows, the address that the message is about, and that address's lease
unfoldable pub device_step_for : ℕ → Mac → Received → DeviceCase → Option Ip4 → Option DeviceLease →
    DeviceStep
device_step_for now modem m c chosen lease =
    unless_refused m c (accepts now modem m c chosen lease) (refused_by (rules_for m c chosen))

abbrev pub device_step_in : Tables → ℕ → Mac → Received → DeviceCase → Option Ip4 → DeviceStep
device_step_in tables now modem m c chosen =
    device_step_for now modem m c chosen (option_and_then (device_in tables) chosen)

-- the step of a device behind a modem
unfoldable pub step_behind : Tables → ℕ → Received → Mac → DeviceStep
step_behind tables now m modem =
    device_step_in tables now modem m (device_case tables now m modem)
    (chosen_in tables now m (device_case tables now m modem))

-- A message at a moment, where it's a device's: what it writes, its reply and its word. All that is
-- read of the tables is read by kind.
unfoldable pub device_step : Tables → ℕ → Received → Option DeviceStep
device_step tables now m = option_map (step_behind tables now m) (modem_behind tables m)
