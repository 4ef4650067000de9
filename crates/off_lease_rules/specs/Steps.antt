-- What a message does that no rule refuses, and what is sent for it (RFC 2131 sections 3.1, 4.1 and
-- 4.3).
use Rattle.std.specs.Prelude.{◌≡◌, ℕ, not, List, [], ◌∷◌, ◌++◌, Option, Some, None, option_map, option_and_then, Result, Ok, Err, if◌then◌else◌}
use Rattle.std.specs.Str.{bytes_eq}
use Rattle.off_base.specs.declared.addresses.Ip4.{Ip4}
use Rattle.off_base.specs.declared.macs.Mac.{Mac}
use Rattle.off_defs.specs.declared.keys.Key.TheVariants as key
use Rattle.off_defs.specs.declared.tables.Row.TheVariants as row
use Rattle.off_defs.specs.declared.tables.Site.{Site}
use Rattle.off_defs.specs.declared.tables.Pool.{Pool}
use Rattle.off_defs.specs.declared.tables.Hold.{Hold}
use Rattle.off_defs.specs.declared.tables.Hold.TheVariants.{Offered, Bound, Declined}
use Rattle.off_defs.specs.declared.tables.Lease.{Lease}
use Rattle.off_defs.specs.declared.writes.Write.{Write}
use Rattle.off_defs.specs.declared.writes.Write.TheVariants.{Put, Drop}
use Rattle.off_defs.specs.declared.results.Sent.{Sent}
use Rattle.off_defs.specs.Clock.{later_by}
use Rattle.off_defs.specs.State.{Tables}
use Rattle.off_defs.specs.Tables.{write_all}
use Rattle.off_dhcp.specs.declared.faults.DhcpFault.{DhcpFault}
use Rattle.off_dhcp.specs.declared.offers.Offer.{Offer}
use Rattle.off_dhcp.specs.Datagram.{Received, message_of}
use Rattle.off_account_rules.specs.Rows.{passes, lease_in}
use Rattle.off_account_rules.specs.Good.{owner_of, is_address, is_live_bound}
use Rattle.off_account_rules.specs.Changes.{held_drop}
use Rattle.off_file_rules.specs.Name.{name_of}
use Rattle.off_asking.specs.Asking.{client, is_discover, is_request, is_decline}
use Rattle.off_asking.specs.Choice.{provided, for_some}
use Rattle.off_asking.specs.Claims.{refused_by}
use Rattle.off_asking.specs.Sending.{nak_to, offer_named, reply_to}
use Rattle.off_lease_rules.specs.Free.{case_of, chosen_in}
use Rattle.off_lease_rules.specs.Rules.{rules_for}
use Rattle.off_lease_rules.specs.Words.{unread}
use Rattle.off_lease_rules.specs.declared.cases.Case.{Case}
use Rattle.off_lease_rules.specs.declared.results.LeaseStep.{LeaseStep}
use Rattle.off_lease_rules.specs.declared.words.DhcpWord.{DhcpWord}
use Rattle.off_lease_rules.specs.declared.words.DhcpWord.TheVariants as word

-- ---- what is written. Each lease ends so many seconds after now

abbrev pub lease_row : Ip4 → Hold → ℕ → ℕ → Write
lease_row address hold seconds now =
    Put (key.Lease address) (row.Lease
    (record { hold = hold; expiry = record { 0 = later_by seconds now } }))

abbrev pub lease_drop : Option Ip4 → List Write
lease_drop None = []
lease_drop (Some address) = Drop (key.Lease address) ∷ []

-- the address that the client held before, where it's another one
abbrev pub held_elsewhere : Ip4 → Option Ip4 → Option Ip4
held_elsewhere address held = provided (λ other. not (is_address address other)) held

-- the modem whose lease it was, where it's another one
abbrev pub former_owner : Mac → Option Lease → Option Mac
former_owner mac lease =
    provided (λ other. not (bytes_eq other.0 mac.0))
    (option_and_then (λ lease. owner_of lease.hold) lease)

-- An address is offered for two minutes. The client gives up the address that it held before, if
-- another, and the owner of one that had ended loses it. Where the client is bound to the address
-- already, all stays.
abbrev pub offered : ℕ → Mac → Option Ip4 → Ip4 → Option Lease → List Write
offered now mac held address lease =
    if passes (is_live_bound now) lease then []
    else lease_drop (held_elsewhere address held) ++ held_drop (former_owner mac lease)
    ++ lease_row address (Offered mac) 120 now ∷ Put (key.Held mac) (row.Held address) ∷ []

-- it is bound for as long as the site's leases last, whether or not the lease had ended
abbrev pub bound : ℕ → Mac → Ip4 → Site → List Write
bound now mac address site = lease_row address (Bound mac) site.lease now ∷ []

-- a declined address rests for ten minutes
abbrev pub set_aside : ℕ → Mac → Ip4 → List Write
set_aside now mac address = lease_row address Declined 600 now ∷ Drop (key.Held mac) ∷ []

-- a released one is free at once
abbrev pub given_up : Mac → Ip4 → List Write
given_up mac address = Drop (key.Lease address) ∷ Drop (key.Held mac) ∷ []

-- ---- what is sent

abbrev pub offer_of : ℕ → Received → Site → Pool → Ip4 → Offer
offer_of kind m site pool address =
    offer_named kind site pool (name_of site.secret (client m) address) address

abbrev pub offer_to : ℕ → Received → Site → Pool → Ip4 → Sent
offer_to kind m site pool address = reply_to m (offer_of kind m site pool address)

-- an OFFER (2) or an ACK (5), where the site, the pool and the address are there
abbrev pub reply_for : ℕ → Received → Case → Option Ip4 → Option Sent
reply_for kind m c chosen =
    option_and_then (λ site. option_and_then
    (λ pool. option_map (offer_to kind m site pool) chosen) c.pool) c.site

-- ---- what becomes of a message

abbrev pub lease_step_by : DhcpWord → List Write → Option Sent → LeaseStep
lease_step_by word writes reply = record { writes = writes; reply = reply; word = word }

-- a message that is refused changes nothing, and has no reply but for one word
abbrev pub reply_to_refused : Received → Case → DhcpWord → Option Sent
reply_to_refused m c word.NotYourAddress = option_map (nak_to m) c.site
reply_to_refused m c word = None

abbrev pub refuses : Received → Case → DhcpWord → LeaseStep
refuses m c word = lease_step_by word [] (reply_to_refused m c word)

abbrev pub offers : ℕ → Received → Case → Option Ip4 → Option Lease → LeaseStep
offers now m c chosen lease =
    lease_step_by word.Offer (for_some
    (λ address. offered now (client m) c.held address lease) chosen) (reply_for 2 m c chosen)

abbrev pub acknowledges : ℕ → Received → Case → Option Ip4 → LeaseStep
acknowledges now m c chosen =
    lease_step_by word.Ack (for_some
    (λ address. for_some (bound now (client m) address) c.site) chosen) (reply_for 5 m c chosen)

abbrev pub declines : ℕ → Received → Option Ip4 → LeaseStep
declines now m chosen =
    lease_step_by word.Declined (for_some (set_aside now (client m)) chosen) None

abbrev pub releases : Received → Option Ip4 → LeaseStep
releases m chosen = lease_step_by word.Released (for_some (given_up (client m)) chosen) None

abbrev pub accepts : ℕ → Received → Case → Option Ip4 → Option Lease → LeaseStep
accepts now m c chosen lease =
    if is_discover m then offers now m c chosen lease
    else if is_request m then acknowledges now m c chosen
    else if is_decline m then declines now m chosen
    else releases m chosen

abbrev pub unless_refused : Received → Case → LeaseStep → Option DhcpWord → LeaseStep
unless_refused m c accepted None = accepted
unless_refused m c accepted (Some word) = refuses m c word

-- by the rows, the address that the message is about, and that address's lease
unfoldable pub lease_step_for : ℕ → Received → Case → Option Ip4 → Option Lease → LeaseStep
lease_step_for now m c chosen lease =
    unless_refused m c (accepts now m c chosen lease) (refused_by (rules_for m c chosen))

abbrev pub lease_step_in : Tables → ℕ → Received → Case → Option Ip4 → LeaseStep
lease_step_in tables now m c chosen = lease_step_for now m c chosen (option_and_then (lease_in tables) chosen)

-- A message at a moment: what it writes, its reply and its word. All that is read of the tables is
-- read by kind.
unfoldable pub lease_step : Tables → ℕ → Received → LeaseStep
lease_step tables now m =
    lease_step_in tables now m (case_of tables m) (chosen_in tables now m (case_of tables m))

-- A datagram: what isn't a message has a word, and does nothing
abbrev pub step_of : Tables → ℕ → Result Received DhcpFault → LeaseStep
step_of tables now (Ok m) = lease_step tables now m
step_of tables now (Err fault) = lease_step_by (unread fault) [] None

unfoldable pub dhcp_step : Tables → ℕ → List ℕ → LeaseStep
dhcp_step tables now bytes = step_of tables now (message_of bytes)

-- what a datagram makes of the tables, what is sent for it, and its word
pub record DhcpStep (tables : Tables) (now : ℕ) (bytes : List ℕ) (after : Tables)
    (reply : Option Sent) (word : DhcpWord) : Type 0 where
  pub tables_after : after ≡ write_all tables (dhcp_step tables now bytes).writes
  pub sent : reply ≡ (dhcp_step tables now bytes).reply
  pub said : word ≡ (dhcp_step tables now bytes).word
