-- Laws of leases over whole runs. The states of a run are those at its places, and up to each place
-- a run is a run: so what holds at the end of every run holds in every state of a run.
use Rattle.std.specs.Prelude.{◌≡◌, ◌≢◌, ◌⊎◌, ◌↔◌, ℕ, ◌<◌, max, true, IsTrue, List, [], ◌∷◌, ◌++◌, All, Option, Some, None, Ok, codes}
use Rattle.off_base.specs.declared.addresses.Ip4.{Ip4}
use Rattle.off_base.specs.declared.addresses.Peer.{Peer}
use Rattle.off_base.specs.declared.macs.Mac.{Mac}
use Rattle.off_defs.specs.declared.events.Service.TheVariants.{Dhcp}
use Rattle.off_defs.specs.declared.events.What.TheVariants.{Datagram}
use Rattle.off_orders.specs.declared.orders.Command.{Command}
use Rattle.off_orders.specs.declared.orders.Command.TheVariants.{Import}
use Rattle.off_orders.specs.declared.orders.ImportRow.{ImportRow}
use Rattle.off_defs.specs.declared.tables.Hold.{Hold}
use Rattle.off_defs.specs.declared.tables.Hold.TheVariants.{Offered, Bound, Declined}
use Rattle.off_defs.specs.declared.tables.ImportKind.{ImportKind}
use Rattle.off_defs.specs.declared.tables.Lease.{Lease}
use Rattle.off_defs.specs.declared.tables.Pool.{Pool}
use Rattle.off_defs.specs.declared.tables.Site.{Site}
use Rattle.off_defs.specs.Clock.{later_by}
use Rattle.off_defs.specs.State.{Tables, State}
use Rattle.off_dhcp.specs.Datagram.{Received, message_of}
use Rattle.off_orders.specs.Sound.{is_sound}
use Rattle.off_account_rules.specs.Rows.{lease_in}
use Rattle.off_account_rules.specs.Good.{Good, owner_of}
use Rattle.off_orders.specs.Clerk.{clerk_step}
use Rattle.off_table_laws.specs.Laws.{owner_in, LiesInOnePool}
use Rattle.off_asking.specs.Asking.{client, claimed}
use Rattle.off_lease_rules.specs.Free.{has_ended, pool_for, site_for}
use Rattle.off_lease_rules.specs.Steps.{offer_to}
use Rattle.off_lease_rules.specs.Words.{acts}
use Rattle.off_lease_rules.specs.declared.words.DhcpWord.{DhcpWord}
use Rattle.off_lease_rules.specs.declared.words.DhcpWord.TheVariants.{NotServed}
use Rattle.off_lease_laws.specs.Moves.{HoldersAgree}
use Rattle.off_lease_laws.specs.Effects.{lease_until, bound_until}
use Rattle.off_lease_laws.specs.Laws.{Standing, free, offered_to, bound_to, resting, standing}
use Rattle.off_query_rules.specs.declared.words.QueryWord.{QueryWord}
use Rattle.off_cpe_rules.specs.declared.words.DeviceWord.{DeviceWord}
use Rattle.off_book.specs.Dhcp.{dhcp_line, device_line, query_line}
use Rattle.off_book.specs.Run.{Turn, Run}

-- ---- in every state

-- a run has a state at each of its places: it is a run up to there, and one from there
pub record RunsThrough (s last : State) (before later : List Turn) : Type 0 where
  pub state : State
  pub up_to : Run s before state
  pub onward : Run state later last

abbrev pub RunsHavePlaces : Type 0
RunsHavePlaces = (s last : State) (before later : List Turn) → Run s (before ++ later) last
    → RunsThrough s last before later

-- the lease is of this kind, and hasn't ended
pub record IsLiveAs (now : ℕ) (lease : Option Lease) (hold : Hold) : Type 0 where
  pub expiry : ℕ
  pub is : lease ≡ Some (lease_until hold expiry)
  pub live : now < expiry

-- what each standing of an address says of its lease
abbrev pub StandsAs : ℕ → Option Lease → Standing → Type 0
StandsAs now lease free = IsTrue (has_ended now lease)
StandsAs now lease (offered_to mac) = IsLiveAs now lease (Offered mac)
StandsAs now lease (bound_to mac) = IsLiveAs now lease (Bound mac)
StandsAs now lease resting = IsLiveAs now lease Declined

-- an address stands in one of these ways, the one that `standing` tells, and in no other
abbrev pub StandsInOneWay : State → Ip4 → Type 0
StandsInOneWay s address = (way : Standing)
    → StandsAs s.held.now (lease_in s.tables address) way
    ↔ (way ≡ standing s.held.now (lease_in s.tables address))

-- an address is offered or bound to a client
abbrev pub IsLiveFor : State → Mac → Ip4 → Type 0
IsLiveFor s mac address =
    StandsAs s.held.now (lease_in s.tables address) (offered_to mac)
    ⊎ StandsAs s.held.now (lease_in s.tables address) (bound_to mac)

pub record LeasesAreRight (s : State) : Type 0 where
  pub agree : HoldersAgree s.tables
  pub one_way : (address : Ip4) → StandsInOneWay s address
  pub one_client : (address : Ip4) (one other : Mac) → IsLiveFor s one address
      → IsLiveFor s other address → one ≡ other
  pub one_lease : (mac : Mac) (one other : Ip4) → owner_in s.tables one ≡ Some mac
      → owner_in s.tables other ≡ Some mac → one ≡ other
  pub in_one_pool : (address : Ip4) (lease : Lease) → lease_in s.tables address ≡ Some lease
      → LiesInOnePool s.tables address

-- in every state of a run leases are right: no address is live for two clients, none has two leases
abbrev pub LeasesStayRight : Type 0
LeasesStayRight = (s last : State) (turns : List Turn) → Good s.tables → Run s turns last
    → LeasesAreRight last

-- ---- what clerks do to leases

-- what becomes of an address's lease: it stays as it is, or it had ended and is there no more
abbrev pub StaysOrWasOver : ℕ → Option Lease → Option Lease → Type 0
StaysOrWasOver now old new = (new ≡ old) ⊎ (IsTrue (has_ended now old) × (new ≡ None))

abbrev pub CommandsDropEnded : Type 0
CommandsDropEnded = (tables : Tables) (now : ℕ) (command : Command) (address : Ip4)
    → Good tables → IsTrue (is_sound command)
    → StaysOrWasOver now (lease_in tables address)
    (lease_in (clerk_step tables now command).tables address)

-- so a lease that hasn't ended at the moment of a command is the same behind it
abbrev pub CommandsKeepLive : Type 0
CommandsKeepLive = (tables : Tables) (now : ℕ) (command : Command) (address : Ip4) (lease : Lease)
    → Good tables → IsTrue (is_sound command)
    → lease_in tables address ≡ Some lease → now < lease.expiry.0
    → lease_in (clerk_step tables now command).tables address ≡ Some lease

-- an import keeps all leases
abbrev pub ImportsKeepLeases : Type 0
ImportsKeepLeases = (tables : Tables) (now : ℕ) (kind : ImportKind) (batch : ℕ) (digest : List ℕ)
    → (rows : List ImportRow) (address : Ip4)
    → lease_in (clerk_step tables now (Import kind batch digest rows)).tables address
    ≡ lease_in tables address

-- ---- what a line says

-- a line of a DHCP datagram has one word
abbrev pub LinesTellWords : Type 0
LinesTellWords = (one other : DhcpWord) → dhcp_line one ≡ dhcp_line other → one ≡ other

-- and no word of a query has a line of a message
abbrev pub QueriesSayNone : Type 0
QueriesSayNone = (word : QueryWord) (other : DhcpWord) → query_line word ≢ dhcp_line other

-- nor has a word of a device's message a line of a modem's, but for messages of kinds that aren't
-- served
abbrev pub DevicesSayNone : Type 0
DevicesSayNone =
    (word : DeviceWord) (other : DhcpWord) → other ≢ NotServed
    → device_line word ≢ dhcp_line other

-- ---- what is offered or bound stays so

abbrev pub IsBoundUntil : Mac → Ip4 → ℕ → State → Type 0
IsBoundUntil mac address expiry s = lease_in s.tables address ≡ Some (bound_until mac expiry)

-- a turn that took a client's message
pub record TakesMessage (m : Received) (turn : Turn) : Type 0 where
  pub from : Peer
  pub bytes : List ℕ
  pub came : turn.event.what ≡ Datagram Dhcp from bytes
  pub read : message_of bytes ≡ Ok m

-- a turn that served a client: its line has one of the four words that act
pub record Serves (mac : Mac) (turn : Turn) : Type 0 where
  pub message : Received
  pub word : DhcpWord
  pub takes : TakesMessage message turn
  pub sender : client message ≡ mac
  pub line : turn.said.line ≡ dhcp_line word
  pub acting : acts word ≡ true

abbrev pub DoesNotServe : Mac → Turn → Type 0
DoesNotServe mac turn = Serves mac turn → ⊥

-- until it ends, a lease that is offered or bound to a client outlasts all turns that don't serve
-- the client
abbrev pub LeasesOutlast : Type 0
LeasesOutlast =
    (s last : State) (turns : List Turn) (mac : Mac) (address : Ip4) (lease : Lease)
    → Good s.tables → Run s turns last
    → lease_in s.tables address ≡ Some lease → owner_of lease.hold ≡ Some mac
    → All (DoesNotServe mac) turns
    → last.held.now < lease.expiry.0
    → lease_in last.tables address ≡ Some lease

-- so does a binding
abbrev pub BindingsOutlast : Type 0
BindingsOutlast =
    (s last : State) (turns : List Turn) (mac : Mac) (address : Ip4) (expiry : ℕ)
    → Good s.tables → Run s turns last
    → IsBoundUntil mac address expiry s
    → All (DoesNotServe mac) turns
    → last.held.now < expiry
    → IsBoundUntil mac address expiry last

-- ---- what is acknowledged

-- the moment of a turn
abbrev pub moment_of : State → Turn → ℕ
moment_of s turn = max s.held.now turn.event.at.0

-- The client was told that the address for which it asked is its own for as long as the
-- leases of its hub last, and until then it is bound to it.
pub record IsGiven (s : State) (m : Received) (turn : Turn) (last : State) : Type 0 where
  pub site : Site
  pub pool : Pool
  pub address : Ip4
  pub site_is : site_for s.tables m ≡ Some site
  pub pool_is : pool_for s.tables m ≡ Some pool
  pub claim : claimed m ≡ Some address
  pub told : turn.said.items ≡ offer_to 5 m site pool address ∷ []
  pub bound : last.held.now < later_by site.lease (moment_of s turn)
      → IsBoundUntil (client m) address (later_by site.lease (moment_of s turn)) last

-- an address that is acknowledged is the client's until its end, while no turn serves the client
abbrev pub AcknowledgedIsGiven : Type 0
AcknowledgedIsGiven =
    (s last : State) (turn : Turn) (turns : List Turn) (m : Received)
    → Good s.tables → Run s (turn ∷ turns) last
    → TakesMessage m turn
    → turn.said.line ≡ codes "dhcp ack"
    → All (DoesNotServe (client m)) turns
    → IsGiven s m turn last

-- ---- a run as a whole

-- What holds of leases over a stretch of a run, from one of its states to a later one: leases are
-- right in both; what is bound stays bound; and what is acknowledged at its begin is the client's.
pub record LeasesHold (from to : State) (stretch : List Turn) : Type 0 where
  pub right : LeasesAreRight from
  pub right_again : LeasesAreRight to
  pub outlast : (mac : Mac) (address : Ip4) (expiry : ℕ) → IsBoundUntil mac address expiry from
      → All (DoesNotServe mac) stretch → to.held.now < expiry → IsBoundUntil mac address expiry to
  pub given : (turn : Turn) (turns : List Turn) (m : Received) → stretch ≡ turn ∷ turns
      → TakesMessage m turn → turn.said.line ≡ codes "dhcp ack"
      → All (DoesNotServe (client m)) turns
      → IsGiven from m turn to

-- and so over each stretch of it
abbrev pub LeasesHoldThrough : State → List Turn → Type 0
LeasesHoldThrough s turns =
    (before stretch later : List Turn) (from to : State) → turns ≡ before ++ (stretch ++ later)
    → Run s before from → Run from stretch to → LeasesHold from to stretch
