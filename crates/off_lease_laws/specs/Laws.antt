-- Laws of leases, over all tables where nothing else is said.
use Rattle.std.specs.Prelude.{◌≡◌, ◌≢◌, ◌⊎◌, ◌↔◌, ℕ, ◌<◌, ◌≤◌, false, IsTrue, nat_le, [], List, Option, Some, None, Ok, Err, if◌then◌else◌, MatchOption}
use Rattle.off_base.specs.declared.addresses.Ip4.{Ip4}
use Rattle.off_base.specs.declared.macs.Mac.{Mac}
use Rattle.off_defs.specs.declared.keys.Key.{Key}
use Rattle.off_defs.specs.declared.tables.Pool.{Pool}
use Rattle.off_defs.specs.declared.tables.Hold.{Hold}
use Rattle.off_defs.specs.declared.tables.Hold.TheVariants.{Offered, Bound, Declined}
use Rattle.off_defs.specs.declared.tables.Lease.{Lease}
use Rattle.off_defs.specs.declared.results.Sent.{Sent}
use Rattle.off_defs.specs.Kinds.{kind_of}
use Rattle.off_defs.specs.State.{Tables}
use Rattle.off_defs.specs.Tables.{row_at, write_all}
use Rattle.off_dhcp.specs.declared.faults.DhcpFault.{DhcpFault}
use Rattle.off_dhcp.specs.Datagram.{Received, message_of}
use Rattle.off_account_rules.specs.Rows.{lease_in, has_address, counts_of}
use Rattle.off_account_rules.specs.Good.{Good, owner_of}
use Rattle.off_table_laws.specs.Laws.{owner_in}
use Rattle.off_lease_rules.specs.Words.{acts, unread}
use Rattle.off_asking.specs.Asking.{client}
use Rattle.off_lease_rules.specs.Free.{is_free, least_free, choice}
use Rattle.off_lease_rules.specs.Steps.{lease_step_by, lease_step, dhcp_step, DhcpStep}
use Rattle.off_lease_rules.specs.declared.words.DhcpWord.{DhcpWord}
use Rattle.off_lease_rules.specs.declared.words.DhcpWord.TheVariants as word
use Rattle.off_lease_laws.specs.Outcomes.{Outcome}
use Rattle.off_lease_laws.specs.Moves.{HoldersAgree, Moves}
use Rattle.off_lease_laws.specs.Effects.{IsOfferedBy, IsBoundBy, IsDeclinedBy, IsReleasedBy}

-- ---- one result

-- a datagram does one thing
pub record SameStep (one other : Tables) (reply answer : Option Sent)
    (word said : DhcpWord) : Type 0 where
  pub tables : one ≡ other
  pub replies : reply ≡ answer
  pub words : word ≡ said

abbrev pub StepIsOne : Type 0
StepIsOne =
    (tables : Tables) (now : ℕ) (bytes : List ℕ) (one other : Tables) (reply answer : Option Sent)
    (word said : DhcpWord)
    → DhcpStep tables now bytes one reply word → DhcpStep tables now bytes other answer said →
    SameStep one other reply answer word said

-- and it does something
pub record SomeStep (tables : Tables) (now : ℕ) (bytes : List ℕ) : Type 0 where
  pub after : Tables
  pub reply : Option Sent
  pub word : DhcpWord
  pub step : DhcpStep tables now bytes after reply word

abbrev pub StepIsThere : Type 0
StepIsThere = (tables : Tables) (now : ℕ) (bytes : List ℕ) → SomeStep tables now bytes

-- a datagram that is a message does what the message does; one that is none has its fault's word
-- and does nothing
abbrev pub MessagesDo : Type 0
MessagesDo =
    (tables : Tables) (now : ℕ) (bytes : List ℕ) (m : Received) → message_of bytes ≡ Ok m →
    dhcp_step tables now bytes ≡ lease_step tables now m

abbrev pub FaultsDoNothing : Type 0
FaultsDoNothing =
    (tables : Tables) (now : ℕ) (bytes : List ℕ) (fault : DhcpFault) → message_of bytes ≡ Err fault
    → dhcp_step tables now bytes ≡ lease_step_by (unread fault) [] None

-- ---- the tables after a message

abbrev pub after_message : Tables → ℕ → Received → Tables
after_message tables now m = write_all tables (lease_step tables now m).writes

abbrev pub EachHasAnOutcome : Type 0
EachHasAnOutcome =
    (tables : Tables) (now : ℕ) (m : Received) → Outcome tables now m (lease_step tables now m)

-- a message whose word isn't one of the four that act changes nothing
abbrev pub RefusalsChangeNothing : Type 0
RefusalsChangeNothing =
    (tables : Tables) (now : ℕ) (m : Received) → acts (lease_step tables now m).word ≡ false →
    (lease_step tables now m).writes ≡ []

abbrev pub MessagesMove : Type 0
MessagesMove =
    (tables : Tables) (now : ℕ) (m : Received) → HoldersAgree tables →
    Moves now (client m) tables (after_message tables now m)

abbrev pub AgreementStays : Type 0
AgreementStays =
    (tables : Tables) (now : ℕ) (m : Received) → HoldersAgree tables →
    HoldersAgree (after_message tables now m)

-- all rows but leases (7) and those of who holds them (8) stay
abbrev pub OnlyLeasesChange : Type 0
OnlyLeasesChange =
    (tables : Tables) (now : ℕ) (m : Received) (key : Key) → kind_of key ≢ 7 → kind_of key ≢ 8
    → row_at (after_message tables now m) key ≡ row_at tables key

abbrev pub GoodStays : Type 0
GoodStays =
    (tables : Tables) (now : ℕ) (m : Received) → Good tables → Good (after_message tables now m)

abbrev pub CountsStay : Type 0
CountsStay =
    (tables : Tables) (now : ℕ) (m : Received) →
    counts_of (after_message tables now m) ≡ counts_of tables

-- The same of a datagram: whatever it does, tables that were good are good again, the counts are
-- the same, and only leases change.
pub record LeavesFit (old new : Tables) : Type 0 where
  pub good : Good old → Good new
  pub agree : HoldersAgree old → HoldersAgree new
  pub counts : counts_of new ≡ counts_of old
  pub others : (key : Key) → kind_of key ≢ 7 → kind_of key ≢ 8 → row_at new key ≡ row_at old key

abbrev pub DatagramsLeaveFit : Type 0
DatagramsLeaveFit =
    (tables : Tables) (now : ℕ) (bytes : List ℕ) (after : Tables) (reply : Option Sent)
    (word : DhcpWord)
    → DhcpStep tables now bytes after reply word → LeavesFit tables after

-- ---- free addresses

-- the least free address is the least member of the set, and there is none only where the set is
-- empty
abbrev pub LeastIsLeast : Type 0
LeastIsLeast = (tables : Tables) (now : ℕ) (pool : Pool)
    → MatchOption (least_free tables now pool)
    ((address : Ip4) → is_free tables now pool address ≡ false)
    (λ least. IsTrue (is_free tables now pool least)
    × ((address : Ip4) → IsTrue (is_free tables now pool address) → least.0 ≤ address.0))

-- what is chosen lies in the pool and is the client's own or free, and nothing is chosen only where
-- no address of the pool is either
abbrev pub ChoiceFits : Type 0
ChoiceFits = (tables : Tables) (now : ℕ) (pool : Pool) (held asked : Option Ip4)
    → MatchOption (choice tables now pool held asked)
    ((address : Ip4) → IsTrue (has_address pool address) →
    (held ≢ Some address) × (is_free tables now pool address ≡ false))
    (λ chosen. IsTrue (has_address pool chosen)
    × ((held ≡ Some chosen) ⊎ IsTrue (is_free tables now pool chosen)))

-- ---- each address is exactly one of these at a moment

pub data Standing : Type 0 where
  free : Standing
  offered_to : Mac → Standing
  bound_to : Mac → Standing
  resting : Standing

abbrev pub standing_of : Hold → Standing
standing_of (Offered mac) = offered_to mac
standing_of (Bound mac) = bound_to mac
standing_of Declined = resting

abbrev pub standing : ℕ → Option Lease → Standing
standing now None = free
standing now (Some lease) = if nat_le lease.expiry.0 now then free else standing_of lease.hold

abbrev pub live_for : Standing → Option Mac
live_for free = None
live_for (offered_to mac) = Some mac
live_for (bound_to mac) = Some mac
live_for resting = None

-- an address of a pool stands free where it is in the set of free ones, and nowhere else
abbrev pub FreeStandsFree : Type 0
FreeStandsFree =
    (tables : Tables) (now : ℕ) (pool : Pool) (address : Ip4) → IsTrue (has_address pool address)
    → (standing now (lease_in tables address) ≡ free) ↔ IsTrue (is_free tables now pool address)

-- an address is live for nobody but the owner of its lease
abbrev pub LiveForItsOwner : Type 0
LiveForItsOwner =
    (tables : Tables) (now : ℕ) (address : Ip4) (mac : Mac) →
    live_for (standing now (lease_in tables address)) ≡ Some mac
    → owner_in tables address ≡ Some mac

-- and a client owns one lease at most
abbrev pub OneLeaseAClient : Type 0
OneLeaseAClient =
    (tables : Tables) (mac : Mac) (one other : Ip4) → HoldersAgree tables →
    owner_in tables one ≡ Some mac → owner_in tables other ≡ Some mac
    → one ≡ other

-- ---- what the four words that act say

abbrev pub OffersHold : Type 0
OffersHold =
    (tables : Tables) (now : ℕ) (m : Received) → HoldersAgree tables →
    (lease_step tables now m).word ≡ word.Offer
    → IsOfferedBy tables now m (lease_step tables now m)

abbrev pub AcksBind : Type 0
AcksBind =
    (tables : Tables) (now : ℕ) (m : Received) → (lease_step tables now m).word ≡ word.Ack →
    IsBoundBy tables now m (lease_step tables now m)

abbrev pub DeclinesRest : Type 0
DeclinesRest =
    (tables : Tables) (now : ℕ) (m : Received) → (lease_step tables now m).word ≡ word.Declined
    → IsDeclinedBy tables now m (lease_step tables now m)

abbrev pub ReleasesFree : Type 0
ReleasesFree =
    (tables : Tables) (now : ℕ) (m : Received) → (lease_step tables now m).word ≡ word.Released
    → IsReleasedBy tables m (lease_step tables now m)

-- until it ends, a client's lease outlasts each message of another client, and each of its own that
-- is refused
abbrev pub LeasesLast : Type 0
LeasesLast =
    (tables : Tables) (now : ℕ) (m : Received) (mac : Mac) (address : Ip4) (lease : Lease) →
    HoldersAgree tables
    → lease_in tables address ≡ Some lease → owner_of lease.hold ≡ Some mac → now < lease.expiry.0 →
    (client m ≢ mac) ⊎ (acts (lease_step tables now m).word ≡ false)
    → lease_in (after_message tables now m) address ≡ Some lease
