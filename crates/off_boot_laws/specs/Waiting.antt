-- What may come between two messages of a modem that has an address: turns that don't serve it, and
-- its own messages again, while its lease lasts.
use Rattle.std.specs.Prelude.{◌≡◌, ◌≢◌, ◌⊎◌, ℕ, ◌<◌, IsTrue, List, ◌∷◌, ◌++◌, All, Some}
use Rattle.off_base.specs.declared.addresses.Ip4.{Ip4}
use Rattle.off_base.specs.declared.macs.Mac.{Mac}
use Rattle.off_defs.specs.declared.tables.Pool.{Pool}
use Rattle.off_defs.specs.declared.tables.Lease.{Lease}
use Rattle.off_defs.specs.declared.results.Outcome.TheVariants.{Did}
use Rattle.off_defs.specs.State.{Tables, State}
use Rattle.off_dhcp.specs.Datagram.{Received}
use Rattle.off_account_rules.specs.Rows.{pool_in, lease_in, has_address}
use Rattle.off_account_rules.specs.Good.{Good, owner_of}
use Rattle.off_table_laws.specs.Laws.{owner_in}
use Rattle.off_asking.specs.Asking.{client, claimed}
use Rattle.off_lease_laws.specs.Effects.{bound_until}
use Rattle.off_book.specs.Step.{Step}
use Rattle.off_book.specs.Run.{Turn, Run, effect_of}
use Rattle.off_laws.specs.Leases.{TakesMessage, DoesNotServe, moment_of}
use Rattle.off_boot_laws.specs.Known.{IsPoolOf}

-- its DISCOVER again, by way of a pool that has the address
pub record IsDiscoverFor (tables : Tables) (m : Received) (address : Ip4) : Type 0 where
  pub kind : m.kind ≡ 1
  pub number : ℕ
  pub pool : Pool
  pub pool_is : pool_in tables number ≡ Some pool
  pub pooled : IsPoolOf m pool
  pub within : IsTrue (has_address pool address)

-- or a REQUEST for the address, again or to renew it
pub record IsRequestFor (m : Received) (address : Ip4) : Type 0 where
  pub kind : m.kind ≡ 3
  pub claim : claimed m ≡ Some address

-- whether or not it's answered
pub record AsksAgain (mac : Mac) (address : Ip4) (s : State) (turn : Turn) : Type 0 where
  pub message : Received
  pub takes : TakesMessage message turn
  pub sender : client message ≡ mac
  pub asks : IsDiscoverFor s.tables message address ⊎ IsRequestFor message address

-- the lease of the address hasn't ended at the moment of a turn
abbrev pub LeaseLasts : Ip4 → State → Turn → Type 0
LeaseLasts address s turn =
    (lease : Lease) → lease_in s.tables address ≡ Some lease → moment_of s turn < lease.expiry.0

-- So it waits: at each turn its lease lasts, and the turn doesn't serve it, or it asks again.
abbrev pub WaitsThrough : Mac → Ip4 → State → List Turn → Type 0
WaitsThrough mac address s turns =
    (before later : List Turn) (turn : Turn) (from : State) → turns ≡ before ++ turn ∷ later
    → Run s before from
    → LeaseLasts address from turn × (DoesNotServe mac turn ⊎ AsksAgain mac address from turn)

-- Behind that the address is offered or bound to it still; and bound, where it was bound.
pub record IsBoundTo (mac : Mac) (address : Ip4) (tables : Tables) : Type 0 where
  pub expiry : ℕ
  pub is : lease_in tables address ≡ Some (bound_until mac expiry)

pub record KeepsAddress (mac : Mac) (address : Ip4) (old new : Tables) : Type 0 where
  pub owned : owner_in new address ≡ Some mac
  pub bound : IsBoundTo mac address old → IsBoundTo mac address new

abbrev pub WhoWaitsKeeps : Type 0
WhoWaitsKeeps =
    (s last : State) (turns : List Turn) (mac : Mac) (address : Ip4)
    → Good s.tables → Run s turns last
    → owner_in s.tables address ≡ Some mac → WaitsThrough mac address s turns
    → KeepsAddress mac address s.tables last.tables

-- It waits so where no turn serves it, and its lease hasn't ended behind the last of them.
abbrev pub LeftAloneWaits : Type 0
LeftAloneWaits =
    (s last : State) (turns : List Turn) (mac : Mac) (address : Ip4) (lease : Lease)
    → Good s.tables → Run s turns last
    → lease_in s.tables address ≡ Some lease → owner_of lease.hold ≡ Some mac
    → All (DoesNotServe mac) turns → last.held.now < lease.expiry.0
    → WaitsThrough mac address s turns

-- A turn doesn't serve it where the office couldn't act on the event, whoever it's from: want of
-- memory and a failing keeper leave all as it was; nor where it takes another client's message.
pub record OthersDoNotServe (mac : Mac) (turn : Turn) : Type 0 where
  pub undone : turn.outcome ≢ Did → DoesNotServe mac turn
  pub another : (m : Received) → TakesMessage m turn → client m ≢ mac → DoesNotServe mac turn

abbrev pub MostDoNotServe : Type 0
MostDoNotServe =
    (s after : State) (turn : Turn) (mac : Mac)
    → Step s turn.event turn.outcome (effect_of turn after) → OthersDoNotServe mac turn
