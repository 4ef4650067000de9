-- A modem that has an address keeps it, as often as it asks for it again before its lease ends.
use Rattle.std.specs.Prelude.{◌≡◌, IsTrue, List, ◌∷◌, ◌++◌, Some}
use Rattle.off_base.specs.declared.addresses.Ip4.{Ip4}
use Rattle.off_base.specs.declared.macs.Mac.{Mac}
use Rattle.off_defs.specs.State.{State}
use Rattle.off_dhcp.specs.Datagram.{Received}
use Rattle.off_account_rules.specs.Rows.{has_address}
use Rattle.off_account_rules.specs.Good.{Good}
use Rattle.off_table_laws.specs.Laws.{owner_in}
use Rattle.off_asking.specs.Asking.{client}
use Rattle.off_book.specs.Step.{Step}
use Rattle.off_book.specs.Run.{Turn, Run, effect_of}
use Rattle.off_boot_laws.specs.Went.{GoesWell}
use Rattle.off_boot_laws.specs.Stages.{Discovers, IsOffered, Requests, IsAcknowledged}
use Rattle.off_boot_laws.specs.Waiting.{WaitsThrough, KeepsAddress}

-- it's offered the address that it has, and acknowledged it
pub record GetsAnswers (Well : Turn → Type 0) (mac : Mac) (address : Ip4) (s : State) (turn : Turn)
    (after : State) : Type 0 where
  pub offered : (m : Received) → Well turn → client m ≡ mac → (d : Discovers s m turn)
      → IsTrue (has_address d.known.pool address)
      → (offer : IsOffered s m turn after) × (offer.address ≡ address)
  pub acknowledged : (m : Received) → Well turn → client m ≡ mac → Requests s m turn address
      → IsAcknowledged s m turn address after

-- Over each stretch of a run in which it waits it keeps the address, and whatever it asks of it
-- behind that is answered. The stretch may have any number of its own requests.
pub record KeepsAnswered (Well : Turn → Type 0) (mac : Mac) (address : Ip4) (from to : State)
    (later : List Turn) : Type 0 where
  pub keeps : KeepsAddress mac address from.tables to.tables
  pub answered : (turn : Turn) (turns : List Turn) (after : State) → later ≡ turn ∷ turns
      → Step to turn.event turn.outcome (effect_of turn after)
      → GetsAnswers Well mac address to turn after

abbrev pub KeepsBy : (Turn → Type 0) → State → List Turn → Type 0
KeepsBy Well s turns =
    (before stretch later : List Turn) (from to : State) (mac : Mac) (address : Ip4)
    → turns ≡ before ++ (stretch ++ later) → Run s before from → Run from stretch to
    → owner_in from.tables address ≡ Some mac → WaitsThrough mac address from stretch
    → KeepsAnswered Well mac address from to later

abbrev pub WhoAsksAgainKeeps : Type 0
WhoAsksAgainKeeps = (s : State) (turns : List Turn) → Good s.tables → KeepsBy GoesWell s turns
