-- The stages of a drill: how far its modems have come, which state that is, what is still to come,
-- and what was counted by then.
use Rattle.std.specs.Prelude.{◌≡◌, ℕ, suc, ◌+◌, ◌-◌, ◌*◌, ◌≤◌, min, Bool, List, ◌∷◌, ◌++◌, length, if◌then◌else◌}
use Rattle.std.specs.FinMap as map
use Rattle.off_defs.specs.declared.events.Event.{Event}
use Rattle.off_defs.specs.declared.keys.Key.TheVariants as key
use Rattle.off_defs.specs.declared.tables.Row.TheVariants as row
use Rattle.off_defs.specs.declared.tables.Hold.TheVariants.{Offered}
use Rattle.off_defs.specs.declared.tables.Lease.{Lease}
use Rattle.off_defs.specs.State.{Tables, State, Said, Transfer, Held, state_of}
use Rattle.off_defs.specs.Tables.{with_row}
use Rattle.off_book.specs.Run.{Turn, Run, events_of}
use Rattle.off_drill_rules.specs.declared.tally.Tally.{Tally}
use Rattle.off_drill_rules.specs.Rows.{moment, mac, address, is_active, drill_tables}
use Rattle.off_drill_rules.specs.Messages.{by_modem, name, block_size, read_request}
use Rattle.off_drill_rules.specs.Events.{asks_for_lease, asks_for_file, acknowledgements, numbers_from, blocks_of, events_from}
use Rattle.off_drill_rules.specs.Numbers.{plus, tally_of, tally_by, drill_tally}
use Rattle.off_drill_rules.specs.Law.{AllDid, held_behind, drill_state}

-- k modems have been served, and the next one waits; it was offered its address; it has the
-- address; it has its file's blocks before `number`, and acknowledges `number` next
pub data Stage : Type 0 where
  Waits : ℕ → Stage
  HasOffer : ℕ → Stage
  HasLease : ℕ → Stage
  Gets : ℕ → ℕ → Stage

-- ---- the states

-- an address is offered for two minutes
abbrev pub offered_lease : ℕ → Lease
offered_lease i = record { hold = Offered (mac i); expiry = record { 0 = moment i + 120 } }

abbrev pub offered_tables : ℕ → ℕ → Tables
offered_tables n k =
    with_row
    (with_row (drill_tables n k) (key.Lease (address (suc k))) (row.Lease (offered_lease (suc k))))
    (key.Held (mac (suc k))) (row.Held (address (suc k)))

abbrev pub offered_state : ℕ → ℕ → State
offered_state n k = state_of (offered_tables n k) (held_behind (suc k))

-- the file of modem i is on its way, and the packet of this number was sent last
abbrev pub moving : ℕ → List ℕ → ℕ → Bool → Transfer
moving i file number answered = record {
  name = name i;
  modem = mac i;
  subscriber = i;
  file = file;
  size = block_size;
  request = read_request i;
  sent = number;
  is_acknowledged = answered;
  last_send = moment i;
  resends = 0;
}

abbrev pub held_moving : ℕ → Transfer → Held
held_moving i x = record {
  now = moment i;
  transfers = map.insert map.empty (by_modem i) x;
  connections = map.empty;
}

abbrev pub moving_state : ℕ → ℕ → List ℕ → ℕ → Bool → State
moving_state n i file number answered =
    state_of (drill_tables n i) (held_moving i (moving i file number answered))

abbrev pub file_size : Bool → ℕ
file_size active = if active then 88 else 76

pub record Getting (n k number : ℕ) (s : State) : Type 0 where
  pub file : List ℕ
  pub answered : Bool
  pub size : length file ≡ file_size (is_active (suc k))
  pub within : number ≤ blocks_of (is_active (suc k))
  pub is : s ≡ moving_state n (suc k) file number answered

abbrev pub Stands : ℕ → Stage → State → Type 0
Stands n (Waits k) s = s ≡ drill_state n k
Stands n (HasOffer k) s = s ≡ offered_state n k
Stands n (HasLease k) s = s ≡ drill_state n (suc k)
Stands n (Gets k number) s = Getting n k number s

-- ---- what is still to come

-- the acknowledgements from one number on
abbrev pub acks_from : ℕ → ℕ → List Event
acks_from i number =
    acknowledgements i (numbers_from number (suc (blocks_of (is_active i)) - number))

abbrev pub to_come : ℕ → Stage → List Event
to_come n (Waits k) = events_from k (n - k)
to_come n (HasOffer k) =
    asks_for_lease (suc k) ∷ asks_for_file (suc k)
    ∷ (acks_from (suc k) 0 ++ events_from (suc k) (n - suc k))
to_come n (HasLease k) =
    asks_for_file (suc k) ∷ (acks_from (suc k) 0 ++ events_from (suc k) (n - suc k))
to_come n (Gets k number) = acks_from (suc k) number ++ events_from (suc k) (n - suc k)

-- ---- what was counted

abbrev pub with_blocks : ℕ → Bool → Tally → Tally
with_blocks number active tally =
    record tally {
      blocks = tally.blocks + number;
      octets = tally.octets + min (number * block_size) (file_size active);
    }

abbrev pub counted_at : Stage → Tally
counted_at (Waits k) = drill_tally k
counted_at (HasOffer k) = record (drill_tally k) { offers = suc k }
counted_at (HasLease k) = record (drill_tally k) { offers = suc k; acks = suc k }
counted_at (Gets k number) =
    with_blocks number (is_active (suc k)) (record (drill_tally k) { offers = suc k; acks = suc k })

-- ---- from stage to stage

-- the modem of a stage is one of n
abbrev pub served : Stage → ℕ
served (Waits k) = k
served (HasOffer k) = k
served (HasLease k) = k
served (Gets k number) = k

-- an event that is next at a stage leads to another one; it says this line, and is counted
pub record Moves (n : ℕ) (from to : Stage) (event : Event) (line : List ℕ) (said : Said)
    (u : State) : Type 0 where
  pub stands : Stands n to u
  pub tail : to_come n from ≡ event ∷ to_come n to
  pub says : said.line ≡ line
  pub counts : plus (tally_of said) (counted_at from) ≡ counted_at to

-- turns lead from a stage to a later one
pub record Along (n : ℕ) (from to : Stage) (turns : List Turn) (s u : State) : Type 0 where
  pub run : Run s turns u
  pub did : AllDid turns
  pub stands : Stands n to u
  pub events : events_of turns ++ to_come n to ≡ to_come n from
  pub counts : plus (tally_by turns) (counted_at from) ≡ counted_at to
