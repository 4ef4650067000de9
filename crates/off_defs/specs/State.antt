-- The office's state, and what one event makes of it.
use Rattle.std.specs.Prelude.{ℕ, max, Bool, List, []}
use Rattle.std.specs.Ordering.{nat_cmp, ordering_then}
use Rattle.std.specs.declared.cmp.Ordering.{Ordering}
use Rattle.std.specs.FinMap as map
use Rattle.off_base.specs.declared.addresses.Peer.{Peer}
use Rattle.off_base.specs.declared.macs.Mac.{Mac}
use Rattle.off_defs.specs.declared.results.Sent.{Sent}
use Rattle.off_defs.specs.declared.tables.Row.{Row}
use Rattle.off_defs.specs.declared.writes.Write.{Write}
use Rattle.off_defs.specs.Keys.{key_cmp}

-- The tables that clerks keep, by key: the site, subscribers and their add-ons, modems, classes,
-- pools, leases and who holds them, and the batches that were imported.
abbrev pub Tables : Type 0
Tables = map.FinMap key_cmp Row

-- A file on its way to a modem (RFC 1350).
pub record Transfer : Type 0 where
  pub name : List ℕ
  pub modem : Mac
  pub subscriber : ℕ
  pub file : List ℕ
  pub size : ℕ
  pub request : List ℕ
  pub sent : ℕ
  pub is_acknowledged : Bool
  pub last_send : ℕ
  pub resends : ℕ

-- peers by address, then by port
abbrev pub peer_cmp : Peer → Peer → Ordering
peer_cmp a b = ordering_then (nat_cmp a.ip.0 b.ip.0) (nat_cmp a.port b.port)

-- What the office itself holds: the moment of its latest event, the transfers by peer, and of each
-- clerk's connection the bytes that have come.
pub record Held : Type 0 where
  pub now : ℕ
  pub transfers : map.FinMap peer_cmp Transfer
  pub connections : map.FinMap nat_cmp (List ℕ)

pub record State : Type 0 where
  pub tables : Tables
  pub held : Held

abbrev pub state_of : Tables → Held → State
state_of tables held = record { tables = tables; held = held }

-- what an office holds that has just begun
abbrev pub held_at_start : Held
held_at_start = record { now = 0; transfers = map.empty; connections = map.empty }

-- the state in which an office begins over tables
abbrev pub start : Tables → State
start tables = state_of tables held_at_start

-- The moment never falls: an event from an earlier moment is taken at the latest one so far.
abbrev pub held_at : Held → ℕ → Held
held_at held at = record held { now = max held.now at }

abbrev pub at_moment : State → ℕ → State
at_moment s at = record s { held = held_at s.held at }

-- What an event has the office say: the things to send, and the line of the log, its service and
-- words, which is empty where there is none.
pub record Said : Type 0 where
  pub items : List Sent
  pub line : List ℕ

abbrev pub says_nothing : Said
says_nothing = record { items = []; line = [] }

-- what an event has the office say; what it writes to the tables, in one commit, and nothing where
-- there is none; and the state that it leaves
pub record Effect : Type 0 where
  pub said : Said
  pub commit : List Write
  pub after : State

-- a line alone: nothing is sent, and the state stays
abbrev pub only_line : State → List ℕ → Effect
only_line s words = record { said = record { items = []; line = words }; commit = []; after = s }

-- nothing at all
abbrev pub silence : State → Effect
silence s = only_line s []
