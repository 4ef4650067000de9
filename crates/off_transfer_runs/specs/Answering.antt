-- A peer that acknowledges what it is sent gets its whole file.
use Rattle.std.specs.Prelude.{◌≡◌, ◌≢◌, ◌⊎◌, ℕ, zero, suc, ◌/◌, ◌<◌, max, true, List, [], ◌∷◌, ◌++◌, length, Ok, if◌then◌else◌}
use Rattle.off_base.specs.declared.addresses.Peer.{Peer}
use Rattle.off_defs.specs.declared.events.Service.TheVariants as service
use Rattle.off_defs.specs.declared.events.What.{What}
use Rattle.off_defs.specs.declared.events.What.TheVariants as came
use Rattle.off_defs.specs.declared.results.Outcome.{Outcome}
use Rattle.off_defs.specs.declared.results.Outcome.TheVariants.{Did, Memory, Keeper}
use Rattle.off_defs.specs.State.{Tables, State}
use Rattle.off_defs.specs.Tables.{write_all}
use Rattle.off_packets.specs.Packets.{Acknowledges, packet_of}
use Rattle.off_packets.specs.declared.packets.Options.{Options}
use Rattle.off_transfer_rules.specs.Requests.{file_owner}
use Rattle.off_transfer_rules.specs.Transfers.{size_for, first_number, is_last_number}
use Rattle.off_transfer_laws.specs.Agreement.{Agreement}
use Rattle.off_book.specs.Run.{Turn, Run}
use Rattle.off_transfer_runs.specs.Turns.{is_peer, block_given}
use Rattle.off_transfer_runs.specs.Got.{got, is_done}
use Rattle.off_transfer_runs.specs.Served.{IsAccepted, FileIsServed}

-- what an event is to a peer: one of others, the time that passes, or its own datagram
pub data Ask : Type 0 where
  Aside : Ask
  Passes : Ask
  Speaks : List ℕ → Ask

abbrev pub ask : Peer → What → Ask
ask peer (came.Datagram service.Tftp from bytes) = if is_peer peer from then Speaks bytes else Aside
ask peer (came.Datagram service.Dhcp from bytes) = Aside
ask peer (came.Datagram service.Time from bytes) = Aside
ask peer (came.Piece conn bytes) = Aside
ask peer (came.Closed conn) = Aside
ask peer came.Tick = Passes
ask peer came.End = Aside

-- it acknowledges the packet that stands out, while the tables agree
pub record Acknowledged (Agree : Type 0) (bytes : List ℕ) (k : ℕ) : Type 0 where
  pub read : packet_of bytes ≡ Ok (Acknowledges k)
  pub agree : Agree

-- or another one, as where an acknowledgement comes again
pub record IsStale (bytes : List ℕ) (k : ℕ) : Type 0 where
  pub number : ℕ
  pub read : packet_of bytes ≡ Ok (Acknowledges number)
  pub other : number ≢ k

-- or its read request comes again, before it has acknowledged the first packet
pub record IsRequestAgain (request : List ℕ) (first : ℕ) (bytes : List ℕ) (k : ℕ) : Type 0 where
  pub same : bytes ≡ request
  pub early : k ≡ first

abbrev pub IsNothingNew : List ℕ → ℕ → List ℕ → ℕ → Type 0
IsNothingNew request first bytes k = IsStale bytes k ⊎ IsRequestAgain request first bytes k

-- what it says counts where the office acts on it
abbrev pub SaysBy : Outcome → Type 0 → Type 0 → Type 0
SaysBy Did Said Unsaid = Said
SaysBy Memory Said Unsaid = Unsaid
SaysBy Keeper Said Unsaid = Unsaid

-- At most five Ticks pass before packet k is acknowledged, and then the next one stands out.
abbrev pub AnswersBy : List ℕ → ℕ → Ask → Type 0 → Outcome → ℕ → ℕ → (ℕ → ℕ → Type 0) → Type 0
AnswersBy request first Aside Agree outcome k ticks Later = Later k ticks
AnswersBy request first Passes Agree outcome k zero Later = ⊥
AnswersBy request first Passes Agree outcome k (suc ticks) Later = Later k ticks
AnswersBy request first (Speaks bytes) Agree outcome k ticks Later =
    SaysBy outcome
    ((Acknowledged Agree bytes k × Later (suc k) 5)
    ⊎ (IsNothingNew request first bytes k × Later k ticks))
    (Later k ticks)

-- So packets k, k + 1 and so on are acknowledged, up to packet n, which isn't. `request` is the
-- read request that was accepted, and packet `first` answered it.
abbrev pub AnswersUpTo : List ℕ → ℕ → ℕ → Peer → (Tables → ℕ → Type 0) → Tables → ℕ → ℕ → ℕ
    → List Turn → Type 0
AnswersUpTo request first n peer Agree tables now k ticks [] = k ≡ n
AnswersUpTo request first n peer Agree tables now k ticks (turn ∷ turns) =
    AnswersBy request first (ask peer turn.event.what) (Agree tables (max now turn.event.at.0))
    turn.outcome k ticks
    (λ k ticks. AnswersUpTo request first n peer Agree (write_all tables turn.commit)
    (max now turn.event.at.0) k ticks turns)

-- Where it answers so up to the file's last block, whatever comes behind that, all is done, and it
-- got the file.
abbrev pub WhoAnswersGetsAll : Type 0
WhoAnswersGetsAll =
    (s last : State) (turn : Turn) (soon rest : List Turn)
    (peer : Peer) (name : List ℕ) (asked : Options) (n : ℕ)
    → Run s (turn ∷ (soon ++ rest)) last → (accepts : IsAccepted peer name asked turn)
    → (served : FileIsServed s.tables (max s.held.now turn.event.at.0) peer name asked turn
    (soon ++ rest))
    → is_last_number served.file (size_for asked) n ≡ true
    → AnswersUpTo accepts.bytes (first_number asked) (suc n) peer
    (λ tables now. Agreement tables now peer.ip name (file_owner served.modem served.subscriber))
    (write_all s.tables turn.commit) (max s.held.now turn.event.at.0) (first_number asked) 5 soon
    → (is_done peer (soon ++ rest) ≡ true)
    × (got peer (block_given peer turn) (soon ++ rest) ≡ served.file)

-- and each file has a last block
abbrev pub EachFileEnds : Type 0
EachFileEnds =
    (file : List ℕ) (size : ℕ) → 0 < size
    → is_last_number file size (suc (length file / size)) ≡ true
