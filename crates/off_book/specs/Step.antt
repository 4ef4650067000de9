-- One event of the office. Step relates a state, an event and its outcome to what is said and to
-- the state after it; each pair of an event and an outcome has a line here, and ⊥ where the pair
-- can't be.
use Rattle.std.specs.Prelude.{◌≡◌, ◌≢◌, ◌++◌, List, [], ℕ, codes}
use Rattle.off_defs.specs.declared.events.Service.TheVariants.{Dhcp, Time, Tftp}
use Rattle.off_defs.specs.declared.events.What.{What}
use Rattle.off_defs.specs.declared.events.What.TheVariants.{Datagram, Piece, Closed, Tick, End}
use Rattle.off_defs.specs.declared.events.Event.{Event}
use Rattle.off_defs.specs.declared.results.Outcome.{Outcome}
use Rattle.off_defs.specs.declared.results.Outcome.TheVariants.{Did, Memory, Keeper}
use Rattle.off_defs.specs.declared.results.Sent.{Sent}
use Rattle.off_defs.specs.State.{State, Said, Effect, at_moment, only_line, silence}
use Rattle.off_book.specs.Http.{PieceDid, ClosedDid, PieceFailed, answer_and_close, no_memory_reply, no_keeper_reply}
use Rattle.off_book.specs.Dhcp.{DhcpDid}
use Rattle.off_book.specs.Time.{TimeDid}
use Rattle.off_book.specs.Tftp.{TftpDid, TickDid}

-- the service's name, with which each line of the log begins
abbrev pub service_word : What → List ℕ
service_word (Datagram Dhcp from bytes) = codes "dhcp"
service_word (Datagram Time from bytes) = codes "time"
service_word (Datagram Tftp from bytes) = codes "tftp"
service_word (Piece conn bytes) = codes "http"
service_word (Closed conn) = codes "http"
service_word Tick = codes "tick"
service_word End = []

-- Memory was wanted: nothing is sent and all is as before.
abbrev pub WantedMemory : State → What → Effect → Type 0
WantedMemory s what effect = effect ≡ only_line s (service_word what ++ codes " memory")

-- The keeper of the tables failed: nothing is sent and all is as before.
abbrev pub KeeperFailed : State → What → Effect → Type 0
KeeperFailed s what effect = effect ≡ only_line s (service_word what ++ codes " keeper")

-- what an event makes of a state whose moment is the event's already
abbrev pub Does : State → What → Outcome → Effect → Type 0
Does s (Datagram Dhcp from bytes) Did effect = DhcpDid s bytes effect
Does s (Datagram Dhcp from bytes) Memory effect = WantedMemory s (Datagram Dhcp from bytes) effect
Does s (Datagram Dhcp from bytes) Keeper effect = KeeperFailed s (Datagram Dhcp from bytes) effect
Does s (Datagram Time from bytes) Did effect = TimeDid s from effect
Does s (Datagram Time from bytes) Memory effect = WantedMemory s (Datagram Time from bytes) effect
Does s (Datagram Time from bytes) Keeper effect = ⊥
Does s (Datagram Tftp from bytes) Did effect = TftpDid s from bytes effect
Does s (Datagram Tftp from bytes) Memory effect = WantedMemory s (Datagram Tftp from bytes) effect
Does s (Datagram Tftp from bytes) Keeper effect = KeeperFailed s (Datagram Tftp from bytes) effect
Does s (Piece conn bytes) Did effect = PieceDid s conn bytes effect
Does s (Piece conn bytes) Memory effect =
    PieceFailed s conn no_memory_reply (codes "http memory") effect
Does s (Piece conn bytes) Keeper effect =
    PieceFailed s conn no_keeper_reply (codes "http keeper") effect
Does s (Closed conn) Did effect = ClosedDid s conn effect
Does s (Closed conn) Memory effect = ⊥
Does s (Closed conn) Keeper effect = ⊥
Does s Tick Did effect = TickDid s effect
Does s Tick Memory effect = WantedMemory s Tick effect
Does s Tick Keeper effect = ⊥
Does s End Did effect = effect ≡ silence s
Does s End Memory effect = ⊥
Does s End Keeper effect = ⊥

unfoldable pub Step : State → Event → Outcome → Effect → Type 0
Step s event outcome effect = Does (at_moment s event.at.0) event.what outcome effect

-- What the office itself leaves to be said of a piece that it couldn't act on is the line alone;
-- the answer and the end of the connection, which are the same bytes each time, are added behind
-- it, since they take no memory.
abbrev pub added_items : What → Outcome → List Sent
added_items (Piece conn bytes) Memory = answer_and_close conn no_memory_reply
added_items (Piece conn bytes) Keeper = answer_and_close conn no_keeper_reply
added_items what outcome = []

abbrev pub completed : What → Outcome → Said → Said
completed what outcome said = record said { items = said.items ++ added_items what outcome }

-- The line says that memory was wanted, or that the keeper failed, exactly where it was so.
abbrev pub TellsOutcome : What → Outcome → List ℕ → Type 0
TellsOutcome what Did line =
    (line ≢ service_word what ++ codes " memory") × (line ≢ service_word what ++ codes " keeper")
TellsOutcome what Memory line = line ≡ service_word what ++ codes " memory"
TellsOutcome what Keeper line = line ≡ service_word what ++ codes " keeper"
