-- What an event makes of the state, in seven ways: it stays, its transfers change, it forgets a connection, it hears more of one, it does what a
-- clerk asked, what a modem's message asks, or a device's. What a law says of the states alone goes by these seven. A service that is built changes lines of `way`, and of the two laws that go
-- through the cases of a step themselves: that an event gives one thing, and what its line says.
use Rattle.std.proofs.Common.{◌≡◌, ℕ, Bool, true, false, List, [], ◌++◌, Option, Some, None, Ok, refl, ap, ◌∙◌}
use Rattle.off_defs.specs.declared.events.Service.TheVariants.{Dhcp, Time, Tftp}
use Rattle.off_defs.specs.declared.events.What.{What}
use Rattle.off_defs.specs.declared.events.What.TheVariants.{Datagram, Piece, Closed, Tick, End}
use Rattle.off_defs.specs.declared.results.Outcome.{Outcome}
use Rattle.off_defs.specs.declared.results.Outcome.TheVariants.{Did, Memory, Keeper}
use Rattle.off_base.specs.declared.addresses.Peer.{Peer}
use Rattle.off_base.specs.declared.macs.Mac.{Mac}
use Rattle.off_defs.specs.State.{State, Effect}
use Rattle.off_dhcp.specs.Datagram.{Received, message_of}
use Rattle.off_cpe_rules.specs.Behind.{modem_behind}
use Rattle.off_cpe_rules.specs.Steps.{step_behind}
use Rattle.off_cpe_rules.specs.declared.results.DeviceStep.{DeviceStep}
use Rattle.off_http.specs.Request.{Meaning, Waits, Refused, Asked}
use Rattle.off_book.specs.Http.{heard_of, with_connection, close_connection, answer_request, answered, by_meaning, is_full, TakesPiece}
use Rattle.off_book.specs.Dhcp.{LeaseDid, MessageDid, DatagramDid, device_of, device_effect}
use Rattle.off_query_rules.specs.Asked.{query_of}
use Rattle.off_transfer_rules.specs.Transfers.{Transfers}
use Rattle.off_book.specs.Tftp.{with_transfers}
use Rattle.off_book.specs.Step.{Does}
use Rattle.off_laws.proofs.Devices.{device_told}

abbrev pub hear : State → ℕ → List ℕ → State
hear s conn bytes = record s { held = with_connection s.held conn bytes }

pub data Way (s : State) (what : What) (outcome : Outcome) (effect : Effect) : Type 0 where
  stays : effect.after ≡ s → effect.commit ≡ [] → Way s what outcome effect
  serves : (transfers : Transfers) → effect.after ≡ with_transfers s transfers → effect.commit ≡ [] → Way s what outcome effect
  forgets : (conn : ℕ) → effect.after ≡ close_connection s conn → effect.commit ≡ [] → Way s what outcome effect
  hears : (conn : ℕ) (bytes : List ℕ) → is_full s.held.connections conn ≡ false → effect.after ≡ hear s conn bytes → effect.commit ≡ [] → Way s what outcome effect
  answers : (conn : ℕ) (piece method target body : List ℕ) → what ≡ Piece conn piece → outcome ≡ Did
      → effect ≡ answered s conn (answer_request s.tables s.held.now method target body) → Way s what outcome effect
  messages : (from : Peer) (bytes : List ℕ) → what ≡ Datagram Dhcp from bytes → outcome ≡ Did → LeaseDid s bytes effect → Way s what outcome effect
  devices : (from : Peer) (bytes : List ℕ) (m : Received) (modem : Mac) → what ≡ Datagram Dhcp from bytes → outcome ≡ Did → message_of bytes ≡ Ok m → modem_behind s.tables m ≡ Some modem
      → effect ≡ device_effect s (step_behind s.tables s.held.now m modem) → Way s what outcome effect

pub after_is : (one other : Effect) → one ≡ other → one.after ≡ other.after
after_is one other is = ap (λ (e : Effect). e.after) is

pub commit_is : (one other : Effect) → one ≡ other → one.commit ≡ other.commit
commit_is one other is = ap (λ (e : Effect). e.commit) is

meaning_way : (s : State) (conn : ℕ) (piece bytes : List ℕ) (effect : Effect) (meaning : Meaning) → is_full s.held.connections conn ≡ false
    → effect ≡ by_meaning s conn bytes meaning → Way s (Piece conn piece) Did effect
meaning_way s conn piece bytes effect Waits room is = hears conn bytes room (after_is effect _ is) (commit_is effect _ is)
meaning_way s conn piece bytes effect (Refused f) room is = forgets conn (after_is effect _ is) (commit_is effect _ is)
meaning_way s conn piece bytes effect (Asked method target body) room is = answers conn piece method target body refl refl is

piece_way : (s : State) (conn : ℕ) (piece : List ℕ) (effect : Effect) (full : Bool) → is_full s.held.connections conn ≡ full
    → TakesPiece full s conn piece effect → Way s (Piece conn piece) Did effect
piece_way s conn piece effect true full takes = stays (after_is effect _ takes) (commit_is effect _ takes)
piece_way s conn piece effect false room takes = meaning_way s conn piece (heard_of s.held conn ++ piece) effect takes.meaning room takes.does

message_way : (s : State) (from : Peer) (bytes : List ℕ) (effect : Effect) (step : Option DeviceStep) → device_of s.tables s.held.now bytes ≡ step → MessageDid s bytes effect step
    → Way s (Datagram Dhcp from bytes) Did effect
message_way s from bytes effect (Some step) is p =
    let d = device_told s.tables s.held.now bytes step is in devices from bytes d.message d.modem refl refl d.read d.behind (p ∙ ap (device_effect s) d.does)
message_way s from bytes effect None is p = messages from bytes refl refl p

datagram_way : (s : State) (from : Peer) (bytes : List ℕ) (effect : Effect) (query : Option (List ℕ)) → DatagramDid s bytes effect query → Way s (Datagram Dhcp from bytes) Did effect
datagram_way s from bytes effect (Some q) p = stays (after_is effect _ p) (commit_is effect _ p)
datagram_way s from bytes effect None p = message_way s from bytes effect (device_of s.tables s.held.now bytes) refl p

pub way : (s : State) (what : What) (outcome : Outcome) (effect : Effect) → Does s what outcome effect → Way s what outcome effect
way s (Datagram Dhcp from bytes) Did effect p = datagram_way s from bytes effect (query_of bytes) p
way s (Datagram Dhcp from bytes) Memory effect p = stays (after_is effect _ p) (commit_is effect _ p)
way s (Datagram Dhcp from bytes) Keeper effect p = stays (after_is effect _ p) (commit_is effect _ p)
way s (Datagram Time from bytes) Did effect p = stays (after_is effect _ p) (commit_is effect _ p)
way s (Datagram Time from bytes) Memory effect p = stays (after_is effect _ p) (commit_is effect _ p)
way s (Datagram Time from bytes) Keeper effect p = absurd p
way s (Datagram Tftp from bytes) Did effect p = serves p.given.transfers (after_is effect _ p.does) (commit_is effect _ p.does)
way s (Datagram Tftp from bytes) Memory effect p = stays (after_is effect _ p) (commit_is effect _ p)
way s (Datagram Tftp from bytes) Keeper effect p = stays (after_is effect _ p) (commit_is effect _ p)
way s (Piece conn piece) Did effect p = piece_way s conn piece effect _ refl p
way s (Piece conn piece) Memory effect p = forgets conn (after_is effect _ p) (commit_is effect _ p)
way s (Piece conn piece) Keeper effect p = forgets conn (after_is effect _ p) (commit_is effect _ p)
way s (Closed conn) Did effect p = forgets conn (after_is effect _ p) (commit_is effect _ p)
way s (Closed conn) Memory effect p = absurd p
way s (Closed conn) Keeper effect p = absurd p
way s Tick Did effect p = serves p.transfers (after_is effect _ p.does) (commit_is effect _ p.does)
way s Tick Memory effect p = stays (after_is effect _ p) (commit_is effect _ p)
way s Tick Keeper effect p = absurd p
way s End Did effect p = stays (after_is effect _ p) (commit_is effect _ p)
way s End Memory effect p = absurd p
way s End Keeper effect p = absurd p
