-- What each event does to a peer's transfer, and so what each turn of a run does.
use Rattle.std.proofs.Common.{◌≡◌, ◌≢◌, ℕ, suc, Bool, true, false, if◌then◌else◌, List, [], ◌∷◌, codes, Option, Some, None, Result, Ok, Err, true≢false, refl, sym, ap, subst, ◌∙◌}
use Rattle.std.specs.FinMap as map
use Rattle.off_base.specs.declared.addresses.Peer.{Peer}
use Rattle.off_defs.specs.declared.events.Service.TheVariants.{Dhcp, Time, Tftp}
use Rattle.off_defs.specs.declared.events.What.{What}
use Rattle.off_defs.specs.declared.events.What.TheVariants.{Datagram, Piece, Closed, Tick, End}
use Rattle.off_defs.specs.declared.events.Event.{Event}
use Rattle.off_defs.specs.declared.results.Outcome.{Outcome}
use Rattle.off_defs.specs.declared.results.Outcome.TheVariants.{Did, Memory, Keeper}
use Rattle.off_defs.specs.State.{State, Effect, at_moment}
use Rattle.off_http.specs.Request.{Meaning, Waits, Refused, Asked}
use Rattle.off_packets.specs.Packets.{Meant, Reads, Writes, Acknowledges, GivesUp, IsOther, packet_of}
use Rattle.off_transfer_rules.specs.Requests.{datagram_at}
use Rattle.off_transfer_rules.specs.Transfers.{Transfers}
use Rattle.off_transfer_rules.specs.Steps.{TftpStep}
use Rattle.off_transfer_rules.specs.Words.{tftp_line}
use Rattle.off_packets.specs.declared.faults.PacketFault.{PacketFault}
use Rattle.off_transfer_rules.proofs.PeerLemmas.{same_peer, own_peer}
use Rattle.off_transfer_laws.proofs.StepLaws.{others_stay, answers_go_back}
use Rattle.off_query_rules.specs.Asked.{query_of}
use Rattle.off_cpe_rules.specs.declared.results.DeviceStep.{DeviceStep}
use Rattle.off_book.specs.Dhcp.{MessageDid, DatagramDid, device_of, device_effect}
use Rattle.off_laws.proofs.Devices.{device_told}
use Rattle.off_book.specs.Http.{is_full, TakesPiece, by_meaning}
use Rattle.off_book.specs.Step.{Step, Does}
use Rattle.off_book.specs.Tftp.{TftpDid}
use Rattle.off_book.specs.Run.{Turn, Run, effect_of}
use Rattle.off_transfer_runs.specs.Turns.{Fate, Remains, Moves, Ends, Breaks, is_peer, fate_of, fate_by, fate, packets_to}
use Rattle.off_transfer_runs.specs.Served.{GoBy, BlocksGo}
use Rattle.off_transfer_runs.proofs.Packets.{no_reply, no_device_reply, no_answer, not_to_others}
use Rattle.off_transfer_runs.proofs.Turned.{Stands, After, after_as, nothing_new, packet_turned}
use Rattle.off_transfer_runs.proofs.Ticked.{tick_turned}

-- a line that says of a datagram that memory was wanted, or that the keeper failed, is none of a transfer's
pub memory_stays : (read : Result Meant PacketFault) → fate_of read (codes "tftp memory") ≡ Remains
memory_stays (Err fault) = refl
memory_stays (Ok (Reads name asked)) = refl
memory_stays (Ok Writes) = refl
memory_stays (Ok (Acknowledges number)) = refl
memory_stays (Ok GivesUp) = refl
memory_stays (Ok IsOther) = refl

pub keeper_stays : (read : Result Meant PacketFault) → fate_of read (codes "tftp keeper") ≡ Remains
keeper_stays (Err fault) = refl
keeper_stays (Ok (Reads name asked)) = refl
keeper_stays (Ok Writes) = refl
keeper_stays (Ok (Acknowledges number)) = refl
keeper_stays (Ok GivesUp) = refl
keeper_stays (Ok IsOther) = refl

stays_either : (b : Bool) (f : Fate) → f ≡ Remains → (if b then f else Remains) ≡ Remains
stays_either true f e = e
stays_either false f e = refl

module _ (peer : Peer) (file : List ℕ) (size k : ℕ) where
  abbrev Turns : State → What → Effect → Type 0
  Turns s what effect =
      After (fate_by peer what effect.said.line) file size k (packets_to peer effect.said.items) (map.get effect.after.held.transfers peer)

  -- nothing that counts was said, nothing sent, and the transfers are as they were
  quiet : (s : State) (what : What) (effect other : Effect) → effect ≡ other → fate_by peer what other.said.line ≡ Remains → packets_to peer other.said.items ≡ []
      → other.after.held.transfers ≡ s.held.transfers → Stands file size k (map.get s.held.transfers peer) → Turns s what effect
  quiet s what effect other is says sends stays st =
      after_as file size k _ Remains _ [] _ (map.get s.held.transfers peer)
      (ap (λ (e : Effect). fate_by peer what e.said.line) is ∙ says) (ap (λ (e : Effect). packets_to peer e.said.items) is ∙ sends)
      (ap (λ (e : Effect). map.get e.after.held.transfers peer) is ∙ ap (λ (xs : Transfers). map.get xs peer) stays)
      (nothing_new file size k (map.get s.held.transfers peer) st)

  meaning_quiet : (s : State) (conn : ℕ) (piece bytes : List ℕ) (effect : Effect) (meaning : Meaning) → effect ≡ by_meaning s conn bytes meaning
      → Stands file size k (map.get s.held.transfers peer) → Turns s (Piece conn piece) effect
  meaning_quiet s conn piece bytes effect Waits is st = quiet s (Piece conn piece) effect _ is refl refl refl st
  meaning_quiet s conn piece bytes effect (Refused f) is st = quiet s (Piece conn piece) effect _ is refl refl refl st
  meaning_quiet s conn piece bytes effect (Asked method target body) is st = quiet s (Piece conn piece) effect _ is refl refl refl st

  piece_quiet : (s : State) (conn : ℕ) (piece : List ℕ) (effect : Effect) (full : Bool) → TakesPiece full s conn piece effect
      → Stands file size k (map.get s.held.transfers peer) → Turns s (Piece conn piece) effect
  piece_quiet s conn piece effect true takes st = quiet s (Piece conn piece) effect _ takes refl refl refl st
  piece_quiet s conn piece effect false takes st = meaning_quiet s conn piece _ effect takes.meaning takes.does st

  -- a datagram of the peer, and one of another
  came_from : (s : State) (from : Peer) (bytes : List ℕ) (effect : Effect) (same : Bool) → is_peer peer from ≡ same → TftpDid s from bytes effect
      → Stands file size k (map.get s.held.transfers peer)
      → After (if same then fate_of (packet_of bytes) effect.said.line else Remains) file size k (packets_to peer effect.said.items)
      (map.get effect.after.held.transfers peer)
  came_from s from bytes effect true e did st =
      let here : from ≡ peer = sym (same_peer peer from e) in
      let step = subst (λ (p : Peer). TftpStep s.tables s.held.transfers (datagram_at s.held.now p bytes) did.given) here did.step in
      after_as file size k _ (fate_of (packet_of bytes) (tftp_line did.given.word)) _ (packets_to peer did.given.items) _ (map.get did.given.transfers peer)
      (ap (λ (f : Effect). fate_of (packet_of bytes) f.said.line) did.does) (ap (λ (f : Effect). packets_to peer f.said.items) did.does)
      (ap (λ (f : Effect). map.get f.after.held.transfers peer) did.does)
      (packet_turned s.tables s.held.now s.held.transfers peer bytes did.given file size k step st)
  came_from s from bytes effect false e did st =
      let apart : peer ≢ from = λ is. true≢false (sym (own_peer peer) ∙ ap (is_peer peer) is ∙ e) in
      after_as file size k _ Remains _ [] _ (map.get s.held.transfers peer) refl
      (ap (λ (f : Effect). packets_to peer f.said.items) did.does
      ∙ not_to_others peer from did.given.items apart (answers_go_back s.tables s.held.transfers (datagram_at s.held.now from bytes) did.given did.step))
      (ap (λ (f : Effect). map.get f.after.held.transfers peer) did.does
      ∙ others_stay s.tables s.held.transfers (datagram_at s.held.now from bytes) did.given did.step peer apart)
      (nothing_new file size k (map.get s.held.transfers peer) st)

  -- a datagram to the other port
  message_quiet : (s : State) (from : Peer) (bytes : List ℕ) (effect : Effect) (step : Option DeviceStep) → device_of s.tables s.held.now bytes ≡ step → MessageDid s bytes effect step
      → Stands file size k (map.get s.held.transfers peer) → Turns s (Datagram Dhcp from bytes) effect
  message_quiet s from bytes effect (Some step) is did st =
      let d = device_told s.tables s.held.now bytes step is in
      quiet s (Datagram Dhcp from bytes) effect _ (did ∙ ap (device_effect s) d.does) refl (no_device_reply peer s.tables s.held.now d.message d.modem) refl st
  message_quiet s from bytes effect None is did st = quiet s (Datagram Dhcp from bytes) effect _ did refl (no_reply peer s.tables s.held.now bytes) refl st

  datagram_quiet : (s : State) (from : Peer) (bytes : List ℕ) (effect : Effect) (query : Option (List ℕ)) → DatagramDid s bytes effect query
      → Stands file size k (map.get s.held.transfers peer) → Turns s (Datagram Dhcp from bytes) effect
  datagram_quiet s from bytes effect (Some q) did st = quiet s (Datagram Dhcp from bytes) effect _ did refl (no_answer peer s.tables s.held.now q) refl st
  datagram_quiet s from bytes effect None did st = message_quiet s from bytes effect (device_of s.tables s.held.now bytes) refl did st

  does_turned : (s : State) (what : What) (outcome : Outcome) (effect : Effect) → Does s what outcome effect → Stands file size k (map.get s.held.transfers peer)
      → Turns s what effect
  does_turned s (Datagram Dhcp from bytes) Did effect p st = datagram_quiet s from bytes effect (query_of bytes) p st
  does_turned s (Datagram Dhcp from bytes) Memory effect p st = quiet s (Datagram Dhcp from bytes) effect _ p refl refl refl st
  does_turned s (Datagram Dhcp from bytes) Keeper effect p st = quiet s (Datagram Dhcp from bytes) effect _ p refl refl refl st
  does_turned s (Datagram Time from bytes) Did effect p st = quiet s (Datagram Time from bytes) effect _ p refl refl refl st
  does_turned s (Datagram Time from bytes) Memory effect p st = quiet s (Datagram Time from bytes) effect _ p refl refl refl st
  does_turned s (Datagram Time from bytes) Keeper effect p st = absurd p
  does_turned s (Datagram Tftp from bytes) Did effect p st = came_from s from bytes effect (is_peer peer from) refl p st
  does_turned s (Datagram Tftp from bytes) Memory effect p st =
      quiet s (Datagram Tftp from bytes) effect _ p (stays_either (is_peer peer from) (fate_of (packet_of bytes) (codes "tftp memory")) (memory_stays (packet_of bytes))) refl refl st
  does_turned s (Datagram Tftp from bytes) Keeper effect p st =
      quiet s (Datagram Tftp from bytes) effect _ p (stays_either (is_peer peer from) (fate_of (packet_of bytes) (codes "tftp keeper")) (keeper_stays (packet_of bytes))) refl refl st
  does_turned s (Piece conn piece) Did effect p st = piece_quiet s conn piece effect (is_full s.held.connections conn) p st
  does_turned s (Piece conn piece) Memory effect p st = quiet s (Piece conn piece) effect _ p refl refl refl st
  does_turned s (Piece conn piece) Keeper effect p st = quiet s (Piece conn piece) effect _ p refl refl refl st
  does_turned s (Closed conn) Did effect p st = quiet s (Closed conn) effect _ p refl refl refl st
  does_turned s (Closed conn) Memory effect p st = absurd p
  does_turned s (Closed conn) Keeper effect p st = absurd p
  does_turned s Tick Did effect p st =
      after_as file size k _ Remains _ (packets_to peer p.items) _ (map.get p.transfers peer) refl (ap (λ (e : Effect). packets_to peer e.said.items) p.does)
      (ap (λ (e : Effect). map.get e.after.held.transfers peer) p.does)
      (tick_turned peer s.held.now file size k s.held.transfers p.transfers p.items p.ticked p.step st)
  does_turned s Tick Memory effect p st = quiet s Tick effect _ p refl refl refl st
  does_turned s Tick Keeper effect p st = absurd p
  does_turned s End Did effect p st = quiet s End effect _ p refl refl refl st
  does_turned s End Memory effect p st = absurd p
  does_turned s End Keeper effect p st = absurd p

  step_turned : (s : State) (event : Event) (outcome : Outcome) (effect : Effect) → Step s event outcome effect → Stands file size k (map.get s.held.transfers peer)
      → Turns s event.what effect
  unfolding Step
  step_turned s event outcome effect step st = does_turned (at_moment s event.at.0) event.what outcome effect step st

-- ---- turn by turn

go_on : (f : Fate) (file : List ℕ) (size k : ℕ) (packets : List (List ℕ)) (One Other : ℕ → Type 0) → ((n : ℕ) → One n → Other n)
    → GoBy f file size k packets One → GoBy f file size k packets Other
go_on Remains file size k packets One Other each go = (go.0, each k go.1)
go_on (Moves number) file size k packets One Other each go = (go.0, each (suc k) go.1)
go_on (Ends number) file size k packets One Other each go = go
go_on Breaks file size k packets One Other each go = tt

pub run_goes : (peer : Peer) (file : List ℕ) (size k : ℕ) (s last : State) (turns : List Turn) → Run s turns last
    → Stands file size k (map.get s.held.transfers peer) → BlocksGo peer file size k turns
run_goes peer file size k s last [] run st = tt
run_goes peer file size k s last (turn ∷ turns) run st =
    go_on (fate peer turn) file size k (packets_to peer turn.said.items) (λ n. Stands file size n (map.get run.0.held.transfers peer))
    (λ n. BlocksGo peer file size n turns) (λ n there. run_goes peer file size n run.0 last turns run.1.1 there)
    (step_turned peer file size k s turn.event turn.outcome (effect_of turn run.0) run.1.0 st)
