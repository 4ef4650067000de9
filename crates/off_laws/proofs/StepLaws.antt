-- The laws of one event: what it gives, the moment and the tables.
use Rattle.std.proofs.Common.{◌≡◌, ◌≢◌, ℕ, ◌⊎◌, inl, inr, Bool, true, false, cond, Option, Some, None, List, [], ◌++◌, codes, refl, sym, ap, ◌∙◌, subst}
use Rattle.std.specs.Ordering.{nat_cmp, eq_by_cmp}
use Rattle.std.specs.Cmp.{nat_cmp_total}
use Rattle.off_defs.proofs.EntryLemmas.{is_equal}
use Rattle.std.specs.FinMap as map
use Rattle.off_defs.specs.declared.events.Service.TheVariants.{Dhcp, Time, Tftp}
use Rattle.off_defs.specs.declared.events.What.{What}
use Rattle.off_defs.specs.declared.events.What.TheVariants.{Datagram, Piece, Closed, Tick, End}
use Rattle.off_defs.specs.declared.events.Event.{Event}
use Rattle.off_defs.specs.declared.results.Outcome.{Outcome}
use Rattle.off_defs.specs.declared.results.Outcome.TheVariants.{Did, Memory, Keeper}
use Rattle.off_defs.specs.State.{State, Effect, at_moment}
use Rattle.off_defs.specs.Tables.{write_all}
use Rattle.off_account_rules.specs.Good.{Good}
use Rattle.off_http.proofs.Meanings.{one_meaning}
use Rattle.off_http.specs.Request.{Meaning, Waits, Refused, Asked}
use Rattle.off_book.specs.Http.{Answered, heard_of, close_connection, answer_request, by_meaning, is_full, TakesPiece}
use Rattle.off_book.specs.Step.{Step, Does}
use Rattle.off_laws.specs.Parts.{Messaged, acts_for, Changes, untouched, a_connection, by_request, by_message, by_packet, by_tick, part_of}
use Rattle.off_lease_rules.specs.Words.{acts}
use Rattle.off_lease_rules.specs.Steps.{dhcp_step}
use Rattle.off_laws.proofs.Messages.{datagram_refused, device_refused, datagram_good}
use Rattle.off_base.specs.declared.addresses.Peer.{Peer}
use Rattle.off_defs.specs.declared.results.Sent.{Sent}
use Rattle.off_transfer_rules.specs.Requests.{datagram_at}
use Rattle.off_transfer_rules.specs.Transfers.{Transfers}
use Rattle.off_transfer_rules.specs.Steps.{Given}
use Rattle.off_transfer_rules.specs.declared.ticks.Ticked.{Ticked}
use Rattle.off_transfer_laws.proofs.StepLaws.{step_is_one, others_stay}
use Rattle.off_transfer_laws.proofs.TickLaws.{tick_is_one}
use Rattle.off_book.specs.Tftp.{TftpDid, TickDid, transfers_effect, tftp_said, tick_said}
use Rattle.off_book.specs.Dhcp.{MessageDid, DatagramDid, device_of}
use Rattle.off_cpe_rules.specs.Words as device
use Rattle.off_cpe_rules.specs.declared.results.DeviceStep.{DeviceStep}
use Rattle.off_cpe_laws.proofs.GoodLemmas.{step_keeps_good}
use Rattle.off_query_rules.specs.Asked.{query_of}
use Rattle.off_defs.specs.declared.writes.Write.{Write}
use Rattle.off_laws.specs.Laws.{OneResult, MomentIsGreatest, TablesByCommit, ChangesItsPart, QueriesChangeNothing}
use Rattle.off_laws.proofs.Answers.{WritesNothingOrDone, request_writes, request_good}
use Rattle.off_laws.proofs.Ways.{Way, stays, serves, forgets, hears, answers, messages, devices, way, after_is, commit_is}

-- an event with an outcome gives one thing
takes_one : (full : Bool) (s : State) (conn : ℕ) (piece : List ℕ) (one other : Effect) → TakesPiece full s conn piece one → TakesPiece full s conn piece other → one ≡ other
takes_one true s conn piece one other p q = p ∙ sym q
takes_one false s conn piece one other p q =
    let same : p.meaning ≡ q.meaning = one_meaning (heard_of s.held conn ++ piece) p.meaning q.meaning p.says q.says in
    p.does ∙ (ap (by_meaning s conn (heard_of s.held conn ++ piece)) same ∙ sym q.does)

packet_one : (s : State) (from : Peer) (bytes : List ℕ) (one other : Effect) → TftpDid s from bytes one → TftpDid s from bytes other → one ≡ other
packet_one s from bytes one other p q =
    let same : p.given ≡ q.given = step_is_one s.tables s.held.transfers (datagram_at s.held.now from bytes) p.given q.given p.step q.step in
    p.does ∙ (ap (λ (given : Given). transfers_effect s given.transfers (tftp_said given)) same ∙ sym q.does)

tick_one : (s : State) (one other : Effect) → TickDid s one → TickDid s other → one ≡ other
tick_one s one other p q =
    let same = tick_is_one s.held.now s.held.transfers p.transfers q.transfers p.items q.items p.ticked q.ticked p.step q.step in
    p.does
    ∙ (ap (λ (x : Transfers). transfers_effect s x (tick_said p.items p.ticked)) same.transfers
    ∙ (ap (λ (x : List Sent). transfers_effect s q.transfers (tick_said x p.ticked)) same.items_sent
    ∙ (ap (λ (x : Ticked). transfers_effect s q.transfers (tick_said q.items x)) same.counts ∙ sym q.does)))

message_one : (s : State) (bytes : List ℕ) (one other : Effect) (step : Option DeviceStep) → MessageDid s bytes one step → MessageDid s bytes other step → one ≡ other
message_one s bytes one other (Some step) p r = p ∙ sym r
message_one s bytes one other None p r = p ∙ sym r

datagram_one : (s : State) (bytes : List ℕ) (one other : Effect) (query : Option (List ℕ)) → DatagramDid s bytes one query → DatagramDid s bytes other query → one ≡ other
datagram_one s bytes one other (Some q) p r = p ∙ sym r
datagram_one s bytes one other None p r = message_one s bytes one other (device_of s.tables s.held.now bytes) p r

does_one : (s : State) (what : What) (outcome : Outcome) (one other : Effect) → Does s what outcome one → Does s what outcome other → one ≡ other
does_one s (Datagram Dhcp from bytes) Did one other p q = datagram_one s bytes one other (query_of bytes) p q
does_one s (Datagram Dhcp from bytes) Memory one other p q = p ∙ sym q
does_one s (Datagram Dhcp from bytes) Keeper one other p q = p ∙ sym q
does_one s (Datagram Time from bytes) Did one other p q = p ∙ sym q
does_one s (Datagram Time from bytes) Memory one other p q = p ∙ sym q
does_one s (Datagram Time from bytes) Keeper one other p q = absurd p
does_one s (Datagram Tftp from bytes) Did one other p q = packet_one s from bytes one other p q
does_one s (Datagram Tftp from bytes) Memory one other p q = p ∙ sym q
does_one s (Datagram Tftp from bytes) Keeper one other p q = p ∙ sym q
does_one s (Piece conn piece) Did one other p q = takes_one (is_full s.held.connections conn) s conn piece one other p q
does_one s (Piece conn piece) Memory one other p q = p ∙ sym q
does_one s (Piece conn piece) Keeper one other p q = p ∙ sym q
does_one s (Closed conn) Did one other p q = p ∙ sym q
does_one s (Closed conn) Memory one other p q = absurd p
does_one s (Closed conn) Keeper one other p q = absurd p
does_one s Tick Did one other p q = tick_one s one other p q
does_one s Tick Memory one other p q = p ∙ sym q
does_one s Tick Keeper one other p q = absurd p
does_one s End Did one other p q = p ∙ sym q
does_one s End Memory one other p q = absurd p
does_one s End Keeper one other p q = absurd p

pub one_result : OneResult
unfolding Step
one_result s event outcome one other p q = does_one _ event.what outcome one other p q

-- the moment stays at what the event has set
way_now : (s : State) (what : What) (outcome : Outcome) (effect : Effect) → Way s what outcome effect → effect.after.held.now ≡ s.held.now
way_now s what outcome effect (stays is none) = ap (λ (u : State). u.held.now) is
way_now s what outcome effect (serves transfers is none) = ap (λ (u : State). u.held.now) is
way_now s what outcome effect (forgets conn is none) = ap (λ (u : State). u.held.now) is
way_now s what outcome effect (hears conn bytes room is none) = ap (λ (u : State). u.held.now) is
way_now s what outcome effect (messages from bytes came acted is) = ap (λ (e : Effect). e.after.held.now) is
way_now s what outcome effect (devices from bytes m modem came acted read behind is) = ap (λ (e : Effect). e.after.held.now) is
way_now s what outcome effect (answers conn piece method target body came acted is) = ap (λ (e : Effect). e.after.held.now) is

pub moment_is_greatest : MomentIsGreatest
unfolding Step
moment_is_greatest s event outcome effect p = way_now (at_moment s event.at.0) event.what outcome effect (way _ event.what outcome effect p)

-- the tables are those with what was committed
way_by_commit : (s : State) (what : What) (outcome : Outcome) (effect : Effect) → Way s what outcome effect → effect.after.tables ≡ write_all s.tables effect.commit
way_by_commit s what outcome effect (stays is none) = ap (λ (u : State). u.tables) is ∙ sym (ap (λ ws. write_all s.tables ws) none)
way_by_commit s what outcome effect (serves transfers is none) = ap (λ (u : State). u.tables) is ∙ sym (ap (λ ws. write_all s.tables ws) none)
way_by_commit s what outcome effect (forgets conn is none) = ap (λ (u : State). u.tables) is ∙ sym (ap (λ ws. write_all s.tables ws) none)
way_by_commit s what outcome effect (hears conn bytes room is none) = ap (λ (u : State). u.tables) is ∙ sym (ap (λ ws. write_all s.tables ws) none)
way_by_commit s what outcome effect (messages from bytes came acted is) =
    ap (λ (e : Effect). e.after.tables) is ∙ sym (ap (λ (e : Effect). write_all s.tables e.commit) is)
way_by_commit s what outcome effect (devices from bytes m modem came acted read behind is) =
    ap (λ (e : Effect). e.after.tables) is ∙ sym (ap (λ (e : Effect). write_all s.tables e.commit) is)
way_by_commit s what outcome effect (answers conn piece method target body came acted is) =
    ap (λ (e : Effect). e.after.tables) is ∙ sym (ap (λ (e : Effect). write_all s.tables e.commit) is)

pub tables_by_commit : TablesByCommit
unfolding Step
tables_by_commit s event outcome effect p = way_by_commit (at_moment s event.at.0) event.what outcome effect (way _ event.what outcome effect p)

-- an event changes what it may of the state: the three lines of a step that isn't a request
quiet_part : (s : State) (effect : Effect) → effect.after ≡ s → effect.commit ≡ [] → Changes untouched s effect
quiet_part s effect is none = record {
  commit = none;
  connections = ap (λ (u : State). u.held.connections) is;
  transfers = ap (λ (u : State). u.held.transfers) is;
}

-- other numbers
other_at : (q k : ℕ) (tied : Bool) → eq_by_cmp nat_cmp q k ≡ tied → q ≢ k → tied ≡ false
other_at q k true is apart = absurd (apart (map.nat_cmp-IsAntisymmetric q k (is_equal (nat_cmp q k) is)))
other_at q k false is apart = refl

apart_from : (q k : ℕ) → q ≢ k → eq_by_cmp nat_cmp q k ≡ false
apart_from q k apart = other_at q k (eq_by_cmp nat_cmp q k) refl apart

-- what is put in for one connection, or taken out, leaves the others
others_without : (m : map.FinMap nat_cmp (List ℕ)) (conn other : ℕ) → other ≢ conn → map.get (map.remove m conn) other ≡ map.get m other
others_without m conn other apart =
    map.get-remove nat_cmp_total m conn other ∙ ap (λ (b : Bool). cond b None (map.get m other)) (apart_from other conn apart)

others_with : (m : map.FinMap nat_cmp (List ℕ)) (conn : ℕ) (bytes : List ℕ) (other : ℕ) → other ≢ conn → map.get (map.insert m conn bytes) other ≡ map.get m other
others_with m conn bytes other apart =
    map.get-insert nat_cmp_total m conn bytes other ∙ ap (λ (b : Bool). cond b (Some bytes) (map.get m other)) (apart_from other conn apart)

heard_part : (s : State) (conn : ℕ) (effect : Effect) → effect.after ≡ close_connection s conn → effect.commit ≡ [] → Changes (a_connection conn) s effect
heard_part s conn effect is none = record {
  commit = none;
  others = λ other apart. ap (λ (u : State). map.get u.held.connections other) is ∙ others_without s.held.connections conn other apart;
  transfers = ap (λ (u : State). u.held.transfers) is;
}

said_done : (answer : Answered) → WritesNothingOrDone answer → (answer.writes ≡ []) ⊎ (codes "http " ++ answer.words ≡ codes "http 200")
said_done answer (inl none) = inl none
said_done answer (inr done) = inr (ap (λ (words : List ℕ). codes "http " ++ words) done)

meaning_part : (s : State) (conn : ℕ) (bytes : List ℕ) (meaning : Meaning) → Changes (by_request conn) s (by_meaning s conn bytes meaning)
meaning_part s conn bytes Waits = record { commit = inl refl; others = others_with s.held.connections conn bytes; transfers = refl }
meaning_part s conn bytes (Refused f) = record { commit = inl refl; others = others_without s.held.connections conn; transfers = refl }
meaning_part s conn bytes (Asked method target body) = record {
  commit = said_done (answer_request s.tables s.held.now method target body) (request_writes s.tables s.held.now method target body);
  others = others_without s.held.connections conn;
  transfers = refl;
}

takes_part : (full : Bool) (s : State) (conn : ℕ) (piece : List ℕ) (effect : Effect) → TakesPiece full s conn piece effect → Changes (by_request conn) s effect
takes_part true s conn piece effect takes =
    subst (λ (e : Effect). Changes (by_request conn) s e) (sym takes) (record { commit = inl refl; others = λ other apart. refl; transfers = refl })
takes_part false s conn piece effect takes = subst (λ (e : Effect). Changes (by_request conn) s e) (sym takes.does) (meaning_part s conn _ takes.meaning)

-- a message writes where its word is one of those that act
acting_writes : (acting : Bool) (w : List Write) → (acting ≡ false → w ≡ []) → (w ≡ []) ⊎ (acting ≡ true)
acting_writes true w none = inr refl
acting_writes false w none = inl (none refl)

message_part : (s : State) (bytes : List ℕ) (effect : Effect) (step : Option DeviceStep) → device_of s.tables s.held.now bytes ≡ step → MessageDid s bytes effect step → Messaged bytes s effect
message_part s bytes effect (Some step) is did = record {
  commit = subst (λ (o : Option DeviceStep). (effect.commit ≡ []) ⊎ (acts_for o (dhcp_step s.tables s.held.now bytes) ≡ true)) (sym is)
      (subst (λ (e : Effect). (e.commit ≡ []) ⊎ (device.acts step.word ≡ true)) (sym did)
      (acting_writes (device.acts step.word) step.writes (device_refused s.tables s.held.now bytes step is)));
  connections = ap (λ (e : Effect). e.after.held.connections) did;
  transfers = ap (λ (e : Effect). e.after.held.transfers) did;
}
message_part s bytes effect None is did = record {
  commit = subst (λ (o : Option DeviceStep). (effect.commit ≡ []) ⊎ (acts_for o (dhcp_step s.tables s.held.now bytes) ≡ true)) (sym is)
      (subst (λ (e : Effect). (e.commit ≡ []) ⊎ (acts (dhcp_step s.tables s.held.now bytes).word ≡ true)) (sym did)
      (acting_writes (acts (dhcp_step s.tables s.held.now bytes).word) (dhcp_step s.tables s.held.now bytes).writes (datagram_refused s.tables s.held.now bytes)));
  connections = ap (λ (e : Effect). e.after.held.connections) did;
  transfers = ap (λ (e : Effect). e.after.held.transfers) did;
}

datagram_part : (s : State) (bytes : List ℕ) (effect : Effect) (query : Option (List ℕ)) → DatagramDid s bytes effect query → Changes (by_message bytes) s effect
datagram_part s bytes effect (Some q) did =
    subst (λ (e : Effect). Changes (by_message bytes) s e) (sym did) (record { commit = inl refl; connections = refl; transfers = refl })
datagram_part s bytes effect None did = message_part s bytes effect (device_of s.tables s.held.now bytes) refl did

-- of the transfers a packet changes its peer's, and a Tick each by itself
packet_part : (s : State) (from : Peer) (bytes : List ℕ) (effect : Effect) → TftpDid s from bytes effect → Changes (by_packet from) s effect
packet_part s from bytes effect did = record {
  commit = commit_is effect _ did.does;
  connections = ap (λ (e : Effect). e.after.held.connections) did.does;
  others = λ peer apart.
      ap (λ (e : Effect). map.get e.after.held.transfers peer) did.does ∙ others_stay s.tables s.held.transfers (datagram_at s.held.now from bytes) did.given did.step peer apart;
}

tick_part : (s : State) (effect : Effect) → TickDid s effect → Changes by_tick s effect
tick_part s effect did = record {
  commit = commit_is effect _ did.does;
  connections = ap (λ (e : Effect). e.after.held.connections) did.does;
  each = λ peer. ap (λ (e : Effect). map.get e.after.held.transfers peer) did.does ∙ did.step.each peer;
}

does_part : (s : State) (what : What) (outcome : Outcome) (effect : Effect) → Does s what outcome effect → Changes (part_of what outcome) s effect
does_part s (Datagram Dhcp from bytes) Did effect p = datagram_part s bytes effect (query_of bytes) p
does_part s (Datagram Dhcp from bytes) Memory effect p = quiet_part s effect (after_is effect _ p) (commit_is effect _ p)
does_part s (Datagram Dhcp from bytes) Keeper effect p = quiet_part s effect (after_is effect _ p) (commit_is effect _ p)
does_part s (Datagram Time from bytes) Did effect p = quiet_part s effect (after_is effect _ p) (commit_is effect _ p)
does_part s (Datagram Time from bytes) Memory effect p = quiet_part s effect (after_is effect _ p) (commit_is effect _ p)
does_part s (Datagram Time from bytes) Keeper effect p = absurd p
does_part s (Datagram Tftp from bytes) Did effect p = packet_part s from bytes effect p
does_part s (Datagram Tftp from bytes) Memory effect p = quiet_part s effect (after_is effect _ p) (commit_is effect _ p)
does_part s (Datagram Tftp from bytes) Keeper effect p = quiet_part s effect (after_is effect _ p) (commit_is effect _ p)
does_part s (Piece conn piece) Did effect p = takes_part (is_full s.held.connections conn) s conn piece effect p
does_part s (Piece conn piece) Memory effect p = heard_part s conn effect (after_is effect _ p) (commit_is effect _ p)
does_part s (Piece conn piece) Keeper effect p = heard_part s conn effect (after_is effect _ p) (commit_is effect _ p)
does_part s (Closed conn) Did effect p = heard_part s conn effect (after_is effect _ p) (commit_is effect _ p)
does_part s (Closed conn) Memory effect p = absurd p
does_part s (Closed conn) Keeper effect p = absurd p
does_part s Tick Did effect p = tick_part s effect p
does_part s Tick Memory effect p = quiet_part s effect (after_is effect _ p) (commit_is effect _ p)
does_part s Tick Keeper effect p = absurd p
does_part s End Did effect p = quiet_part s effect (after_is effect _ p) (commit_is effect _ p)
does_part s End Memory effect p = absurd p
does_part s End Keeper effect p = absurd p

pub changes_its_part : ChangesItsPart
unfolding Step
changes_its_part s event outcome effect p = does_part (at_moment s event.at.0) event.what outcome effect p

-- a query changes nothing
does_nothing : (s : State) (from : Peer) (bytes query : List ℕ) (outcome : Outcome) (effect : Effect) → Does s (Datagram Dhcp from bytes) outcome effect → query_of bytes ≡ Some query
    → (effect.commit ≡ []) × (effect.after ≡ s)
does_nothing s from bytes query Did effect p asks =
    let did = subst (DatagramDid s bytes effect) asks p in
    (commit_is effect _ did, after_is effect _ did)
does_nothing s from bytes query Memory effect p asks = (commit_is effect _ p, after_is effect _ p)
does_nothing s from bytes query Keeper effect p asks = (commit_is effect _ p, after_is effect _ p)

pub queries_change_nothing : QueriesChangeNothing
unfolding Step
queries_change_nothing s event outcome effect from bytes query p came asks =
    does_nothing (at_moment s event.at.0) from bytes query outcome effect (subst (λ (what : What). Does (at_moment s event.at.0) what outcome effect) came p) asks

-- good tables stay good
way_good : (s : State) (what : What) (outcome : Outcome) (effect : Effect) → Way s what outcome effect → Good s.tables → Good effect.after.tables
way_good s what outcome effect (stays is none) good = subst (λ (u : State). Good u.tables) (sym is) good
way_good s what outcome effect (serves transfers is none) good = subst (λ (u : State). Good u.tables) (sym is) good
way_good s what outcome effect (forgets conn is none) good = subst (λ (u : State). Good u.tables) (sym is) good
way_good s what outcome effect (hears conn bytes room is none) good = subst (λ (u : State). Good u.tables) (sym is) good
way_good s what outcome effect (messages from bytes came acted is) good =
    subst (λ (e : Effect). Good e.after.tables) (sym is) (datagram_good s.tables s.held.now bytes good)
way_good s what outcome effect (devices from bytes m modem came acted read behind is) good =
    subst (λ (e : Effect). Good e.after.tables) (sym is) (step_keeps_good s.tables s.held.now m modem good)
way_good s what outcome effect (answers conn piece method target body came acted is) good =
    subst (λ (e : Effect). Good e.after.tables) (sym is) (request_good s.tables s.held.now method target body good)

pub step_good : (s : State) (event : Event) (outcome : Outcome) (effect : Effect) → Step s event outcome effect → Good s.tables → Good effect.after.tables
unfolding Step
step_good s event outcome effect p good = way_good (at_moment s event.at.0) event.what outcome effect (way _ event.what outcome effect p) good
