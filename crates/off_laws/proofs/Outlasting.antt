-- A client's lease outlasts all turns that don't serve it, until the lease ends.
use Rattle.std.proofs.Common.{◌≡◌, ℕ, ◌<◌, true, false, inl, inr, List, [], ◌∷◌, Some, Result, Ok, Err, IfOk, refl, sym, ap, subst, ◌∙◌, arith}
use Rattle.std.proofs.lemmas.List.Elements.{All-head, All-tail}
use Rattle.off_base.specs.declared.addresses.Ip4.{Ip4}
use Rattle.off_base.specs.declared.addresses.Peer.{Peer}
use Rattle.off_base.specs.declared.macs.Mac.{Mac}
use Rattle.off_defs.specs.declared.events.Service.TheVariants.{Dhcp}
use Rattle.off_defs.specs.declared.events.What.{What}
use Rattle.off_defs.specs.declared.events.What.TheVariants.{Datagram}
use Rattle.off_defs.specs.declared.results.Outcome.{Outcome}
use Rattle.off_orders.specs.declared.orders.Command.{Command}
use Rattle.off_orders.specs.declared.orders.Reply.{Reply}
use Rattle.off_defs.specs.declared.writes.Write.{Write}
use Rattle.off_defs.specs.declared.tables.Lease.{Lease}
use Rattle.off_defs.specs.State.{Tables, State, Effect, at_moment}
use Rattle.off_defs.specs.Tables.{write_all}
use Rattle.off_dhcp.specs.declared.faults.DhcpFault.{DhcpFault}
use Rattle.off_dhcp.specs.Datagram.{Received, message_of}
use Rattle.off_account_rules.specs.Rows.{lease_in}
use Rattle.off_account_rules.specs.Good.{Good, owner_of}
use Rattle.off_orders.specs.Clerk.{Refusal, clerk_step}
use Rattle.off_clerk_rules.specs.declared.faults.ClerkErr.{ClerkErr}
use Rattle.off_clerk_rules.specs.Commands.{command_read}
use Rattle.off_asking.specs.Asking.{client}
use Rattle.off_lease_rules.specs.Words.{acts}
use Rattle.off_lease_rules.specs.Steps.{lease_step, dhcp_step}
use Rattle.off_lease_rules.specs.declared.results.LeaseStep.{LeaseStep}
use Rattle.off_lease_laws.specs.Laws.{after_message}
use Rattle.off_lease_laws.specs.Effects.{bound_until}
use Rattle.off_lease_laws.specs.Moves.{HoldersAgree}
use Rattle.off_lease_laws.proofs.LawLemmas.{messages_do, faults_do_nothing, leases_last}
use Rattle.off_lease_laws.proofs.GoodLemmas.{good_agree}
use Rattle.off_book.specs.Dhcp.{dhcp_line}
use Rattle.off_book.specs.Http.{answer_result, answer_command, answer_request}
use Rattle.off_book.specs.Step.{Step}
use Rattle.off_book.specs.Run.{Turn, effect_of}
use Rattle.off_laws.specs.Leases.{DoesNotServe, LeasesOutlast, BindingsOutlast}
use Rattle.off_laws.proofs.Requests.{MayBe, request_may}
use Rattle.off_laws.proofs.Answers.{step_tables}
use Rattle.off_laws.proofs.LiveLeases.{commands_keep_live}
use Rattle.off_laws.proofs.Devices.{lease_aside}
use Rattle.off_laws.proofs.Ways.{Way, stays, serves, forgets, hears, answers, messages, devices, way}
use Rattle.off_laws.proofs.StepLaws.{moment_is_greatest, step_good}
use Rattle.off_laws.proofs.RunLaws.{moment_never_falls}

module _ (address : Ip4) (lease : Lease) where
  abbrev There : Tables → Type 0
  There t = lease_in t address ≡ Some lease

  -- a clerk's request keeps each lease that hasn't ended
  module _ (t : Tables) (now : ℕ) (good : Good t) (there : There t) (live : now < lease.expiry.0) where
    result_keeps : (writes : List Write) (r : Result Reply Refusal) → There (write_all t writes) → There (write_all t (answer_result writes r).writes)
    result_keeps writes (Ok reply) same = same
    result_keeps writes (Err refused) same = there

    command_keeps : (read : Result Command ClerkErr) → IfOk read MayBe → There (write_all t (answer_command t now read).writes)
    command_keeps (Ok command) may =
        result_keeps (clerk_step t now command).writes (clerk_step t now command).answer
        (ap (λ u. lease_in u address) (sym (step_tables t now command)) ∙ commands_keep_live t now command address lease good may.0 there live)
    command_keeps (Err err) may = there

    request_keeps : (method target body : List ℕ) → There (write_all t (answer_request t now method target body).writes)
    request_keeps method target body = command_keeps (command_read method target body) (request_may method target body)

  module _ (mac : Mac) (owned : owner_of lease.hold ≡ Some mac) where
    -- the client's message isn't among those that act
    abbrev Unserved : LeaseStep → Received → Type 0
    Unserved step m = client m ≡ mac → acts step.word ≡ true → ⊥

    message_keeps : (t : Tables) (now : ℕ) (m : Received) → HoldersAgree t → There t → now < lease.expiry.0 → Unserved (lease_step t now m) m → There (after_message t now m)
    message_keeps t now m agree there live unserved =
        elim (acts (lease_step t now m).word) as (λ b. acts (lease_step t now m).word ≡ b → There (after_message t now m)) [
          | true ↦ λ acting. leases_last t now m mac address lease agree there owned live (inl (λ same. unserved same acting))
          | false ↦ λ refused. leases_last t now m mac address lease agree there owned live (inr refused)
        ] refl

    datagram_keeps : (t : Tables) (now : ℕ) (bytes : List ℕ) (read : Result Received DhcpFault) → message_of bytes ≡ read → HoldersAgree t → There t → now < lease.expiry.0
        → ((m : Received) → message_of bytes ≡ Ok m → Unserved (dhcp_step t now bytes) m)
        → There (write_all t (dhcp_step t now bytes).writes)
    datagram_keeps t now bytes (Ok m) is agree there live unserved =
        let does = messages_do t now bytes m is in
        subst (λ (step : LeaseStep). There (write_all t step.writes)) (sym does)
        (message_keeps t now m agree there live (subst (λ (step : LeaseStep). Unserved step m) does (unserved m is)))
    datagram_keeps t now bytes (Err fault) is agree there live unserved =
        subst (λ (step : LeaseStep). There (write_all t step.writes)) (sym (faults_do_nothing t now bytes fault is)) there

    -- the message of a datagram to the DHCP port isn't one that serves the client
    abbrev Passes : State → What → Effect → Type 0
    Passes s what effect =
        (from : Peer) (bytes : List ℕ) (m : Received) → what ≡ Datagram Dhcp from bytes → message_of bytes ≡ Ok m
        → effect.said.line ≡ dhcp_line (dhcp_step s.tables s.held.now bytes).word → Unserved (dhcp_step s.tables s.held.now bytes) m

    way_keeps : (s : State) (what : What) (outcome : Outcome) (effect : Effect) → Way s what outcome effect → Good s.tables → There s.tables → s.held.now < lease.expiry.0
        → Passes s what effect → There effect.after.tables
    way_keeps s what outcome effect (stays is none) good there live passes = ap (λ (u : State). lease_in u.tables address) is ∙ there
    way_keeps s what outcome effect (serves transfers is none) good there live passes = ap (λ (u : State). lease_in u.tables address) is ∙ there
    way_keeps s what outcome effect (forgets conn is none) good there live passes = ap (λ (u : State). lease_in u.tables address) is ∙ there
    way_keeps s what outcome effect (hears conn bytes room is none) good there live passes = ap (λ (u : State). lease_in u.tables address) is ∙ there
    way_keeps s what outcome effect (answers conn piece method target body came acted is) good there live passes =
        ap (λ (e : Effect). lease_in e.after.tables address) is ∙ request_keeps s.tables s.held.now good there live method target body
    way_keeps s what outcome effect (devices from bytes m modem came acted read behind is) good there live passes =
        ap (λ (e : Effect). lease_in e.after.tables address) is ∙ lease_aside s.tables s.held.now m modem address ∙ there
    way_keeps s what outcome effect (messages from bytes came acted is) good there live passes =
        ap (λ (e : Effect). lease_in e.after.tables address) is
        ∙ datagram_keeps s.tables s.held.now bytes (message_of bytes) refl (good_agree s.tables good) there live
        (λ m read. passes from bytes m came read (ap (λ (e : Effect). e.said.line) is))

    pub turn_outlasts : (s after : State) (turn : Turn) → Step s turn.event turn.outcome (effect_of turn after) → Good s.tables → There s.tables
        → after.held.now < lease.expiry.0 → DoesNotServe mac turn → There after.tables
    unfolding Step
    turn_outlasts s after turn step good there live unserved =
        let moment = moment_is_greatest s turn.event turn.outcome (effect_of turn after) step in
        way_keeps (at_moment s turn.event.at.0) turn.event.what turn.outcome (effect_of turn after) (way _ turn.event.what turn.outcome (effect_of turn after) step) good there
        (subst (λ (n : ℕ). n < lease.expiry.0) moment live)
        (λ from bytes m came read line same acting. unserved (record {
          message = m;
          word = (dhcp_step s.tables (at_moment s turn.event.at.0).held.now bytes).word;
          takes = record { from = from; bytes = bytes; came = came; read = read };
          sender = same;
          line = line;
          acting = acting;
        }))

pub leases_outlast : LeasesOutlast
leases_outlast s last [] mac address lease good run there owned unserved live = ap (λ (u : State). lease_in u.tables address) run ∙ there
leases_outlast s last (turn ∷ turns) mac address lease good run there owned unserved live =
    let later = moment_never_falls run.0 last turns run.1.1 in
    let stays_good = step_good s turn.event turn.outcome (effect_of turn run.0) run.1.0 good in
    let kept = turn_outlasts address lease mac owned s run.0 turn run.1.0 good there (omega (arith, later, live)) (All-head (DoesNotServe mac) turn turns unserved) in
    leases_outlast run.0 last turns mac address lease stays_good run.1.1 kept owned (All-tail (DoesNotServe mac) turn turns unserved) live

pub bindings_outlast : BindingsOutlast
bindings_outlast s last turns mac address expiry good run there unserved live =
    leases_outlast s last turns mac address (bound_until mac expiry) good run there refl unserved live
