-- A datagram to the DHCP port, from what its message does to the step of the book.
use Rattle.std.proofs.Common.{◌≡◌, ◌≤◌, ℕ, ◌+◌, arith, length, is_some, inl, inr, true, false, cond, List, [], ◌∷◌, ◌++◌, codes, Option, Some, None, IfSome, Result, Ok, Err, IfOk, OnOk, MatchResult, refl, sym, ap, ◌∙◌, subst, append-nil}
use Rattle.off_base.specs.declared.addresses.Peer.{Peer}
use Rattle.off_dhcp.specs.Datagram.{Received, message_of}
use Rattle.off_dhcp.specs.declared.faults.DhcpFault.{DhcpFault}
use Rattle.off_defs.specs.declared.events.Service.TheVariants.{Dhcp}
use Rattle.off_defs.specs.declared.events.What.{What}
use Rattle.off_defs.specs.declared.events.What.TheVariants.{Datagram}
use Rattle.off_defs.specs.declared.writes.Write.{Write}
use Rattle.off_defs.specs.declared.results.Outcome.{Outcome}
use Rattle.off_defs.specs.declared.results.Outcome.TheVariants.{Did, Memory, Keeper}
use Rattle.off_defs.specs.State.{Tables, State, Said, Held, Effect, state_of}
use Rattle.off_account_rules.specs.declared.counts.Counts.{Counts}
use Rattle.off_account_rules.specs.Rows.{counts_of, devices, device_pools}
use Rattle.off_defs.specs.Tables.{write_all, without}
use Rattle.off_defs.proofs.ToldLemmas.{told_self, told_weaker}
use Rattle.off_lease_rules.specs.declared.results.LeaseStep.{LeaseStep}
use Rattle.off_lease_rules.specs.Words.{unread}
use Rattle.off_lease_rules.specs.Steps.{lease_step, step_of, dhcp_step}
use Rattle.off_lease_laws.proofs.LawLemmas.{datagrams_leave_fit}
use Rattle.off_query_rules.specs.Asked.{query_of}
use Rattle.off_book.specs.Dhcp.{MessageDid, DatagramDid, DhcpDid, dhcp_line, dhcp_said, dhcp_effect, device_read, device_of, device_said, device_effect}
use Rattle.off_book.specs.Step.{completed, TellsOutcome}
use Rattle.off_laws.proofs.Lines.{message_tells, device_tells}
use Rattle.off_laws.proofs.Devices.{device_told}
use Rattle.off_outside.specs.declared.keeper.KeepErr.{KeepErr}
use Rattle.off_outside.specs.declared.keeper.KeepErr.TheVariants as keep
use Rattle.off_outside.specs.KeeperSeen.{KeeperSeen, Rests}
use Rattle.off_outside.specs.KeeperCalls.{Reads, Settled, NotCommitted, NotDone, IsWritten, Spent}
use Rattle.off_outside.proofs.KeeperLemmas.{settled_none, settled_then, not_begun, not_begun_then, not_committed_as, spent_none, spent_then, spent_within}
use Rattle.off_lease.specs.Calls.{row_calls, message_calls}
use Rattle.off_lease.specs.Stages.{own_rules}
use Rattle.off_cpe.specs.Calls.{is_own, LooksOnce, FindsNone, most_deciding, most_elsewhere}
use Rattle.off_cpe.specs.declared.answering.DeviceAnswer.{DeviceAnswer}
use Rattle.off_behind.specs.Neighbours.{elsewhere}
use Rattle.off_cpe_rules.specs.declared.results.DeviceStep.{DeviceStep}
use Rattle.off_cpe_rules.specs.Behind.{own_among}
use Rattle.off_cpe_rules.specs.Steps.{device_step, own_drop, own_elsewhere}
use Rattle.off_cpe_laws.proofs.WriteLemmas.{Wrote, nothing, gives, rests as aside, frees, wrote}
use Rattle.off_asking.specs.Asking.{client, asks, is_discover}
use Rattle.off_asking.specs.Claims.{refused_by}
use Rattle.off_asking.specs.Choice.{pool_among}
use Rattle.off_table_laws.proofs.CountLemmas.{counts_with_other, counts_without_other}
use Rattle.off_base.specs.declared.addresses.Ip4.{Ip4}
use Rattle.off_base.specs.declared.macs.Mac.{Mac}
use Rattle.off_defs.specs.declared.tables.Pool.{Pool}
use Rattle.off_defs.specs.declared.tables.Row.{Row}
use Rattle.off_defs.specs.declared.tables.Row.TheVariants as row
use Rattle.off_defs.specs.declared.keys.Key.TheVariants as key
use Rattle.off_defs.specs.declared.writes.Write.TheVariants.{Put}
use Rattle.off_office.specs.Desk.{Desk}
use Rattle.off_office.specs.Conditions.{Mirrors, Follows, any_tables}
use Rattle.off_office.proofs.MirrorLemmas.{follows_mirrors, follows_told, follows_before}
use Rattle.off_office.specs.Acting.{Handled, DoingBegins, effect_of}
use Rattle.off_office.specs.Asking.{DhcpAsks, ReadAsks, MessageAsks, commit_calls}
use Rattle.off_kept.proofs.RightLemmas.{nothing_written}
use Rattle.off_sessions.specs.Answers.{failed_said}
use Rattle.off_office.specs.Leasing.{DidMessage, MessageBegins, ServesMessage, DidModem, ServesModem, DidStep, DidDevice, FailsMessage, IsSaid, writes_by, HasWord}
use Rattle.off_office.proofs.CommandLemmas.{at_most_one}
use Rattle.off_office.proofs.StepLemmas.{memory_leaves, keeper_leaves}

-- ---- a message that is decided, and its commit

abbrev pub Decides : LeaseStep → Desk → Received → Tables → Type 0
Decides step desk m t = Mirrors desk t → step ≡ lease_step t desk.held.now m

-- a modem's message
pub step_modem : (q : Result (Unit {0}) KeepErr) (m : Received) (before after : Desk) (step : LeaseStep) (said : Said) (a b c : KeeperSeen) → Rests a
    → Reads (Decides step before m) a b
    → MatchResult q (λ _. DidStep step before after said b c) (λ err. NotCommitted (IsWritten step.writes) err b c) → ServesModem q m before after said a c
step_modem (Ok u) m before after step said a b c rests reads did = record {
  step = step;
  is = λ t told mirrors. (reads.tables t told).1 mirrors;
  did = record { said_is = did.said_is; follows = did.follows; settled = settled_then rests reads did.settled };
}
step_modem (Err err) m before after step said a b c rests reads not =
    not_committed_as (not_begun_then rests reads not)
    (λ t told u written mirrors. written ∙ ap (λ (s : LeaseStep). write_all t s.writes) ((reads.tables t told).1 mirrors))

abbrev pub DecidesDevice : Option DeviceStep → Desk → Received → Tables → Type 0
DecidesDevice step desk m t = Mirrors desk t → step ≡ device_step t desk.held.now m

-- what is said and written, by the step that was decided
said_by : (t : Tables) (now : ℕ) (read : Result Received DhcpFault) (said : Said) (commit : List Write) (one other : Option DeviceStep) → one ≡ other
    → IsSaid t now read said commit one → IsSaid t now read said commit other
said_by t now read said commit one other is h = subst (λ (o : Option DeviceStep). IsSaid t now read said commit o) is h

modem_did : (m : Received) (before after : Desk) (said : Said) (a b c : KeeperSeen) → Rests a → Reads (DecidesDevice None before m) a b
    → DidModem m before after said b c → DidMessage (Ok m) before after said a c
modem_did m before after said a b c rests reads modem = record {
  commit = modem.step.writes;
  tables = record {
    each = λ t told.
        let read = reads.tables t told in
        let g = modem.did.settled.tables.each t read.0 in
        record {
          value = g.value;
          told = g.told;
          fits = (
            g.fits,
            λ mirrors.
                let is = modem.is t read.0 mirrors in
                said_by t before.held.now (Ok m) said modem.step.writes None (device_step t before.held.now m) (read.1 mirrors)
                (modem.did.said_is ∙ ap dhcp_said is, ap (λ (s : LeaseStep). s.writes) is),
          );
        };
  };
  follows = follows_told a.tables before after before.counts modem.step.writes modem.did.follows;
  settled = settled_then rests reads modem.did.settled;
  says = inl (modem.step.word, ap (λ (x : Said). x.line) modem.did.said_is);
}

written_by : (t : Tables) (now : ℕ) (read : Result Received DhcpFault) (one other : Option DeviceStep) → one ≡ other
    → write_all t (writes_by t now read one) ≡ write_all t (writes_by t now read other)
written_by t now read one other is = ap (λ (o : Option DeviceStep). write_all t (writes_by t now read o)) is

pub modem_serves : (q : Result (Unit {0}) KeepErr) (m : Received) (before after : Desk) (said : Said) (a b c : KeeperSeen) → Rests a
    → Reads (DecidesDevice None before m) a b → ServesModem q m before after said b c → ServesMessage q (Ok m) before after said a c
modem_serves (Ok u) m before after said a b c rests reads did = modem_did m before after said a b c rests reads did
modem_serves (Err err) m before after said a b c rests reads not =
    not_committed_as (not_begun_then rests reads not)
    (λ t told u begun mirrors. begun mirrors ∙ written_by t before.held.now (Ok m) None (device_step t before.held.now m) ((reads.tables t told).1 mirrors))

-- a device's message
device_did : (m : Received) (before after : Desk) (step : DeviceStep) (said : Said) (a b c : KeeperSeen) → Rests a → Reads (DecidesDevice (Some step) before m) a b
    → DidDevice step before after said b c → DidMessage (Ok m) before after said a c
device_did m before after step said a b c rests reads did = record {
  commit = step.writes;
  tables = record {
    each = λ t told.
        let read = reads.tables t told in
        let g = did.settled.tables.each t read.0 in
        record {
          value = g.value;
          told = g.told;
          fits = (
            g.fits,
            λ mirrors. said_by t before.held.now (Ok m) said step.writes (Some step) (device_step t before.held.now m) (read.1 mirrors) (did.said_is, refl),
          );
        };
  };
  follows = follows_before b.tables a.tables before after before.counts step.writes (λ t told. (reads.tables t told).0) did.follows;
  settled = settled_then rests reads did.settled;
  says = inr (step.word, ap (λ (x : Said). x.line) did.said_is);
}

pub device_serves : (q : Result (Unit {0}) KeepErr) (m : Received) (before after : Desk) (step : DeviceStep) (said : Said) (a b c : KeeperSeen) → Rests a
    → Reads (DecidesDevice (Some step) before m) a b
    → MatchResult q (λ _. DidDevice step before after said b c) (λ err. NotCommitted (IsWritten step.writes) err b c) → ServesMessage q (Ok m) before after said a c
device_serves (Ok u) m before after step said a b c rests reads did = device_did m before after step said a b c rests reads did
device_serves (Err err) m before after step said a b c rests reads not =
    not_committed_as (not_begun_then rests reads not)
    (λ t told u written mirrors. written ∙ written_by t before.held.now (Ok m) (Some step) (device_step t before.held.now m) ((reads.tables t told).1 mirrors))

pub carried_device : (q : Result (Unit {0}) KeepErr) (step : DeviceStep) (before after : Desk) (said : Said) (a b : KeeperSeen) → said ≡ device_said step
    → OnOk q (Follows a.tables before after before.counts step.writes)
    → MatchResult q (λ _. Settled step.writes a b) (λ err. NotCommitted (IsWritten step.writes) err a b)
    → MatchResult q (λ _. DidDevice step before after said a b) (λ err. NotCommitted (IsWritten step.writes) err a b)
carried_device (Ok u) step before after said a b is follows done = record { said_is = is; follows = follows; settled = done }
carried_device (Err err) step before after said a b is follows not = not

-- it couldn't be decided
pub not_serves : (err : KeepErr) (m : Received) (before after : Desk) (said : Said) (a b : KeeperSeen) → Rests a → NotDone err a b
    → ServesMessage (Err err) (Ok m) before after said a b
not_serves err m before after said a b rests not = not_begun rests not

pub modem_not : (err : KeepErr) (m : Received) (before after : Desk) (said : Said) (a b : KeeperSeen) → Rests a → NotDone err a b
    → ServesModem (Err err) m before after said a b
modem_not err m before after said a b rests not = not_begun rests not

-- what is no message is only said
pub fault_serves : (read : Result Received DhcpFault) (fault : DhcpFault) (desk : Desk) (said : Said) (k : KeeperSeen) → read ≡ Err fault
    → said ≡ failed_said (dhcp_line (unread fault)) → DidMessage read desk desk said k k
fault_serves read fault desk said k is says = subst (λ (r : Result Received DhcpFault). DidMessage r desk desk said k k) (sym is) (record {
  commit = [];
  tables = told_self (λ t. (refl, λ mirrors. (says, refl)));
  follows = record { held = refl; counts_are = refl; kept = sym (nothing_written desk.kept); agreements = refl; pools = λ t good keeps. keeps; device_pools = λ t good keeps. keeps; users = λ t knows. knows; devices = λ t here knows. knows };
  settled = settled_none [] k refl;
  says = inl (unread fault, ap (λ (x : Said). x.line) says);
})

-- a message changes no count
pub step_follows : (q : Result (Unit {0}) KeepErr) (before after : Desk) (counts : Counts) (writes : List Write) → counts ≡ before.counts
    → OnOk q (Follows any_tables before after counts writes) → OnOk q (Follows any_tables before after before.counts writes)
step_follows (Ok u) before after counts writes same follows = subst (λ (n : Counts). Follows any_tables before after n writes) same follows
step_follows (Err err) before after counts writes same follows = tt

pub carried_step : (q : Result (Unit {0}) KeepErr) (step : LeaseStep) (before after : Desk) (said : Said) (a b : KeeperSeen) → said ≡ dhcp_said step
    → OnOk q (Follows any_tables before after before.counts step.writes)
    → MatchResult q (λ _. Settled step.writes a b) (λ err. NotCommitted (IsWritten step.writes) err a b)
    → MatchResult q (λ _. DidStep step before after said a b) (λ err. NotCommitted (IsWritten step.writes) err a b)
carried_step (Ok u) step before after said a b is follows done = record { said_is = is; follows = follows; settled = done }
carried_step (Err err) step before after said a b is follows not = not

-- ---- the step of the book

abbrev On : List ℕ → Peer → What
On bytes from = Datagram Dhcp from bytes

given_counts : (t : Tables) (o : Option Ip4) (address : Ip4) (held : Row) → counts_of (write_all t (own_drop o ++ Put (key.Device address) held ∷ [])) ≡ counts_of t
given_counts t None address held = counts_with_other (key.Device address) held t (λ kind. refl)
given_counts t (Some other) address held =
    counts_with_other (key.Device address) held (without t (key.Device other)) (λ kind. refl) ∙ counts_without_other (key.Device other) t (λ kind. refl)

wrote_counts : (t : Tables) (modem device : Mac) (pool : Option Pool) (own : Option Ip4) (step : DeviceStep) → Wrote modem device pool own step
    → counts_of (write_all t step.writes) ≡ counts_of t
wrote_counts t modem device pool own step (nothing e) = ap (λ (ws : List Write). counts_of (write_all t ws)) e
wrote_counts t modem device pool own step (gives address lease owned lies e) =
    ap (λ (ws : List Write). counts_of (write_all t ws)) e ∙ given_counts t (own_elsewhere address own) address (row.Device lease)
wrote_counts t modem device pool own step (aside address lease owned has e) =
    ap (λ (ws : List Write). counts_of (write_all t ws)) e ∙ given_counts t None address (row.Device lease)
wrote_counts t modem device pool own step (frees address e) =
    ap (λ (ws : List Write). counts_of (write_all t ws)) e ∙ counts_without_other (key.Device address) t (λ kind. refl)

message_counts : (t : Tables) (now : ℕ) (bytes : List ℕ) (step : Option DeviceStep) → device_of t now bytes ≡ step
    → counts_of (write_all t (writes_by t now (message_of bytes) step)) ≡ counts_of t
unfolding dhcp_step
message_counts t now bytes (Some step) is =
    let told = device_told t now bytes step is in
    wrote_counts t told.modem (client told.message) (pool_among (device_pools t) told.message) (own_among told.modem (client told.message) (devices t)) step
    (subst (Wrote told.modem (client told.message) (pool_among (device_pools t) told.message) (own_among told.modem (client told.message) (devices t))) (sym told.does)
    (wrote t now told.message told.modem))
message_counts t now bytes None is = (datagrams_leave_fit t now bytes (write_all t (dhcp_step t now bytes).writes) _ _ (record { tables_after = refl; sent = refl; said = refl })).counts

said_writes : (t : Tables) (now : ℕ) (read : Result Received DhcpFault) (said : Said) (commit : List Write) (step : Option DeviceStep) → IsSaid t now read said commit step
    → commit ≡ writes_by t now read step
said_writes t now read said commit (Some step) is = is.1
said_writes t now read said commit None is = is.1

counts_stay : (desk : Desk) (now : ℕ) (bytes : List ℕ) (said : Said) (commit : List Write) (t : Tables) → IsSaid t now (message_of bytes) said commit (device_read t now (message_of bytes))
    → Mirrors desk t → desk.counts ≡ counts_of (write_all t commit)
unfolding device_of
counts_stay desk now bytes said commit t is mirrors =
    mirrors.counts
    ∙ sym (ap (λ (ws : List Write). counts_of (write_all t ws)) (said_writes t now (message_of bytes) said commit (device_read t now (message_of bytes)) is)
    ∙ message_counts t now bytes (device_of t now bytes) refl)

pub said_nothing_more : (from : Peer) (bytes : List ℕ) (said : Said) → completed (Datagram Dhcp from bytes) Did said ≡ said
said_nothing_more from bytes said = ap (λ items. record said { items = items }) (append-nil said.items)

-- the parts of what a datagram did, as one effect
did_effect : (from : Peer) (bytes : List ℕ) (said as_said : Said) (commit writes : List Write) (desk : Desk) (t u : Tables)
    → said ≡ as_said → commit ≡ writes → u ≡ write_all t commit
    → effect_of (Datagram Dhcp from bytes) Did said commit (state_of u desk.held) ≡ record { said = as_said; commit = writes; after = state_of (write_all t writes) desk.held }
did_effect from bytes said as_said commit writes desk t u is same written =
    ap (λ (x : Said). record { said = x; commit = commit; after = state_of u desk.held }) (said_nothing_more from bytes said ∙ is)
    ∙ (ap (λ (x : Tables). record { said = as_said; commit = commit; after = state_of x desk.held }) written
    ∙ ap (λ (x : List Write). record { said = as_said; commit = x; after = state_of (write_all t x) desk.held }) same)

-- the office holds what it held
held_effect : (from : Peer) (bytes : List ℕ) (said : Said) (commit : List Write) (desk after : Desk) (u : Tables) → after.held ≡ desk.held
    → effect_of (Datagram Dhcp from bytes) Did said commit (state_of u after.held) ≡ effect_of (Datagram Dhcp from bytes) Did said commit (state_of u desk.held)
held_effect from bytes said commit desk after u same = ap (λ (h : Held). effect_of (Datagram Dhcp from bytes) Did said commit (state_of u h)) same

-- a message does what a device's does, or what a modem's does
did_as : (from : Peer) (bytes : List ℕ) (said : Said) (commit : List Write) (desk : Desk) (t u : Tables) (effect : Effect) (step : Option DeviceStep)
    → effect ≡ effect_of (Datagram Dhcp from bytes) Did said commit (state_of u desk.held)
    → IsSaid t desk.held.now (message_of bytes) said commit step → u ≡ write_all t commit → MessageDid (state_of t desk.held) bytes effect step
unfolding dhcp_step
did_as from bytes said commit desk t u effect (Some step) same is written = same ∙ did_effect from bytes said (device_said step) commit step.writes desk t u is.0 is.1 written
did_as from bytes said commit desk t u effect None same is written =
    same ∙ did_effect from bytes said (dhcp_said (step_of t desk.held.now (message_of bytes))) commit (step_of t desk.held.now (message_of bytes)).writes desk t u is.0 is.1 written

-- a datagram that is no query is taken as a message
as_message : (s : State) (bytes : List ℕ) (effect : Effect) → query_of bytes ≡ None → MessageDid s bytes effect (device_of s.tables s.held.now bytes) → DhcpDid s bytes effect
as_message s bytes effect none did = subst (DatagramDid s bytes effect) (sym none) did

asks_as_message : (bytes : List ℕ) (a b : KeeperSeen) → query_of bytes ≡ None → ReadAsks (message_of bytes) a b → DhcpAsks (query_of bytes) (message_of bytes) a b
asks_as_message bytes a b none spent = subst (λ (asked : Option (List ℕ)). DhcpAsks asked (message_of bytes) a b) (sym none) spent

word_tells : (from : Peer) (bytes : List ℕ) (line : List ℕ) → HasWord line → TellsOutcome (Datagram Dhcp from bytes) Did line
word_tells from bytes line (inl modem) = message_tells from bytes modem.0 line modem.1
word_tells from bytes line (inr device) = device_tells from bytes device.0 line device.1

message_does : (from : Peer) (bytes : List ℕ) (said : Said) (before after : Desk) (commit : List Write) (t u : Tables) → query_of bytes ≡ None → after.held ≡ before.held
    → IsSaid t before.held.now (message_of bytes) said commit (device_read t before.held.now (message_of bytes)) → u ≡ write_all t commit
    → DhcpDid (state_of t before.held) bytes (effect_of (Datagram Dhcp from bytes) Did said commit (state_of u after.held))
unfolding device_of
message_does from bytes said before after commit t u none held is written =
    as_message (state_of t before.held) bytes (effect_of (Datagram Dhcp from bytes) Did said commit (state_of u after.held)) none
    (did_as from bytes said commit before t u (effect_of (Datagram Dhcp from bytes) Did said commit (state_of u after.held)) (device_read t before.held.now (message_of bytes))
    (held_effect from bytes said commit before after u held) is written)

pub message_handled : (from : Peer) (bytes : List ℕ) (said : Said) (before after : Desk) (a b : KeeperSeen) → query_of bytes ≡ None
    → DidMessage (message_of bytes) before after said a b → ReadAsks (message_of bytes) a b
    → Handled (Datagram Dhcp from bytes) Did said before after a b
message_handled from bytes said before after a b none did spent = record {
  commit = did.commit;
  tables = record {
    each = λ t told.
        let g = did.tables.each t told in
        record {
          value = g.value;
          told = g.told;
          fits = record {
            holds = λ mirrors. message_does from bytes said before after did.commit t g.value none did.follows.held (g.fits.1 mirrors) g.fits.0;
            stays = λ fits.
                follows_mirrors a.tables before after before.counts did.commit t g.value told did.follows
                (counts_stay before before.held.now bytes said did.commit t (g.fits.1 fits.mirrors) fits.mirrors) g.fits.0 fits;
          };
        };
  };
  written = did.settled.tables;
  keeps = told_weaker did.settled.tables (λ t u written mirrors. did.follows.kept);
  few = tt;
  up = λ up. inl (did.settled.up up);
  faults = did.settled.faults;
  commits = did.settled.commits;
  waits = did.settled.waits;
  asks = asks_as_message bytes a b none spent;
  crash = did.settled.crash;
  doubts = did.settled.doubts;
  tells = word_tells from bytes said.line did.says;
  undone = tt;
  leaves = tt;
  quiet = λ other. absurd (let e : false ≡ true = other in cc);
  moment = ap (λ (h : Held). h.now) did.follows.held;
}

-- the tables that a datagram would leave are those of its step
begun_by_step : (from : Peer) (bytes : List ℕ) (desk : Desk) (t u : Tables) (step : Option DeviceStep)
    → u ≡ write_all t (writes_by t desk.held.now (message_of bytes) step) → (effect : Effect) × (MessageDid (state_of t desk.held) bytes effect step × (u ≡ effect.after.tables))
unfolding dhcp_step
begun_by_step from bytes desk t u (Some step) is = (device_effect (state_of t desk.held) step, (refl, is))
begun_by_step from bytes desk t u None is = (dhcp_effect (state_of t desk.held) (step_of t desk.held.now (message_of bytes)), (refl, is))

message_begins : (from : Peer) (bytes : List ℕ) (desk : Desk) (t u : Tables) → query_of bytes ≡ None → MessageBegins (message_of bytes) desk t u
    → DoingBegins (Datagram Dhcp from bytes) desk t u
unfolding device_of
message_begins from bytes desk t u none is mirrors =
    let begun = begun_by_step from bytes desk t u (device_read t desk.held.now (message_of bytes)) (is mirrors) in
    (begun.0, (as_message (state_of t desk.held) bytes begun.0 none begun.1.0, begun.1.1))

memory_told : (from : Peer) (bytes : List ℕ) (said : Said) (desk : Desk) (a b : KeeperSeen)
    → NotCommitted (DoingBegins (Datagram Dhcp from bytes) desk) keep.Memory a b → DhcpAsks (query_of bytes) (message_of bytes) a b
    → said ≡ failed_said (codes "dhcp memory") → Handled (Datagram Dhcp from bytes) Memory said desk desk a b
memory_told from bytes said desk a b not spent is =
    memory_leaves (Datagram Dhcp from bytes) (codes "dhcp memory") said desk a b refl refl refl (λ t. refl) not spent tt is

keeper_told : (from : Peer) (bytes : List ℕ) (said : Said) (desk : Desk) (a b : KeeperSeen)
    → NotCommitted (DoingBegins (Datagram Dhcp from bytes) desk) keep.Failed a b → DhcpAsks (query_of bytes) (message_of bytes) a b
    → said ≡ failed_said (codes "dhcp keeper") → Handled (Datagram Dhcp from bytes) Keeper said desk desk a b
keeper_told from bytes said desk a b not spent is =
    keeper_leaves (Datagram Dhcp from bytes) (codes "dhcp keeper") said desk a b refl refl refl (λ t. refl) not spent tt is

pub undone_told : (from : Peer) (bytes : List ℕ) (err : KeepErr) (outcome : Outcome) (said : Said) (desk : Desk) (a b : KeeperSeen)
    → NotCommitted (DoingBegins (Datagram Dhcp from bytes) desk) err a b → DhcpAsks (query_of bytes) (message_of bytes) a b
    → FailsMessage err outcome said → Handled (Datagram Dhcp from bytes) outcome said desk desk a b
undone_told from bytes keep.Memory outcome said desk a b not spent is =
    subst (λ (o : Outcome). Handled (Datagram Dhcp from bytes) o said desk desk a b) (sym is.0) (memory_told from bytes said desk a b not spent is.1)
undone_told from bytes keep.Failed outcome said desk a b not spent is =
    subst (λ (o : Outcome). Handled (Datagram Dhcp from bytes) o said desk desk a b) (sym is.0) (keeper_told from bytes said desk a b not spent is.1)

pub message_failed : (from : Peer) (bytes : List ℕ) (err : KeepErr) (outcome : Outcome) (said : Said) (desk : Desk) (a b : KeeperSeen) → query_of bytes ≡ None
    → NotCommitted (MessageBegins (message_of bytes) desk) err a b → ReadAsks (message_of bytes) a b
    → FailsMessage err outcome said → Handled (Datagram Dhcp from bytes) outcome said desk desk a b
message_failed from bytes err outcome said desk a b none not spent is =
    undone_told from bytes err outcome said desk a b
    (not_committed_as not (λ t told u begun. message_begins from bytes desk t u none begun))
    (asks_as_message bytes a b none spent) is

-- where it couldn't be acted on the office is as before
pub same_desk : (from : Peer) (bytes : List ℕ) (outcome : Outcome) (said : Said) (before after : Desk) (a b : KeeperSeen) → after ≡ before
    → Handled (Datagram Dhcp from bytes) outcome said before before a b → Handled (Datagram Dhcp from bytes) outcome said before after a b
same_desk from bytes outcome said before after a b same handled =
    subst (λ (d : Desk). Handled (Datagram Dhcp from bytes) outcome said before d a b) (sym same) handled

-- ---- what is asked

pub step_spent : (m : Received) (writes : List Write) (a b c : KeeperSeen) → Spent (message_calls m) a b → Spent (commit_calls writes) b c
    → Spent (message_calls m + 1) a c
step_spent m writes a b c decided committed = spent_within (spent_then decided committed) (let one = at_most_one writes in omega (arith, one))

pub not_spent : (m : Received) (a b : KeeperSeen) → Spent (message_calls m) a b → Spent (message_calls m + 1) a b
not_spent m a b decided = spent_within decided (omega arith)

-- a DISCOVER is decided by a call less, and may have one more read
both_of_message : (m : Received) → most_deciding m + most_elsewhere m ≤ 6
both_of_message m = elim (is_discover m) as (λ b. cond b 5 6 + cond b 1 0 ≤ 6) [ true ↦ omega arith | false ↦ omega arith ]

deciding_of_message : (m : Received) → most_deciding m ≤ 6
deciding_of_message m = omega (arith, both_of_message m)

-- a message that is a device's says so not by itself, and the tables say so
pub device_spent : (q : Result (Option DeviceAnswer) KeepErr) (m : Received) (answer : DeviceAnswer) (a b c : KeeperSeen) → q ≡ Ok (Some answer) → (is_own m ≡ true → q ≡ Ok None)
    → FindsNone q m a → Spent (most_deciding m) a b → IfOk q (λ found. IfSome found (λ x. length (elsewhere x.own x.step.writes) ≤ most_elsewhere m))
    → Spent (length (elsewhere answer.own answer.step.writes) + 1) b c → MessageAsks m a c
device_spent q m answer a b c is own none few at_most spent =
    subst (λ (r : Result (Option DeviceAnswer) KeepErr). (is_own m ≡ true → r ≡ Ok None) → FindsNone r m a → IfOk r (λ found. IfSome found (λ x. length (elsewhere x.own x.step.writes) ≤ most_elsewhere m)) → MessageAsks m a c) (sym is)
    (λ other found writes. record {
      own = λ says. absurd (let e : Ok (Some answer) ≡ Ok None = other says in cc);
      others = λ t told behind. absurd (let e : Some answer ≡ None = found t told behind in cc);
      any = spent_within (spent_then few spent) (omega (arith, writes, both_of_message m));
    }) own none at_most

few_of_message : (m : Received) → message_calls m ≤ 4
few_of_message m =
    elim (is_some (refused_by (own_rules m))) as (λ b. cond b 0 (row_calls m) ≤ 4) [
      | true ↦ omega arith
      | false ↦
          elim (is_discover m) as (λ b. cond b 4 (cond (asks m) 3 2) ≤ 4) [
            | true ↦ omega arith
            | false ↦ elim (asks m) as (λ b. cond b 3 2 ≤ 4) [ true ↦ omega arith | false ↦ omega arith ]
          ]
    ]

pub modem_spent : (q : Result (Option DeviceAnswer) KeepErr) (m : Received) (a b c : KeeperSeen) → q ≡ Ok None → (is_own m ≡ true → Spent 0 a b) → (q ≡ Ok None → Spent 1 a b) → Spent (message_calls m + 1) b c → MessageAsks m a c
modem_spent q m a b c is own once spent = record {
  own = λ says. spent_within (spent_then (own says) spent) (omega arith);
  others = λ t told none. spent_within (spent_then (once is) spent) (omega arith);
  any = spent_within (spent_then (once is) spent) (omega (arith, few_of_message m));
}

-- a message that couldn't be told whose it is
pub untold_spent : (q : Result (Option DeviceAnswer) KeepErr) (err : KeepErr) (m : Received) (a b : KeeperSeen) → q ≡ Err err → (is_own m ≡ true → q ≡ Ok None) → LooksOnce m a b → Spent (most_deciding m) a b → MessageAsks m a b
untold_spent q err m a b is own once few = record {
  own = λ says. absurd (let e : q ≡ Ok None = own says in let f : q ≡ Err err = is in cc);
  others = λ t told none. spent_within (once t told none) (omega arith);
  any = spent_within few (omega (arith, deciding_of_message m));
}

pub fault_spent : (read : Result Received DhcpFault) (fault : DhcpFault) (k : KeeperSeen) → read ≡ Err fault → ReadAsks read k k
fault_spent read fault k is = subst (λ (r : Result Received DhcpFault). ReadAsks r k k) (sym is) (spent_none k)
