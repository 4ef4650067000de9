-- A datagram to the TFTP port, and a Tick, to the step of the book.
use Rattle.std.proofs.Common.{◌≡◌, ℕ, inl, true, false, Option, option_map, List, [], codes, Result, Ok, Err, IfOk, IfErr, OnOk, OnErr, MatchResult, refl, sym, ap, ◌∙◌, subst, append-nil}
use Rattle.std.specs.FinMap as map
use Rattle.std.specs.List.{find}
use Rattle.off_base.specs.declared.addresses.Ip4.{Ip4}
use Rattle.off_base.specs.declared.addresses.Peer.{Peer}
use Rattle.off_base.specs.declared.octets.NoMemory.{NoMemory}
use Rattle.off_defs.specs.declared.events.Service.TheVariants.{Tftp}
use Rattle.off_defs.specs.declared.events.What.TheVariants.{Datagram, Tick}
use Rattle.off_defs.specs.declared.results.Outcome.{Outcome}
use Rattle.off_defs.specs.declared.results.Outcome.TheVariants.{Did, Memory, Keeper}
use Rattle.off_defs.specs.State.{Tables, Said, state_of, says_nothing, held_at_start}
use Rattle.off_defs.proofs.CountLemmas.{tallied_none}
use Rattle.off_account_rules.specs.Rows.{hub_of}
use Rattle.off_account_rules.specs.declared.counts.Counts.{Counts}
use Rattle.off_transfer_rules.specs.Requests.{datagram_at}
use Rattle.off_transfer_rules.specs.Transfers.{Transfers}
use Rattle.off_transfer_rules.specs.Steps.{TftpStep}
use Rattle.off_book.specs.Tftp.{tftp_said, tick_said}
use Rattle.off_outside.specs.declared.keeper.KeepErr.{KeepErr}
use Rattle.off_outside.specs.declared.keeper.KeepErr.TheVariants as keep
use Rattle.off_outside.specs.KeeperSeen.{KeeperSeen, Rests}
use Rattle.off_outside.specs.KeeperCalls.{Reads, NotDone, Looks, Spent}
use Rattle.off_outside.proofs.KeeperLemmas.{reads_as, reads_told, reads_forgotten, not_begun, still_crash, spent_none}
use Rattle.off_laws.proofs.Lines.{packet_tells}
use Rattle.off_tftp.specs.Calls.{datagram_calls, UnaskedWhereAgreed, RememberedWhereGoneOn, RememberedWhereBegun}
use Rattle.off_tftp.specs.Agreements.{none_remembered, with_agreed, AllAgreed}
use Rattle.off_tftp.proofs.AgreementLemmas.{none_agreed}
use Rattle.off_tftp.proofs.RememberLemmas.{on_unchanged, begun_unchanged, gone_on_remembered, begun_remembered}
use Rattle.off_tftp.specs.Ticking.{Ticks}
use Rattle.off_tftp.specs.Deciding.{Answers, Remembers, SeesBegun, after_change, kept_behind, given_by}
use Rattle.off_tftp.specs.Keeping.{FewWhereKept, FewWhereBegun, kept_after}
use Rattle.off_tftp.specs.declared.requests.Datagram.{Datagram as Received}
use Rattle.off_tftp.specs.declared.deciding.Decision.{Decision}
use Rattle.off_tftp.specs.declared.ticking.TickDone.{TickDone}
use Rattle.off_office.specs.Asking.{FewCalls}
use Rattle.off_kept.specs.Right.{AllRight}
use Rattle.off_kept.proofs.RightLemmas.{none_right}
use Rattle.off_runs.specs.Runs.{in_pool}
use Rattle.off_runs.specs.Held.{Ground, PoolHeld, KeepsPools}
use Rattle.off_runs.specs.Leases.{ground}
use Rattle.off_device_runs.specs.Ground.{device_ground}
use Rattle.off_users.specs.Users.{UsersHeld}
use Rattle.off_users.specs.Kept.{NamedMap, Knows, map_of}
use Rattle.off_users.proofs.KeptLemmas.{stands_known}
use Rattle.off_behind.specs.Buckets.{Leases}
use Rattle.off_office.specs.Desk.{Desk}
use Rattle.off_office.specs.Conditions.{Mirrors, Begun, KnowsDevices}
use Rattle.off_office.specs.Acting.{Handled, DoesOn, NotStarted, effect_of}
use Rattle.off_sessions.specs.Answers.{failed_said}
use Rattle.off_office.specs.Transferring.{moved, moved_with, MovesTransfers, CarriesPacket, DidPacket, SaysPacket, FailsPacket, DidTick, MissedTick, TakesTick}
use Rattle.off_office.specs.declared.office.StartErr.{StartErr}
use Rattle.off_office.specs.declared.office.StartErr.TheVariants as start
use Rattle.off_office.proofs.StepLemmas.{DoesQuietly, did_says, handled_quietly, memory_leaves, keeper_leaves}
use Rattle.off_office.proofs.MirrorLemmas.{stays_self, stays_by}

-- ---- an office that begins

pub started : (q : Result Desk StartErr) (counts : Counts) (users : UsersHeld) (pools device_pools : List PoolHeld) (held : List Leases) (a b : KeeperSeen)
    → IfOk q (λ (office : Desk). office ≡ record { held = held_at_start; counts = counts; kept = []; agreements = none_remembered; pools = pools; device_pools = device_pools; users = map_of users.modems; devices = held })
    → IfErr q (λ (err : StartErr). err ≡ start.Memory) → Rests a → Reads (λ t. KeepsPools pools (ground t) × (KeepsPools device_pools (device_ground t) × KnowsDevices held t)) a b
    → MatchResult q (λ (office : Desk). Reads (Begun office counts users) a b) (λ (err : StartErr). NotStarted err a b)
started (Ok office) counts users pools device_pools held a b is none rests reads =
    reads_as reads (λ t keeps. record {
      counts_are = ap (λ (d : Desk). d.counts) is;
      kept = subst (λ (d : Desk). AllRight t d.kept) (sym is) (none_right t);
      agreements = subst (λ (d : Desk). AllAgreed t d.agreements) (sym is) (none_agreed t);
      pools = subst (λ (d : Desk). KeepsPools d.pools (ground t)) (sym is) keeps.0;
      device_pools = subst (λ (d : Desk). KeepsPools d.device_pools (device_ground t)) (sym is) keeps.1.0;
      users = λ stands. subst (λ (d : Desk). Knows d.users t) (sym is) (stands_known users t stands);
      devices = subst (λ (d : Desk). KnowsDevices d.devices t) (sym is) keeps.1.1;
    })
started (Err err) counts users pools device_pools held a b none is rests reads = subst (λ (e : StartErr). NotStarted e a b) (sym is) (not_begun rests (reads_forgotten reads))

pub started_empty : (q : Result Desk StartErr) (counts : Counts) (users : NamedMap) (pools device_pools : List PoolHeld) (held : List Leases)
    → IfOk q (λ (office : Desk). office ≡ record { held = held_at_start; counts = counts; kept = []; agreements = none_remembered; pools = pools; device_pools = device_pools; users = users; devices = held })
    → IfOk q (λ (office : Desk). office.held ≡ held_at_start)
started_empty (Ok office) counts users pools device_pools held is = ap (λ (d : Desk). d.held) is
started_empty (Err err) counts users pools device_pools held is = tt

-- ---- a datagram

-- the hub of an address is the one of the pool that has it among those that are kept
abbrev pub IsHubAround : Desk → Ip4 → Option ℕ → Type 0
IsHubAround desk ip hub = (g : Ground) → KeepsPools desk.pools g → hub ≡ option_map (λ e. g.hub e.0) (find (λ e. in_pool e.1 ip.0) g.pools)

pub packet_did : (datagram : Received) (before after : Desk) (said : Said) (d : Decision) (a b : KeeperSeen) → datagram.at.0 ≡ before.held.now → IsHubAround before datagram.from.ip datagram.hub
    → Reads (λ t. datagram.hub ≡ hub_of t datagram.from.ip → AllRight t before.kept → AllAgreed t before.agreements → Answers t datagram before.held.transfers before.kept before.agreements d) a b
    → CarriesPacket datagram.from d before after said
    → Reads (λ t. Mirrors before t → DidPacket datagram.from datagram.bytes.now before after said t) a b
packet_did datagram before after said d a b at around reads carried =
    reads_as reads (λ t answers mirrors.
    let did = answers (around (ground t) mirrors.pools) mirrors.kept mirrors.agreements in
    let kept_is : after.kept ≡ kept_behind d.change before.kept = ap (λ (k : Desk). k.kept) carried.moves in
    let agreed_is : after.agreements ≡ with_agreed d.agreed before.agreements = ap (λ (k : Desk). k.agreements) carried.moves in
    record {
      given = given_by d before.held.now before.held.transfers datagram.from;
      step = subst (λ n. TftpStep t before.held.transfers (datagram_at n datagram.from datagram.bytes.now) (given_by d n before.held.transfers datagram.from)) at did.step;
      moves = carried.moves ∙ ap (λ (k : Desk). moved_with before (after_change d.change before.held.now before.held.transfers datagram.from) k.kept k.agreements) (sym carried.moves);
      says = carried.says;
      keeps = kept_is ∙ (did.keeps ∙ ap (λ n. kept_after t before.held.transfers (datagram_at n datagram.from datagram.bytes.now) before.kept) at);
      right = subst (AllRight t) (sym kept_is) did.right;
      agreed = subst (AllAgreed t) (sym agreed_is) did.agreed;
    })

abbrev Carries : Peer → Decision → Desk → Desk → Said → Result (Unit {0}) KeepErr → Type 0
Carries from d before after said q = MatchResult q (λ _. CarriesPacket from d before after said) (λ err. (err ≡ keep.Memory) × (after ≡ before))

told_by : (q : Result (Unit {0}) KeepErr) (datagram : Received) (before after : Desk) (said : Said) (d : Decision) (a b : KeeperSeen) → datagram.at.0 ≡ before.held.now
    → IsHubAround before datagram.from.ip datagram.hub
    → Reads (λ t. datagram.hub ≡ hub_of t datagram.from.ip → AllRight t before.kept → AllAgreed t before.agreements → Answers t datagram before.held.transfers before.kept before.agreements d) a b
    → Carries datagram.from d before after said q
    → Looks q a b (λ _ t. Mirrors before t → DidPacket datagram.from datagram.bytes.now before after said t)
told_by (Ok done) datagram before after said d a b at around reads carried = packet_did datagram before after said d a b at around reads carried
told_by (Err err) datagram before after said d a b at around reads not = subst (λ (e : KeepErr). NotDone e a b) (sym not.0) (reads_forgotten reads)

pub packet_told : (q : Result (Unit {0}) KeepErr) (datagram : Received) (inside before after : Desk) (said : Said) (d : Decision) (a b : KeeperSeen) → inside ≡ before → datagram.at.0 ≡ inside.held.now
    → IsHubAround inside datagram.from.ip datagram.hub
    → Reads (λ t. datagram.hub ≡ hub_of t datagram.from.ip → AllRight t inside.kept → AllAgreed t inside.agreements → Answers t datagram inside.held.transfers inside.kept inside.agreements d) a b
    → Carries datagram.from d before after said q
    → Looks q a b (λ _ t. Mirrors before t → DidPacket datagram.from datagram.bytes.now before after said t)
packet_told q datagram inside before after said d a b seen at around reads carried =
    told_by q datagram before after said d a b (at ∙ ap (λ (k : Desk). k.held.now) seen) (subst (λ (k : Desk). IsHubAround k datagram.from.ip datagram.hub) seen around)
    (subst (λ (k : Desk). Reads (λ t. datagram.hub ≡ hub_of t datagram.from.ip → AllRight t k.kept → AllAgreed t k.agreements → Answers t datagram k.held.transfers k.kept k.agreements d) a b) seen reads) carried

pub packet_moves : (q : Result (Unit {0}) KeepErr) (from : Peer) (before after : Desk) (said : Said) (d : Decision) → Carries from d before after said q → MovesTransfers before after
packet_moves (Ok done) from before after said d carried =
    carried.moves ∙ ap (λ (k : Desk). moved_with before k.held.transfers k.kept k.agreements) (sym carried.moves)
packet_moves (Err err) from before after said d not = not.1 ∙ ap (λ (k : Desk). moved_with before k.held.transfers k.kept k.agreements) (sym not.1)

pub packet_says : (q : Result (Unit {0}) KeepErr) (from : Peer) (before after : Desk) (said : Said) (d : Decision) → Carries from d before after said q → OnOk q (SaysPacket said)
packet_says (Ok done) from before after said d carried = record { word = d.word; says = ap (λ (s : Said). s.line) carried.says }
packet_says (Err err) from before after said d not = tt

pub packet_stays : (q : Result (Unit {0}) KeepErr) (from : Peer) (before after : Desk) (said : Said) (d : Decision) → Carries from d before after said q → OnErr q (after ≡ before)
packet_stays (Ok done) from before after said d carried = tt
packet_stays (Err err) from before after said d not = not.1

few_by : (q : Result (Unit {0}) KeepErr) (datagram : Received) (before after : Desk) (said : Said) (d : Decision) (a b : KeeperSeen) → datagram.at.0 ≡ before.held.now
    → Carries datagram.from d before after said q → FewWhereKept datagram.from.ip before.kept a b
    → FewWhereBegun datagram.from datagram.bytes.now before.held.transfers before.kept a b
    → FewWhereBegun datagram.from datagram.bytes.now (after_change d.change datagram.at.0 before.held.transfers datagram.from) before.kept a b
    → UnaskedWhereAgreed before.held.now datagram.from datagram.bytes.now before.held.transfers before.agreements a b
    → Remembers before.held.now datagram.from (map.get before.held.transfers datagram.from) before.agreements d → SeesBegun before.held.now datagram.from d
    → FewCalls datagram.from datagram.bytes.now before after a b
few_by (Ok done) datagram before after said d a b at carried owner same begun unasked remembers sees =
    let moved_to : after.held.transfers ≡ after_change d.change before.held.now before.held.transfers datagram.from = ap (λ (k : Desk). k.held.transfers) carried.moves in
    let put : after.agreements ≡ with_agreed d.agreed before.agreements = ap (λ (k : Desk). k.agreements) carried.moves in
    record {
      owner = owner;
      agreed = unasked;
      remembered = subst (λ (m : Transfers). RememberedWhereGoneOn before.held.now datagram.from before.held.transfers m after.agreements) (sym moved_to)
          (gone_on_remembered before.held.now datagram.from before.held.transfers before.agreements after.agreements d put carried.there remembers sees);
      remembered_begun = subst (λ (m : Transfers). RememberedWhereBegun before.held.now datagram.from datagram.bytes.now before.held.transfers m after.agreements) (sym moved_to)
          (begun_remembered before.held.now datagram.from before.held.transfers before.agreements after.agreements d put carried.there datagram.bytes.now sees);
      begun = subst (λ (m : Transfers). FewWhereBegun datagram.from datagram.bytes.now m before.kept a b)
          (ap (λ n. after_change d.change n before.held.transfers datagram.from) at ∙ sym (ap (λ (k : Desk). k.held.transfers) carried.moves)) begun;
    }
few_by (Err err) datagram before after said d a b at not owner same begun unasked remembers sees = record {
  owner = owner;
  agreed = unasked;
  remembered = subst (λ (k : Desk). RememberedWhereGoneOn before.held.now datagram.from before.held.transfers k.held.transfers k.agreements) (sym not.1)
      (on_unchanged before.held.now datagram.from before.agreements before.held.transfers);
  remembered_begun = subst (λ (k : Desk). RememberedWhereBegun before.held.now datagram.from datagram.bytes.now before.held.transfers k.held.transfers k.agreements) (sym not.1)
      (begun_unchanged before.held.now datagram.from before.agreements datagram.bytes.now before.held.transfers);
  begun = subst (λ (m : Transfers). FewWhereBegun datagram.from datagram.bytes.now m before.kept a b) (sym (ap (λ (k : Desk). k.held.transfers) not.1)) same;
}

pub packet_few : (q : Result (Unit {0}) KeepErr) (datagram : Received) (inside before after : Desk) (said : Said) (d : Decision) (a b : KeeperSeen) → inside ≡ before → datagram.at.0 ≡ inside.held.now
    → Carries datagram.from d before after said q → FewWhereKept datagram.from.ip inside.kept a b
    → FewWhereBegun datagram.from datagram.bytes.now inside.held.transfers inside.kept a b
    → FewWhereBegun datagram.from datagram.bytes.now (after_change d.change datagram.at.0 inside.held.transfers datagram.from) inside.kept a b
    → UnaskedWhereAgreed datagram.at.0 datagram.from datagram.bytes.now inside.held.transfers inside.agreements a b
    → Remembers datagram.at.0 datagram.from (map.get inside.held.transfers datagram.from) inside.agreements d → SeesBegun datagram.at.0 datagram.from d
    → FewCalls datagram.from datagram.bytes.now before after a b
packet_few q datagram inside before after said d a b seen at carried owner same begun unasked remembers sees =
    few_by q datagram before after said d a b (at ∙ ap (λ (k : Desk). k.held.now) seen) carried
    (subst (λ (k : Desk). FewWhereKept datagram.from.ip k.kept a b) seen owner)
    (subst (λ (k : Desk). FewWhereBegun datagram.from datagram.bytes.now k.held.transfers k.kept a b) seen same)
    (subst (λ (k : Desk). FewWhereBegun datagram.from datagram.bytes.now (after_change d.change datagram.at.0 k.held.transfers datagram.from) k.kept a b) seen begun)
    (subst (λ n. UnaskedWhereAgreed n datagram.from datagram.bytes.now before.held.transfers before.agreements a b) (at ∙ ap (λ (k : Desk). k.held.now) seen)
    (subst (λ (k : Desk). UnaskedWhereAgreed datagram.at.0 datagram.from datagram.bytes.now k.held.transfers k.agreements a b) seen unasked))
    (subst (λ n. Remembers n datagram.from (map.get before.held.transfers datagram.from) before.agreements d) (at ∙ ap (λ (k : Desk). k.held.now) seen)
    (subst (λ (k : Desk). Remembers datagram.at.0 datagram.from (map.get k.held.transfers datagram.from) k.agreements d) seen remembers))
    (subst (λ n. SeesBegun n datagram.from d) (at ∙ ap (λ (k : Desk). k.held.now) seen) sees)

-- what wasn't decided changes nothing
pub unmoved_few : (from : Peer) (bytes : List ℕ) (inside before : Desk) (a b : KeeperSeen) → inside ≡ before → FewWhereKept from.ip inside.kept a b
    → FewWhereBegun from bytes inside.held.transfers inside.kept a b → UnaskedWhereAgreed inside.held.now from bytes inside.held.transfers inside.agreements a b
    → FewCalls from bytes before before a b
unmoved_few from bytes inside before a b seen owner begun unasked =
    subst (λ (k : Desk). FewCalls from bytes k k a b) seen (record {
      owner = owner;
      begun = begun;
      agreed = unasked;
      remembered = on_unchanged inside.held.now from inside.agreements inside.held.transfers;
      remembered_begun = begun_unchanged inside.held.now from inside.agreements bytes inside.held.transfers;
    })

-- what a datagram did, as one effect
packet_does : (from : Peer) (bytes : List ℕ) (before after : Desk) (said : Said) (t : Tables) → DidPacket from bytes before after said t
    → DoesOn (Datagram Tftp from bytes) Did said [] before after t t
packet_does from bytes before after said t did = record {
  given = did.given;
  step = did.step;
  does =
      ap (λ items. effect_of (Datagram Tftp from bytes) Did (record said { items = items }) [] (state_of t after.held)) refl
      ∙ (ap (λ items. record { said = record { items = items; line = said.line }; commit = []; after = state_of t after.held }) (append-nil said.items)
      ∙ (ap (λ (s : Said). record { said = s; commit = []; after = state_of t after.held }) did.says
      ∙ ap (λ (d : Desk). record { said = tftp_said did.given; commit = []; after = state_of t d.held }) did.moves));
}

pub packet_handled : (from : Peer) (bytes : List ℕ) (said : Said) (before after : Desk) (a b : KeeperSeen) → Rests a
    → Reads (λ t. Mirrors before t → DidPacket from bytes before after said t) a b → MovesTransfers before after
    → SaysPacket said → Spent (datagram_calls before.held.transfers from bytes) a b → FewCalls from bytes before after a b
    → Handled (Datagram Tftp from bytes) Did said before after a b
packet_handled from bytes said before after a b rests reads moves says spent few = record {
  commit = [];
  tables = reads_told reads (λ t did. record {
    holds = λ mirrors. packet_does from bytes before after said t (did mirrors);
    stays = λ fits. record {
      counts = ap (λ (d : Desk). d.counts) moves ∙ fits.mirrors.counts;
      kept = (did fits.mirrors).right;
      agreements = (did fits.mirrors).agreed;
      pools = subst (λ (pools : List PoolHeld). KeepsPools pools (ground t)) (sym (ap (λ (d : Desk). d.pools) moves)) fits.mirrors.pools;
      device_pools = subst (λ (pools : List PoolHeld). KeepsPools pools (device_ground t)) (sym (ap (λ (d : Desk). d.device_pools) moves)) fits.mirrors.device_pools;
      users = subst (λ (users : NamedMap). Knows users t) (sym (ap (λ (d : Desk). d.users) moves)) fits.mirrors.users;
      devices = subst (λ (held : List Leases). KnowsDevices held t) (sym (ap (λ (d : Desk). d.devices) moves)) fits.mirrors.devices;
    };
  });
  written = reads_told reads (λ t did. refl);
  keeps = reads_told reads (λ t did mirrors. (did mirrors).keeps);
  few = few;
  up = λ up. inl (reads.quiet.up up);
  faults = reads.quiet.faults;
  commits = reads.quiet.commits;
  waits = reads.quiet.waits;
  asks = spent;
  crash = still_crash rests reads.quiet.still;
  doubts = λ t told u doubt. reads.quiet.still.doubts u doubt;
  tells = packet_tells from bytes says.word said.line says.says;
  undone = tt;
  leaves = tt;
  quiet = λ other. absurd (let e : false ≡ true = other in cc);
  moment = ap (λ (d : Desk). d.held.now) moves;
}

packet_undone : (from : Peer) (bytes : List ℕ) (err : KeepErr) (outcome : Outcome) (said : Said) (desk : Desk) (a b : KeeperSeen) → Rests a
    → NotDone err a b → Spent (datagram_calls desk.held.transfers from bytes) a b → FewCalls from bytes desk desk a b → FailsPacket err outcome said
    → Handled (Datagram Tftp from bytes) outcome said desk desk a b
packet_undone from bytes keep.Memory outcome said desk a b rests not spent few is =
    subst (λ (o : Outcome). Handled (Datagram Tftp from bytes) o said desk desk a b) (sym is.0)
    (memory_leaves (Datagram Tftp from bytes) (codes "tftp memory") said desk a b refl refl refl (λ t. refl) (not_begun rests not) spent few is.1)
packet_undone from bytes keep.Failed outcome said desk a b rests not spent few is =
    subst (λ (o : Outcome). Handled (Datagram Tftp from bytes) o said desk desk a b) (sym is.0)
    (keeper_leaves (Datagram Tftp from bytes) (codes "tftp keeper") said desk a b refl refl refl (λ t. refl) (not_begun rests not) spent few is.1)

pub packet_failed : (from : Peer) (bytes : List ℕ) (err : KeepErr) (outcome : Outcome) (said : Said) (before after : Desk) (a b : KeeperSeen) → Rests a
    → NotDone err a b → Spent (datagram_calls before.held.transfers from bytes) a b → FewCalls from bytes before after a b → after ≡ before → FailsPacket err outcome said
    → Handled (Datagram Tftp from bytes) outcome said before after a b
packet_failed from bytes err outcome said before after a b rests not spent few same is =
    subst (λ (d : Desk). Handled (Datagram Tftp from bytes) outcome said before d a b) (sym same)
    (packet_undone from bytes err outcome said before a b rests not spent (subst (λ (d : Desk). FewCalls from bytes before d a b) same few) is)

-- ---- a Tick

tick_did : (before after : Desk) (new : Transfers) (said : Said) (done : TickDone) → Ticks before.held.now before.held.transfers new done
    → said ≡ tick_said done.packets.items done.ticked → after ≡ moved before new → DidTick before after said
tick_did before after new said done ticks says moves = record {
  transfers = new;
  items = done.packets.items;
  ticked = done.ticked;
  step = ticks.step;
  moves = moves;
  says = says;
}

tick_does : (before after : Desk) (said : Said) → DidTick before after said → DoesQuietly Tick before after Did said
tick_does before after said did t = record {
  transfers = did.transfers;
  items = did.items;
  ticked = did.ticked;
  step = did.step;
  does =
      ap (λ items. record { said = record { items = items; line = said.line }; commit = []; after = state_of t after.held }) (append-nil said.items)
      ∙ (ap (λ (s : Said). record { said = s; commit = []; after = state_of t after.held }) did.says
      ∙ ap (λ (d : Desk). record { said = tick_said did.items did.ticked; commit = []; after = state_of t d.held }) did.moves);
}

missed_does : (before after : Desk) (said : Said) → MissedTick before after said → DoesQuietly Tick before after Memory said
missed_does before after said missed t =
    ap (λ (s : Said). effect_of Tick Memory s [] (state_of t after.held)) missed.says
    ∙ ap (λ (d : Desk). effect_of Tick Memory (failed_said (codes "tick memory")) [] (state_of t d.held)) missed.stays

pub tick_done : (outcome : Outcome) (r : Result TickDone NoMemory) (done : TickDone) (inside before : Desk) (new : Transfers) (whole : Said)
    → outcome ≡ Did → r ≡ Ok done → IfOk r (Ticks inside.held.now inside.held.transfers new) → inside ≡ before
    → whole ≡ tick_said done.packets.items done.ticked → TakesTick outcome before (moved inside new) whole
tick_done outcome r done inside before new whole is read told seen says =
    subst (λ (o : Outcome). TakesTick o before (moved inside new) whole) (sym is)
    (subst (λ (d : Desk). DidTick d (moved inside new) whole) seen
    (tick_did inside (moved inside new) new whole done
    (subst (λ (x : Result TickDone NoMemory). IfOk x (Ticks inside.held.now inside.held.transfers new)) read told) says refl))

pub tick_missed : (outcome : Outcome) (inside before : Desk) (new : Transfers) (clear whole : Said) → outcome ≡ Memory → inside ≡ before
    → new ≡ inside.held.transfers → clear ≡ says_nothing → whole ≡ record clear { line = codes "tick memory" }
    → TakesTick outcome before (moved inside new) whole
tick_missed outcome inside before new clear whole is seen kept none line =
    subst (λ (o : Outcome). TakesTick o before (moved inside new) whole) (sym is) (record {
      stays = ap (moved inside) kept ∙ seen;
      says = line ∙ ap (λ (s : Said). record s { line = codes "tick memory" }) none;
    })

pub tick_handled : (outcome : Outcome) (said : Said) (before after : Desk) (k : KeeperSeen) → TakesTick outcome before after said
    → Handled Tick outcome said before after k k
tick_handled Did said before after k did =
    handled_quietly Tick Did said before after k (ap (λ (d : Desk). d.held.now) did.moves)
    (stays_by before (moved before did.transfers) after did.moves (record { counts = refl; kept = refl; agreements = refl; pools = refl; device_pools = refl; users = refl; devices = refl })) refl
    (tick_does before after said did) (did_says Tick before after said (tick_does before after said did)) tt (spent_none k)
tick_handled Memory said before after k missed =
    handled_quietly Tick Memory said before after k (ap (λ (d : Desk). d.held.now) missed.stays) (stays_by before before after missed.stays (stays_self before)) refl
    (missed_does before after said missed)
    (record { faults = tallied_none; tells = ap (λ (s : Said). s.line) missed.says; leaves = ap (λ (s : Said). s.items) missed.says })
    (refl, missed.stays) (spent_none k)
tick_handled Keeper said before after k none = absurd none
