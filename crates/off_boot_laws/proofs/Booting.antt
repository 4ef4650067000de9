-- A modem that asks boots: the stages, one behind another.
use Rattle.std.proofs.Common.{◌≡◌, ℕ, zero, suc, ◌<◌, max, true, List, [], ◌∷◌, ◌++◌, append_assoc, Some, inl, inr, refl, sym, ap, subst, ◌∙◌}
use Rattle.off_base.specs.declared.addresses.Ip4.{Ip4}
use Rattle.off_base.specs.declared.addresses.Peer.{Peer}
use Rattle.off_base.specs.declared.macs.Mac.{Mac}
use Rattle.off_defs.specs.declared.events.Service.TheVariants.{Dhcp, Tftp}
use Rattle.off_defs.specs.declared.events.What.{What}
use Rattle.off_defs.specs.declared.events.What.TheVariants.{Datagram}
use Rattle.off_defs.specs.declared.results.Outcome.{Outcome}
use Rattle.off_defs.specs.declared.results.Outcome.TheVariants.{Did, Memory, Keeper}
use Rattle.off_defs.specs.Clock.{later_by}
use Rattle.off_defs.specs.State.{Tables, State}
use Rattle.off_defs.specs.Tables.{write_all}
use Rattle.off_dhcp.specs.Datagram.{Received}
use Rattle.off_account_rules.specs.Rows.{lease_in, held_in}
use Rattle.off_account_rules.specs.Good.{Good}
use Rattle.off_table_laws.specs.Laws.{owner_in}
use Rattle.off_asking.specs.Asking.{client}
use Rattle.off_lease_laws.specs.Effects.{bound_until}
use Rattle.off_lease_laws.proofs.GoodLemmas.{good_agree}
use Rattle.off_packets.specs.declared.packets.Options.{Options}
use Rattle.off_transfer_rules.specs.Requests.{file_owner}
use Rattle.off_transfer_rules.specs.Transfers.{first_number, size_for, is_last_number}
use Rattle.off_transfer_laws.specs.Agreement.{Agreement}
use Rattle.off_book.specs.Run.{Turn, Run, effect_of}
use Rattle.off_laws.specs.Leases.{DoesNotServe, IsBoundUntil, moment_of}
use Rattle.off_laws.proofs.StepLaws.{moment_is_greatest, step_good, tables_by_commit}
use Rattle.off_laws.proofs.RunLaws.{run_keeps_good}
use Rattle.off_transfer_runs.specs.Answering.{Ask, Aside, Passes, Speaks, ask, AnswersBy, AnswersUpTo}
use Rattle.off_transfer_runs.proofs.Whole.{who_answers_gets_all}
use Rattle.off_boot_laws.specs.Went.{GoesWell}
use Rattle.off_boot_laws.specs.Stages.{Discovers, IsOffered, Requests, IsAcknowledged, AsksForFile, IsGivenFile}
use Rattle.off_boot_laws.specs.Waiting.{LeaseLasts, IsBoundTo, WaitsThrough}
use Rattle.off_boot_laws.specs.Boot.{KeepsName, AcknowledgesAll, HasGot, GetsFile, WhoAsksGetsItsFile, Course, BootsBy, WhoAsksBoots}
use Rattle.off_boot_laws.proofs.Again.{bound_owned, turn_keeps}
use Rattle.off_boot_laws.proofs.Waiting.{waits_on, who_waits_keeps}
use Rattle.off_boot_laws.proofs.Messages.{discovers_are_offered, requests_are_acknowledged}
use Rattle.off_boot_laws.proofs.Reading.{reads_are_accepted}

-- ---- while the lease lasts the tables agree

module _ (request : List ℕ) (first : ℕ) where
  answers_map : (a : Ask) (One Other : Type 0) (outcome : Outcome) (k ticks : ℕ) (Later Next : ℕ → ℕ → Type 0) → (One → Other)
      → ((k ticks : ℕ) → Later k ticks → Next k ticks) → AnswersBy request first a One outcome k ticks Later → AnswersBy request first a Other outcome k ticks Next
  answers_map Aside One Other outcome k ticks Later Next agree next up = next k ticks up
  answers_map Passes One Other outcome k zero Later Next agree next up = up
  answers_map Passes One Other outcome k (suc ticks) Later Next agree next up = next k ticks up
  answers_map (Speaks bytes) One Other Did k ticks Later Next agree next (inl acked) =
      inl (record { read = acked.0.read; agree = agree acked.0.agree }, next (suc k) 5 acked.1)
  answers_map (Speaks bytes) One Other Did k ticks Later Next agree next (inr same) = inr (same.0, next k ticks same.1)
  answers_map (Speaks bytes) One Other Memory k ticks Later Next agree next up = next k ticks up
  answers_map (Speaks bytes) One Other Keeper k ticks Later Next agree next up = next k ticks up

module _ (request : List ℕ) (first n : ℕ) (mac : Mac) (peer : Peer) (name : List ℕ) (owner : ℕ) where
  abbrev Named : Tables → ℕ → Type 0
  Named tables now = KeepsName tables mac owner peer.ip name

  abbrev Agree : Tables → ℕ → Type 0
  Agree tables now = Agreement tables now peer.ip name (file_owner mac owner)

  agreed : (tables : Tables) (now expiry : ℕ) → lease_in tables peer.ip ≡ Some (bound_until mac expiry) → now < expiry → Named tables now → Agree tables now
  agreed tables now expiry bound live named = record {
    lease = bound_until mac expiry;
    modem = named.modem;
    site = named.site;
    lease_is = bound;
    bound = refl;
    live = live;
    modem_is = named.modem_is;
    owned = named.owned;
    site_is = named.site_is;
    named = named.named;
  }

  stays_agreed : (s last : State) (soon rest : List Turn) (tables : Tables) (now k ticks : ℕ) → s.tables ≡ tables → s.held.now ≡ now → Good s.tables
      → IsBoundTo mac peer.ip s.tables → Run s (soon ++ rest) last → WaitsThrough mac peer.ip s soon
      → AnswersUpTo request first (suc n) peer Named tables now k ticks soon → AnswersUpTo request first (suc n) peer Agree tables now k ticks soon
  stays_agreed s last [] rest tables now k ticks t m good bound run waits up = up
  stays_agreed s last (turn ∷ soon) rest tables now k ticks t m good bound run waits up =
      let here = waits [] soon turn s refl refl in
      answers_map request first (ask peer turn.event.what) (Named tables (max now turn.event.at.0)) (Agree tables (max now turn.event.at.0)) turn.outcome k ticks
      (λ k ticks. AnswersUpTo request first (suc n) peer Named (write_all tables turn.commit) (max now turn.event.at.0) k ticks soon)
      (λ k ticks. AnswersUpTo request first (suc n) peer Agree (write_all tables turn.commit) (max now turn.event.at.0) k ticks soon)
      (λ named.
      agreed tables (max now turn.event.at.0) bound.expiry (ap (λ (u : Tables). lease_in u peer.ip) (sym t) ∙ bound.is)
      (subst (λ (i : ℕ). max i turn.event.at.0 < bound.expiry) m (here.0 (bound_until mac bound.expiry) bound.is)) named)
      (λ k ticks later.
      stays_agreed run.0 last soon rest (write_all tables turn.commit) (max now turn.event.at.0) k ticks
      (tables_by_commit s turn.event turn.outcome (effect_of turn run.0) run.1.0 ∙ ap (λ (u : Tables). write_all u turn.commit) t)
      (moment_is_greatest s turn.event turn.outcome (effect_of turn run.0) run.1.0 ∙ ap (λ (i : ℕ). max i turn.event.at.0) m)
      (step_good s turn.event turn.outcome (effect_of turn run.0) run.1.0 good)
      ((turn_keeps s run.0 turn mac peer.ip run.1.0 good (bound_owned mac peer.ip s.tables bound) here.0 here.1).bound bound) run.1.1
      (waits_on mac peer.ip s run.0 turn soon run.1.0 waits) later) up

-- ---- the file

-- a read request is no message of a client
not_served : (mac : Mac) (turn : Turn) (peer : Peer) (bytes : List ℕ) → turn.event.what ≡ Datagram Tftp peer bytes → DoesNotServe mac turn
not_served mac turn peer bytes event served =
    let both : ◌≡◌ {A = What} (Datagram Tftp peer bytes) (Datagram Dhcp served.takes.from served.takes.bytes) = sym event ∙ served.takes.came in
    cc

module _ (s last : State) (turn : Turn) (soon rest : List Turn) (mac : Mac) (peer : Peer) (name : List ℕ) (asked : Options) (good : Good s.tables)
    (run : Run s (turn ∷ (soon ++ rest)) last) (reads : AsksForFile s mac peer name asked turn) (bound : IsBoundTo mac peer.ip s.tables)
    (lasts : LeaseLasts peer.ip s turn) where
  bound_behind : IsBoundTo mac peer.ip run.0.tables
  bound_behind =
      (turn_keeps s run.0 turn mac peer.ip run.1.0 good (bound_owned mac peer.ip s.tables bound) lasts (inl (not_served mac turn peer reads.bytes reads.event))).bound bound

  all_got : (given : IsGivenFile s mac peer name asked turn (soon ++ rest)) (k : ℕ) → is_last_number given.served.file (size_for asked) k ≡ true
      → WaitsThrough mac peer.ip run.0 soon → AcknowledgesAll k s mac peer given.accepts.bytes name asked given.served.subscriber turn soon
      → HasGot peer given.served.file turn (soon ++ rest)
  all_got given k last_is waits up =
      let all =
      who_answers_gets_all s last turn soon rest peer name asked k run given.accepts given.served last_is
      (subst (λ (w : Mac). AnswersUpTo given.accepts.bytes (first_number asked) (suc k) peer
      (λ tables now. Agreement tables now peer.ip name (file_owner w given.served.subscriber)) (write_all s.tables turn.commit)
      (moment_of s turn) (first_number asked) 5 soon) (sym given.own)
      (stays_agreed given.accepts.bytes (first_number asked) k mac peer name given.served.subscriber run.0 last soon rest (write_all s.tables turn.commit) (moment_of s turn)
      (first_number asked) 5
      (tables_by_commit s turn.event turn.outcome (effect_of turn run.0) run.1.0)
      (moment_is_greatest s turn.event turn.outcome (effect_of turn run.0) run.1.0)
      (step_good s turn.event turn.outcome (effect_of turn run.0) run.1.0 good)
      bound_behind run.1.1 waits up)) in
      record { done = all.0; whole = all.1 }

pub who_asks_gets_its_file : WhoAsksGetsItsFile
who_asks_gets_its_file s last turn soon rest mac peer name asked good run well reads bound lasts =
    let given =
    reads_are_accepted s last turn (soon ++ rest) mac peer name asked bound.expiry good run well reads bound.is (lasts (bound_until mac bound.expiry) bound.is) in
    (given, λ k last_is waits up. all_got s last turn soon rest mac peer name asked good run reads bound lasts given k last_is waits up)

-- ---- all of it

pub holds_own : (t : Tables) (mac : Mac) (address : Ip4) → Good t → owner_in t address ≡ Some mac → held_in t mac ≡ Some address
holds_own t mac address good owned = (good_agree t good mac address).0 owned

-- no turn stands in a run of none
pub no_turn : (before later : List Turn) (turn : Turn) → [] ≡ before ++ turn ∷ later → ⊥
no_turn [] later turn e = cc
no_turn (first ∷ before) later turn e = cc

-- where the three turns stand in the run
pub second_place : (before one : List Turn) (a b : Turn) (later : List Turn) → before ++ a ∷ (one ++ b ∷ later) ≡ (before ++ a ∷ one) ++ b ∷ later
second_place before one a b later = sym (append_assoc before (a ∷ one) (b ∷ later))

third_place : (before one two : List Turn) (a b c : Turn) (later : List Turn)
    → before ++ a ∷ (one ++ b ∷ (two ++ c ∷ later)) ≡ ((before ++ a ∷ one) ++ b ∷ two) ++ c ∷ later
third_place before one two a b c later = second_place before one a b (two ++ c ∷ later) ∙ second_place (before ++ a ∷ one) two b c later

-- a turn of the run that is to go well goes well
abbrev pub SoWell : (Turn → Type 0) → List Turn → Type 0
SoWell Well turns = (before later : List Turn) (turn : Turn) → turns ≡ before ++ turn ∷ later → Well turn → GoesWell turn

module _ (Well : Turn → Type 0) (s : State) (turns : List Turn) (good : Good s.tables) (so : SoWell Well turns) (c : Course s turns)
    (m n : Received) (peer : Peer) (name : List ℕ) (asked : Options) (sender : client n ≡ client m) where
  good0 : Good c.s0.tables
  good0 = run_keeps_good s c.s0 c.before c.up_to good

  good1 : Good c.s1.tables
  good1 = run_keeps_good c.s0 c.s1 (c.discovers ∷ c.one) c.first good0

  good2 : Good c.s2.tables
  good2 = run_keeps_good c.s1 c.s2 (c.requests ∷ c.two) c.second good1

  offered : Well c.discovers → Discovers c.s0 m c.discovers → IsOffered c.s0 m c.discovers c.first.0
  offered well d =
      discovers_are_offered c.s0 c.first.0 c.discovers m good0 c.first.1.0
      (so c.before (c.one ++ c.requests ∷ (c.two ++ c.reads ∷ (c.soon ++ c.rest))) c.discovers c.parts well) d

  module _ (offer : IsOffered c.s0 m c.discovers c.first.0) where
    acknowledged : WaitsThrough (client m) offer.address c.first.0 c.one → Well c.requests → Requests c.s1 n c.requests offer.address
        → IsAcknowledged c.s1 n c.requests offer.address c.second.0
    acknowledged waits well r =
        let good_first = step_good c.s0 c.discovers.event c.discovers.outcome (effect_of c.discovers c.first.0) c.first.1.0 good0 in
        let kept = who_waits_keeps c.first.0 c.s1 c.one (client m) offer.address good_first c.first.1.1 offer.owned waits in
        requests_are_acknowledged c.s1 c.second.0 c.requests n offer.address good1 c.second.1.0
        (so (c.before ++ c.discovers ∷ c.one) (c.two ++ c.reads ∷ (c.soon ++ c.rest)) c.requests
        (c.parts ∙ second_place c.before c.one c.discovers c.requests (c.two ++ c.reads ∷ (c.soon ++ c.rest))) well) r
        (ap (λ (w : Mac). held_in c.s1.tables w) sender ∙ holds_own c.s1.tables (client m) offer.address good1 kept.owned)

    bound_then : IsAcknowledged c.s1 n c.requests offer.address c.second.0 → WaitsThrough (client m) offer.address c.second.0 c.two → IsBoundTo (client m) offer.address c.s2.tables
    bound_then ack waits =
        let good_second = step_good c.s1 c.requests.event c.requests.outcome (effect_of c.requests c.second.0) c.second.1.0 good1 in
        let bound : IsBoundTo (client m) offer.address c.second.0.tables =
        record {
          expiry = later_by ack.site.lease (moment_of c.s1 c.requests);
          is = subst (λ (w : Mac). IsBoundUntil w offer.address (later_by ack.site.lease (moment_of c.s1 c.requests)) c.second.0) sender ack.bound;
        } in
        (who_waits_keeps c.second.0 c.s2 c.two (client m) offer.address good_second c.second.1.1 (bound_owned (client m) offer.address c.second.0.tables bound) waits).bound bound

    given : IsAcknowledged c.s1 n c.requests offer.address c.second.0 → WaitsThrough (client m) offer.address c.second.0 c.two → Well c.reads
        → AsksForFile c.s2 (client m) peer name asked c.reads → peer.ip ≡ offer.address → LeaseLasts peer.ip c.s2 c.reads
        → GetsFile c.s2 c.third.0 (client m) peer name asked c.reads c.soon c.rest
    given ack waits well reads here lasts =
        who_asks_gets_its_file c.s2 c.last c.reads c.soon c.rest (client m) peer name asked good2 c.third
        (so ((c.before ++ c.discovers ∷ c.one) ++ c.requests ∷ c.two) (c.soon ++ c.rest) c.reads
        (c.parts ∙ third_place c.before c.one c.two c.discovers c.requests c.reads (c.soon ++ c.rest)) well)
        reads (subst (λ (a : Ip4). IsBoundTo (client m) a c.s2.tables) (sym here) (bound_then ack waits)) lasts

pub boots_by : (Well : Turn → Type 0) (s : State) (turns : List Turn) → Good s.tables → SoWell Well turns → BootsBy Well s turns
boots_by Well s turns good so c m n peer name asked sender well d =
    let offer = offered Well s turns good so c m n peer name asked sender well d in (
      offer,
      λ waits well r.
          let ack = acknowledged Well s turns good so c m n peer name asked sender offer waits well r in
          (ack, λ waits well reads here lasts. given Well s turns good so c m n peer name asked sender offer ack waits well reads here lasts),
    )

pub boots : WhoAsksBoots
boots s turns good = boots_by GoesWell s turns good (λ before later turn parts well. well)
