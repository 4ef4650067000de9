-- From the loop and the run's own line to the headline.
use Rattle.std.proofs.Common.{◌≡◌, ◌≢◌, ℕ, ◌⊎◌, Bool, List, [], ◌∷◌, All, Option, Some, MatchOption, refl, ap, ◌∙◌, subst, inl, inr, arith}
use Rattle.off_defs.specs.Told.{Told}
use Rattle.off_defs.proofs.ToldLemmas.{told_weaker}
use Rattle.off_defs.specs.declared.writes.Write.{Write}
use Rattle.off_defs.specs.State.{Tables, State, Held, held_at_start, start, state_of}
use Rattle.off_book.specs.Crashes.{turn_steps, Saves}
use Rattle.off_book.proofs.LeftLemmas.{left_wider}
use Rattle.off_book.specs.Words.{Job}
use Rattle.off_book.specs.Run.{Turn, SaysMemory, failures_by, commits_by, lost_by, lines_from}
use Rattle.off_book.proofs.StepLemmas.{turns_did}
use Rattle.off_account_rules.specs.Good.{Good}
use Rattle.off_account_rules.specs.Migration.{migrated}
use Rattle.off_outside.specs.LinkSeen.{LinkSeen}
use Rattle.off_outside.specs.KeeperSeen.{KeeperSeen, Rests}
use Rattle.off_defs.specs.Counts.{Grew, Tallied, one_more}
use Rattle.off_outside.specs.KeeperCalls.{Settled}
use Rattle.off_laws.proofs.Stretches.{leases_hold_through}
use Rattle.off_cpe_runs.proofs.Runs.{devices_hold_over_runs}
use Rattle.off_transfer_runs.proofs.Runs.{files_of_runs}
use Rattle.off_boot_laws.specs.Went.{Anyhow}
use Rattle.off_boot_laws.specs.Served.{ModemsAreServed}
use Rattle.off_boot_laws.proofs.Went.{all_go_well}
use Rattle.off_boot_laws.proofs.Keeping.{modems_are_served, all_are_served}
use Rattle.off_cpe_boot_laws.specs.Served.{DevicesAreServed}
use Rattle.off_cpe_boot_laws.proofs.Binding.{devices_are_served, all_devices_are_served}
use Rattle.off_isolation.proofs.RunLemmas as isolation
use Rattle.off_import_runs.proofs.Runs.{imports_act_once_through}
use Rattle.off_office.specs.Conditions.{Opened}
use Rattle.off_office.proofs.OpeningLemmas.{leaves_opening, doubts_opened, opened_good, opened_state}
use Rattle.off_outside.specs.Streams.{SinkSeen}
use Rattle.off_office.specs.Desk.{Desk}
use Rattle.off_office.specs.Acting.{NotStarted}
use Rattle.off_office.specs.declared.office.StartErr.{StartErr}
use Rattle.off_drill_job.proofs.LinkLemmas.{link_unasked}
use Rattle.off_turns.specs.declared.events.Stop.{Stop}
use Rattle.off_turns.specs.declared.events.Stop.TheVariants as stop
use Rattle.off_turns.specs.Serving.{World, world_of}
use Rattle.off_jobs.specs.Ending.{Ending, Tells, link_refused, memory_refused}
use Rattle.off_jobs.specs.Health.{NoFault, AllUp}
use Rattle.off_jobs.proofs.EndingLemmas.{stands, kept, ends_by, sink_kept as told_kept}
use Rattle.off_office.specs.Closed.{closed_end}
use Rattle.off_office.proofs.ClosedLemmas.{closed_status, closed_kept}
use Rattle.off_turns.specs.Loop.{WroteText, CutText, SavesIn, RanTurns, KeeperRan, RanFrom, Stops, Served}
use Rattle.off_turns.proofs.ServeLemmas.{wrote_more, wrote_same, cut_more, cut_same}
use Rattle.off_serve.specs.Headline.{AnswersAreSaved, RanOffice, OwnLine, Ended, Ends, all_of, Completed, ServesAsOffice, own_writes}
use Rattle.off_office.proofs.UpLemmas.{up_chain}

own_line : (own : Ending) (text : List ℕ) (status : ℕ) (a b c : SinkSeen) → WroteText text a b → Tells own status b c → OwnLine own text status a c
own_line own text status a b c wrote (inl w) = inl (w.0, wrote_more wrote w.1)
own_line own text status a b c wrote (inr w) = inr (w.0, cut_more wrote w.1)

ends_of : (reason : Stop) (budget : ℕ) (turns : List Turn) (link link' : LinkSeen) (j k k' : KeeperSeen) (a b c : SinkSeen) (status : ℕ)
    → Stops reason budget turns (world_of link j a) (world_of link' k' b) → Ended reason status b c → Ends reason budget turns (world_of link k a) (world_of link' k' c) status
ends_of stop.Finished budget turns link link' j k k' a b c status stops ended =
    (ended.0, record { cause = stops.cause; missed = stops.missed; faults = stops.faults; text = wrote_same stops.text ended.1 })
ends_of stop.Memory budget turns link link' j k k' a b c status stops ended = (stops.0, own_line memory_refused (lines_from 1 turns) status a b c stops.1 ended)
ends_of stop.Link budget turns link link' j k k' a b c status stops ended = (stops.0, own_line link_refused (lines_from 1 turns) status a b c stops.1 ended)
ends_of stop.Sink budget turns link link' j k k' a b c status stops ended = (
  ended.0,
  record {
    front = stops.front;
    last = stops.last;
    parts = stops.parts;
    missed = stops.missed;
    faults = stops.faults;
    text = cut_same stops.text ended.1;
  },
)

-- ---- where no count rose

abbrev Calm : World → World → Type 0
Calm old new = NoFault (all_of old new)

-- a text that was cut off counted a fault
cut_counts : (old new : World) {text last : List ℕ} → Calm old new → CutText text last old.sink new.sink → ⊥
cut_counts old new none cut = stands none.1.1.0 cut.faults

status_of : (reason : Stop) (budget : ℕ) (turns : List Turn) (old new : World) (status : ℕ) → Calm old new → status ≢ 6 → Ends reason budget turns old new status → status ≡ 0
status_of stop.Finished budget turns old new status none other ends = ends.0
status_of stop.Memory budget turns old new status none other ends =
    elim ends.1 [ inl w ↦ absurd (other w.0) | inr w ↦ absurd (cut_counts old new none w.1) ]
status_of stop.Link budget turns old new status none other ends = absurd (omega (arith, none.0.0.same, none.0.0.room, ends.0.faults.faults.grew.grew))
status_of stop.Sink budget turns old new status none other ends = absurd (cut_counts old new none ends.1.text)

complete_of : (reason : Stop) (budget : ℕ) (turns : List Turn) (moments : List ℕ) (held : Held) (old new : World) (status : ℕ) → RanTurns turns moments old.link new.link
    → RanOffice turns moments held old.keeper new.keeper → Ends reason budget turns old new status
    → Calm old new → All (λ (turn : Turn). ¬ (SaysMemory turn)) turns → status ≢ 6 → Completed turns status
complete_of reason budget turns moments held old new status ran office ends none silent other =
    let did = turns_did turns office.tell (omega (arith, none.1.0.same, none.1.0.room, office.keeper.faults.grew.grew)) silent in
    let lost : lost_by turns ≡ 0 = omega (arith, none.0.1.same, none.0.1.room, ran.unsent.grew.grew) in
    record {
      did = did;
      lost = lost;
      well = all_go_well turns did ran.marks lost;
      status_is = status_of reason budget turns old new status none other ends;
    }

-- and each modem is served
each_served : (turns : List Turn) (old new : World) (status : ℕ) (t : Tables) → Good t
    → (Calm old new → All (λ turn. ¬ (SaysMemory turn)) turns → status ≢ 6 → Completed turns status)
    → Calm old new → All (λ turn. ¬ (SaysMemory turn)) turns → status ≢ 6 → ModemsAreServed Anyhow (start t) turns
each_served turns old new status t good complete none silent other = all_are_served (start t) turns good (complete none silent other).well

each_device_served : (turns : List Turn) (old new : World) (status : ℕ) (t : Tables) → Good t
    → (Calm old new → All (λ turn. ¬ (SaysMemory turn)) turns → status ≢ 6 → Completed turns status)
    → Calm old new → All (λ turn. ¬ (SaysMemory turn)) turns → status ≢ 6 → DevicesAreServed Anyhow (start t) turns
each_device_served turns old new status t good complete none silent other = all_devices_are_served (start t) turns good (complete none silent other).well

-- what the turns did to the keeper, behind the opening
keeper_opened : (turns : List Turn) (first : List Write) (a b c : KeeperSeen) → Settled first a b → KeeperRan [] turns b c → KeeperRan first turns a c
keeper_opened turns first a b c settled ran = record {
  faults = subst (λ v. Tallied (failures_by turns) v c.faults) settled.faults ran.faults;
  commits = ran.commits ∙ ap (commits_by turns) settled.commits;
  up = up_chain (omega (arith, settled.faults)) ran.faults.grew.later (λ up. inl (settled.up up)) ran.up;
}

-- more may be in doubt before the run, and as much is safe at each moment
abbrev saves_after_doubt : {first more : Tables → Type 0} {from : ℕ} {s : State} {done : List Turn} {opened : ℕ → Tables → Type 0} {doubt : Tables → Type 0} {waits : Bool} {to : ℕ} {last : State}
    → ((u : Tables) → first u → more u) → Saves turn_steps first from s done opened doubt waits to last → Saves turn_steps more from s done opened doubt waits to last
saves_after_doubt wider saves = record {
  run = saves.run;
  later = saves.later;
  safe = saves.safe;
  taken = saves.taken;
  rises = saves.rises;
  top = saves.top;
  most = saves.most;
  within = saves.within;
  leaves = λ m u early upto shown. left_wider turn_steps (wider u) (saves.leaves m u early upto shown);
  doubts = λ u doubt. left_wider turn_steps (wider u) (saves.doubts u doubt);
  all = saves.all;
}

-- what a crash leaves from the opening on
saves_behind : (turns : List Turn) (moments : List ℕ) (first last : Desk) (a b c : KeeperSeen) → Rests a → Opened first a b → first.held ≡ held_at_start → RanFrom turns moments first last b c
    → (t v u : Tables) → a.tables t → v ≡ migrated t → SavesIn b c (state_of v first.held) turns moments (state_of u last.held)
    → AnswersAreSaved a c t turns moments (state_of u last.held)
saves_behind turns moments first last a b c rests opened fresh ran t v u told is saves =
    let here = subst (λ (s : State). SavesIn b c s turns moments (state_of u last.held)) (opened_state first t v is fresh) saves in
    record {
      opened = record { at = b.moment; opening = leaves_opening rests opened ran.past t told; saves = saves_after_doubt (doubts_opened opened t told) here.saves };
      sent = here.sent;
    }

-- an office that opened, and its turns
ran_office : {turns : List Turn} {moments : List ℕ} {first last : Desk} {a b c : KeeperSeen} → Rests a → Opened first a b → first.held ≡ held_at_start
    → RanFrom turns moments first last b c → RanOffice turns moments last.held a c
ran_office {turns} {moments} {first} {last} {a} {b} {c} rests opened fresh ran =
    let crash : Told a.tables c.tables (λ t u. AnswersAreSaved a c t turns moments (state_of u last.held)) = record {
      each = λ t told.
          let o = opened.tables.each t told in
          let g = ran.run.each o.value o.told in
          record {
            value = g.value;
            told = g.told;
            fits = saves_behind turns moments first last a b c rests opened fresh ran t o.value g.value told o.fits.0 (g.fits.holds o.fits.1).0;
          };
    } in
    record {
      run = told_weaker crash (λ t u saved. saved.opened.saves.run);
      crash = crash;
      first = opened.writes;
      are = opened.are;
      keeper = keeper_opened turns opened.writes a b c opened.settled ran.keeper;
      tell = ran.tell;
    }

-- the opened tables are good, and stay so over the turns
good_again : {turns : List Turn} {moments : List ℕ} {first last : Desk} {a b c : KeeperSeen} → Opened first a b → RanFrom turns moments first last b c → Told a.tables c.tables (λ t u. Good u)
good_again opened ran = record {
  each = λ t told.
      let o = opened.tables.each t told in
      let g = ran.fits.each o.value o.told in
      record { value = g.value; told = g.told; fits = (g.fits o.fits.1).good };
}

own_one : (own : Ending) (status : ℕ) (a b : SinkSeen) → Tells own status a b → b.calls ≡ one_more a.calls
own_one own status a b (inl w) = w.1.calls
own_one own status a b (inr w) = w.1.calls

ended_writes : (reason : Stop) (status : ℕ) (a b : SinkSeen) → Ended reason status a b → b.calls ≡ own_writes reason a.calls
ended_writes stop.Finished status a b ended = ended.1.calls
ended_writes stop.Memory status a b ended = own_one memory_refused status a b ended
ended_writes stop.Link status a b ended = own_one link_refused status a b ended
ended_writes stop.Sink status a b ended = ended.1.calls

link_kept : (old new : World) → Calm old new → new.link.up ⊎ (Grew 1 old.link.faults new.link.faults ⊎ Grew 1 old.link.unsent new.link.unsent) → new.link.up
link_kept old new none (inl up) = up
link_kept old new none (inr (inl grew)) = absurd (stands none.0.0 grew)
link_kept old new none (inr (inr grew)) = absurd (stands none.0.1 grew)

own_kept : (own : Ending) (text : List ℕ) (status : ℕ) (old new : World) → Calm old new → OwnLine own text status old.sink new.sink → old.sink.up → new.sink.up
own_kept own text status old new none (inl wrote) up = wrote.1.up up
own_kept own text status old new none (inr cut) up = absurd (cut_counts old new none cut.1)

sink_kept : (reason : Stop) (budget : ℕ) (turns : List Turn) (old new : World) (status : ℕ) → Calm old new → Ends reason budget turns old new status → old.sink.up → new.sink.up
sink_kept stop.Finished budget turns old new status none ends up = ends.1.text.up up
sink_kept stop.Memory budget turns old new status none ends up = own_kept memory_refused (lines_from 1 turns) status old new none ends.1 up
sink_kept stop.Link budget turns old new status none ends up = own_kept link_refused (lines_from 1 turns) status old new none ends.1 up
sink_kept stop.Sink budget turns old new status none ends up = absurd (cut_counts old new none ends.1.text)

all_kept : (reason : Stop) (budget : ℕ) (turns : List Turn) (moments : List ℕ) (held : Held) (old new : World) (status : ℕ) → RanTurns turns moments old.link new.link
    → RanOffice turns moments held old.keeper new.keeper → Ends reason budget turns old new status → Calm old new → AllUp (all_of old new)
all_kept reason budget turns moments held old new status ran office ends none =
    (λ up. link_kept old new none (ran.up up), (λ up. kept none.1.0 (office.keeper.up up), (sink_kept reason budget turns old new status none ends, tt)))

pub serves : (budget : ℕ) (link link' : LinkSeen) (k l m : KeeperSeen) (a b c : SinkSeen) (reason : Stop) (first last : Desk) (status : ℕ)
    → Rests k → Opened first k l → first.held ≡ held_at_start
    → Served reason budget first last (world_of link l a) (world_of link' m b) → Ended reason status b c → ServesAsOffice budget (world_of link k a) (world_of link' m c) status
serves budget link link' k l m a b c reason first last status rests opened fresh served ended =
    let ends = ends_of reason budget served.turns link link' l k m a b c status served.stops ended in
    let office = ran_office rests opened fresh served.office in
    let complete =
    complete_of reason budget served.turns served.moments last.held (world_of link k a) (world_of link' m c) status served.ran office ends in
    inr (record {
      reason = reason;
      turns = served.turns;
      held = last.held;
      opens = opened.opens;
      within = served.within;
      ends_last = served.ends_last;
      moments = served.moments;
      ran = served.ran;
      office = office;
      good = good_again opened served.office;
      leases = λ t told. leases_hold_through (start (migrated t)) served.turns (opened_good opened t told);
      devices = λ t told. devices_hold_over_runs (start (migrated t)) served.turns (opened_good opened t told);
      files = λ t told. files_of_runs (start (migrated t)) _ served.turns (office.run.each t told).fits;
      modems = λ t told. modems_are_served (start (migrated t)) served.turns (opened_good opened t told);
      served_devices = λ t told. devices_are_served (start (migrated t)) served.turns (opened_good opened t told);
      isolated = λ t told. isolation.isolated (start (migrated t)) _ served.turns (office.run.each t told).fits refl;
      imports = λ t told. imports_act_once_through (start (migrated t)) _ served.turns (office.run.each t told).fits;
      ends = ends;
      writes = ended_writes reason status b c ended ∙ ap (own_writes reason) served.writes;
      up = all_kept reason budget served.turns served.moments last.held (world_of link k a) (world_of link' m c) status served.ran office ends;
      complete = complete;
      all_modems = λ t told. each_served served.turns (world_of link k a) (world_of link' m c) status (migrated t) (opened_good opened t told) complete;
      all_devices = λ t told. each_device_served served.turns (world_of link k a) (world_of link' m c) status (migrated t) (opened_good opened t told) complete;
    })

pub stays_closed : (budget : ℕ) (link : LinkSeen) (k l : KeeperSeen) (a b : SinkSeen) (why : StartErr) (status : ℕ) → NotStarted why k l → Tells (closed_end why) status a b
    → ServesAsOffice budget (world_of link k a) (world_of link l b) status
stays_closed budget link k l a b why status tables told =
    let same = link_unasked link in
    inl (ends_by why (tables, same) told (λ none. none.1.1.0) (λ none. closed_status why (2 ∷ 6 ∷ []) k l tables none.1.0 (0, omega arith, refl) (1, omega arith, refl))
    (λ none. (same.up, (closed_kept why k l tables none.1.0, (told_kept told none.1.1.0, tt)))))

-- the words that were read are those of the book
pub by_words : (P : Type 0) (Q : Job → Type 0) (form : Job) (words : Option Job) → Some form ≡ words → Q form → MatchOption words P Q
by_words P Q form words is q = subst (λ w. MatchOption w P Q) is q
