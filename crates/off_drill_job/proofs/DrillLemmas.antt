-- From what was founded and exercised to what `drill` promises.
use Rattle.std.proofs.Common.{◌≡◌, ◌≢◌, ℕ, ◌≤◌, ◌⊎◌, true, false, Option, Some, None, is_some, List, [], ◌∷◌, ◌++◌, length, append-nil, refl, sym, ap, subst, ◌∙◌, inl, inr, arith}
use Rattle.std.specs.Prelude.{Contains}
use Rattle.std.proofs.lemmas.List.Elements.{All-nil}
use Rattle.std.specs.FinMap as map
use Rattle.std.specs.List.{find}
use Rattle.off_defs.specs.declared.keys.Key.{Key}
use Rattle.off_defs.specs.declared.tables.Row.{Row}
use Rattle.off_defs.specs.declared.results.Outcome.TheVariants.{Did}
use Rattle.off_defs.specs.Counts.{Grew, Tallied}
use Rattle.off_defs.specs.Keys.{key_cmp}
use Rattle.off_defs.specs.State.{Tables, State, Held, state_of, held_at_start}
use Rattle.off_defs.specs.Tables.{is_after, next_entry}
use Rattle.off_defs.proofs.ToldLemmas.{told_then, told_weaker}
use Rattle.off_defs.specs.Told.{Told}
use Rattle.off_account_rules.specs.Good.{IsLeastBad}
use Rattle.off_account_rules.specs.Migration.{migrated}
use Rattle.off_book.specs.Run.{Turn}
use Rattle.off_outside.specs.declared.keeper.KeepErr.{KeepErr}
use Rattle.off_outside.specs.declared.keeper.KeepErr.TheVariants as keep
use Rattle.off_outside.specs.KeeperSeen.{KeeperSeen, Rests}
use Rattle.off_outside.specs.KeeperCalls.{Reads, NotDone, StaysUp}
use Rattle.off_outside.specs.LinkSeen.{LinkSeen}
use Rattle.off_outside.specs.Streams.{SinkSeen}
use Rattle.off_outside.proofs.KeeperLemmas.{reads_as, tallied_behind}
use Rattle.off_jobs.specs.Ending.{Tells}
use Rattle.off_jobs.specs.Health.{Stood}
use Rattle.off_jobs.proofs.EndingLemmas.{stands, kept, told_whole, sink_kept, ends_by}
use Rattle.off_office.specs.Opening.{OpensTo}
use Rattle.off_office.specs.Conditions.{Fits, Opened}
use Rattle.off_office.specs.Opening.{SavesOpened}
use Rattle.off_office.specs.Given.{job_steps}
use Rattle.off_office.proofs.OpeningLemmas.{leaves_opening, doubts_opened, empty_before, empty_stays}
use Rattle.off_book.specs.Crashes.{Saves}
use Rattle.off_book.proofs.SavesLemmas.{OnlyReads, saves_none, saves_doubt, saves_stay}
use Rattle.off_office.specs.Closed.{SameOrGood}
use Rattle.off_office.proofs.ClosedLemmas.{closed_status, closed_kept, closed_same}
use Rattle.off_office.proofs.OpeningLemmas.{opens_then}
use Rattle.off_office.specs.Desk.{Desk}
use Rattle.off_office.specs.declared.office.StartErr.TheVariants as start_err
use Rattle.off_office.proofs.UpLemmas.{up_chain}
use Rattle.off_drill_rules.specs.declared.tally.Tally.{Tally}
use Rattle.off_drill_rules.specs.Rows.{begins_at, peopled, drill_tables}
use Rattle.off_drill_rules.specs.Law.{FrontDrill, held_behind, drill_state}
use Rattle.off_drill_rules.specs.Numbers.{none_yet, tally_by, drill_tally}
use Rattle.off_drill_laws.specs.Stages.{Waits, Along}
use Rattle.off_drill_laws.proofs.StageLemmas.{same_tally}
use Rattle.off_drill_laws.proofs.LawLemmas.{drill_law, drill_is_there}
use Rattle.off_drill_laws.proofs.AlongLemmas.{whole_of, front_of}
use Rattle.off_office.specs.Given.{Given}
use Rattle.off_drill_job.specs.Stepping.{commands_of, KeeperDid}
use Rattle.off_drill_parts.specs.Commands.{founding}
use Rattle.off_drill_job.specs.Founding.{Builds, GaveFront, Halts}
use Rattle.off_drill_job.specs.Exercising.{Exercised, Stopped}
use Rattle.off_drill_parts.specs.Tallying.{raised_by}
use Rattle.off_drill_job.specs.Telling.{drill_end}
use Rattle.off_drill_job.specs.Drilling.{FindsRows, LeavesDrill, GaveAll, Ends, DoneBy, BrokenBy, GoesOn, Drills}
use Rattle.off_drill_job.specs.declared.drilling.Ended.{Ended}
use Rattle.off_drill_job.specs.declared.drilling.Ended.TheVariants.{Closed, NotEmpty, Broken, Done}
use Rattle.off_drill_parts.proofs.CommandLemmas.{no_entries}
use Rattle.off_drill_job.proofs.CrashLemmas.{keeper_turns, keeper_opened}
use Rattle.off_drill_job.proofs.FoundingLemmas.{gave_none}
use Rattle.off_drill_job.proofs.TurnLemmas.{tried_none}
use Rattle.off_drill_job.proofs.LinkLemmas.{link_unasked, sent_nothing}

-- ---- tables without rows

none_of : (es : List (Key × Row)) → find (is_after None) es ≡ None → es ≡ []
none_of [] e = refl
none_of (entry ∷ es) e = cc

no_rows : (t : Tables) → next_entry None t ≡ None → t ≡ map.empty
no_rows t e = map.empty_of_len t (map.len-entries t ∙ ap length (none_of (map.entries t) e))

some_rows : (t : Tables) (entry : Key × Row) → next_entry None t ≡ Some entry → t ≢ map.empty
some_rows t entry e is =
    let none : next_entry None t ≡ None = ap (next_entry None) is ∙ ap (find (is_after None)) no_entries in
    let f : Some entry ≡ None = sym e ∙ none in cc

pub finds : (entry : Option (Key × Row)) (a b : KeeperSeen) → Reads (λ t. entry ≡ next_entry None t) a b → FindsRows (is_some entry) a b
finds None a b reads = reads_as reads (λ t e. no_rows t (sym e))
finds (Some entry) a b reads = reads_as reads (λ t e. some_rows t entry (sym e))

-- ---- an office that was founded

founded_state : (n : ℕ) (t : Tables) (h : Held) → t ≡ peopled n → h ≡ held_behind 0 → state_of t h ≡ drill_state n 0
unfolding drill_tables
founded_state n t h tables held = λ j. state_of (tables j) (held j)

front_none : (n : ℕ) → n ≤ 4000 → FrontDrill n []
front_none n few = let there = drill_is_there n few in record { more = there.0; last = there.1.0; whole = there.1.1 }

small : (n : ℕ) → n ≤ 4000 → raised_by none_yet (drill_tally n) ≡ drill_tally n
small n few = same_tally (raised_by none_yet (drill_tally n)) (drill_tally n) (omega (arith, few)) (omega (arith, few)) (omega (arith, few)) (omega (arith, few)) (omega (arith, few))

leaves : (n : ℕ) → n ≤ 4000 → (turns : List Turn) (tally : Tally) (s u : State) → tally ≡ raised_by none_yet (tally_by turns) → s ≡ drill_state n 0
    → Along n (Waits 0) (Waits n) turns s u → LeavesDrill n turns tally u.tables
leaves n few turns tally s u counts start along =
    let whole = whole_of n turns u (subst (λ (v : State). Along n (Waits 0) (Waits n) turns v u) start along) in
    let law = drill_law n turns u few whole in
    record {
      last = u;
      whole = whole;
      tables = ap (λ (v : State). v.tables) law.0;
      numbers = counts ∙ ap (raised_by none_yet) law.1 ∙ small n few;
    }

pub done_by : (n : ℕ) → n ≤ 4000 → (d e f : Desk) (i j k : KeeperSeen) (l m : LinkSeen) (none tally : Tally) → none ≡ none_yet → Builds (founding n) map.empty (peopled n) d e i j → e.held ≡ held_behind 0
    → Exercised n (Waits 0) (Waits n) e f j k l m none tally → DoneBy n tally d i k l m
done_by n few d e f i j k l m none tally nothing built held ran =
    let counts : tally ≡ raised_by none_yet (tally_by ran.turns) = ran.counts ∙ ap (λ (v : Tally). raised_by v (tally_by ran.turns)) nothing in
    record {
      after = f;
      given = built.given;
      gave = record { did = built.did; are = built.are };
      turns = ran.turns;
      did = ran.did;
      tables = told_then built.tables ran.tables (λ x y z one two fit is.
          let half = one fit in
          let whole = two half.0 in
          let start = founded_state n y e.held (half.1 is) held in
          (whole.0.good, leaves n few ran.turns tally (state_of y e.held) (state_of z f.held) counts start (whole.1 start)));
      up = up_chain (let q = built.faults in omega (arith, q)) (let q = ran.faults in omega (arith, q)) (λ up. inl (built.up up)) ran.up;
      faults = ran.faults ∙ built.faults;
      keeper = keeper_turns built.keeper ran.keeper;
      sent = ran.sent;
      counts = counts;
    }

-- no command was lost
front_all : {n : ℕ} {given : List Given} → GaveAll n given → GaveFront (founding n) given []
front_all {n} {given} gave = record {
  did = gave.did;
  few = omega arith;
  undone = All-nil (λ (one : Given). one.outcome ≢ Did);
  rest = [];
  front = append-nil (commands_of (given ++ [])) ∙ ap commands_of (append-nil given) ∙ gave.are;
}

pub broken_by : (n : ℕ) → n ≤ 4000 → (err : KeepErr) (d e : Desk) (i j k : KeeperSeen) (l m : LinkSeen) → Builds (founding n) map.empty (peopled n) d e i j → e.held ≡ held_behind 0
    → Stopped err n (Waits 0) e j k l m → BrokenBy err n d i k l m
broken_by n few err d e i j k l m built held stops =
    let gave : GaveAll n built.given = record { did = built.did; are = built.are } in
    record {
      after = stops.after;
      given = built.given;
      lost = [];
      turns = stops.turns;
      tried = stops.tried;
      came = record { gave = front_all gave; did = stops.did; one = stops.one; order = inr (refl, gave) };
      tables = told_then built.tables stops.tables (λ x y z one two fit.
          let half = one fit in
          let whole = two half.0 in (
            whole.0,
            λ is.
                let start = founded_state n y e.held (half.1 is) held in
                let part = whole.1 start in
                front_of n few part.stage stops.turns part.mid part.place (subst (λ (v : State). Along n (Waits 0) part.stage stops.turns v part.mid) start part.along),
          ));
      up = up_chain (let q = built.faults in omega (arith, q)) stops.faults.grew.later (λ up. inl (built.up up)) stops.up;
      faults = tallied_behind built.faults stops.faults;
      keeper = subst (λ (v : List Given). KeeperDid v (stops.turns ++ stops.tried) d stops.after i k) (sym (append-nil built.given)) (keeper_turns built.keeper stops.keeper);
      sent = stops.sent;
    }

pub broken_before : (n : ℕ) → n ≤ 4000 → (err : KeepErr) (d : Desk) (i j : KeeperSeen) (l : LinkSeen) → Halts err (founding n) d i j → BrokenBy err n d i j l l
broken_before n few err d i j l halts = record {
  after = halts.after;
  given = halts.given;
  lost = halts.lost;
  turns = [];
  tried = [];
  came = record { gave = halts.gave; did = All-nil (λ (t : Turn). t.outcome ≡ Did); one = tried_none; order = inl refl };
  tables = told_weaker halts.tables (λ t u good fit. (good fit, λ is. front_none n few));
  up = halts.up;
  faults = halts.faults;
  keeper = halts.keeper;
  sent = sent_nothing l;
}

-- ---- the tables were opened

pub ends_with_rows : (n : ℕ) (d : Desk) (i j k : KeeperSeen) (l : LinkSeen) → Rests i → Opened d i j → FindsRows true j k → Ends NotEmpty n i k l l
ends_with_rows n d i j k l rests opened finds = (opens_then rests opened finds (λ u fit differs. (fit.good, differs)), link_unasked l)

-- what stays up, or is counted, behind an opening
up_behind : {P : Tables → Type 0} {i k : KeeperSeen} (o : KeeperSeen) → OpensTo P i k → StaysUp k o → StaysUp i o
up_behind {P} {i} {k} o opened stays = λ up. subst (λ n. o.up ⊎ Grew 1 n o.faults) opened.settled.faults (stays (opened.settled.up up))

tallied_after : {P : Tables → Type 0} {n : ℕ} {i k : KeeperSeen} (o : KeeperSeen) → OpensTo P i k → Tallied n k.faults o.faults → Tallied n i.faults o.faults
tallied_after {P} {n} {i} {k} o opened tallied = subst (λ m. Tallied n m o.faults) opened.settled.faults tallied

-- what a crash leaves where no command was given
none_given : {d : Desk} {err : KeepErr} (i j k : KeeperSeen) → Rests i → Rests j → (opened : Opened d i j) → NotDone err j k → (t : Tables) (told : i.tables t)
    → SavesOpened (job_steps begins_at) i k t [] (state_of (opened.tables.each t told).value held_at_start)
none_given i j k rests rests_on opened not t told =
    let o = opened.tables.each t told in
    let reads : OnlyReads j.opened k.opened j.doubt k.doubt j.moment k.moment = record { later = not.still.later; past = not.still.past; within = not.still.within; doubts = not.still.doubts } in
    let saves = (saves_stay (saves_none {steps = job_steps begins_at} (state_of o.value held_at_start) refl (rests_on o.value o.told)) k.opened k.doubt k.moment reads).next in
    record {
      at = j.moment;
      opening = leaves_opening rests opened not.still.past t told;
      saves = saves_doubt (doubts_opened opened t told)
          (subst (λ (v : Tables). Saves (job_steps begins_at) j.doubt j.moment (state_of v held_at_start) [] k.opened k.doubt false k.moment (state_of o.value held_at_start)) o.fits.0 saves);
    }

pub ends_unread : (n : ℕ) → n ≤ 4000 → (err : KeepErr) (d : Desk) (i j k : KeeperSeen) (l : LinkSeen) → Rests i → Rests j → Opened d i j → NotDone err j k → Ends (Broken err) n i k l l
ends_unread n few err d i j k l rests rests_on opened not = record {
  opens = opened.opens;
  given = [];
  lost = [];
  turns = [];
  tried = [];
  came = record { gave = gave_none (founding n); did = All-nil (λ (t : Turn). t.outcome ≡ Did); one = tried_none; order = inl refl };
  tables = record {
    each = λ t told.
        let here = opened.tables.each t told in
        record { value = here.value; told = not.tables here.value here.told; fits = (here.fits.1.good, front_none n few) };
  };
  up = up_behind k opened not.up;
  faults = tallied_after k opened not.faults;
  keeper = record {
    first = opened.writes;
    are = opened.are;
    commits = not.commits ∙ opened.settled.commits;
    crash = record {
      each = λ t told.
          let o = opened.tables.each t told in
          record {
            value = o.value;
            told = not.tables o.value o.told;
            fits = (held_at_start, none_given i j k rests rests_on opened not t told);
          };
    };
  };
  sent = sent_nothing l;
}

pub ends_going : (ended : Ended) (n : ℕ) (d : Desk) (i j k o : KeeperSeen) (l m : LinkSeen) → Rests i → d.held ≡ held_at_start → Opened d i j → FindsRows false j k
    → GoesOn ended n d k o l m → Ends ended n i o l m
ends_going (Closed err) n d i j k o l m rests begins opened finds goes = absurd goes
ends_going NotEmpty n d i j k o l m rests begins opened finds goes = absurd goes
ends_going (Broken err) n d i j k o l m rests begins opened finds goes =
    let both = opens_then {R = λ u. Fits d u × (u ≡ map.empty)} rests opened finds (λ u fit is. (fit, is)) in
    record {
      opens = both.opens;
      given = goes.given;
      lost = goes.lost;
      turns = goes.turns;
      tried = goes.tried;
      came = goes.came;
      tables = record {
        each = λ t told.
            let here = both.tables.each t told in
            let g = goes.tables.each here.value here.told in
            let p = g.fits here.fits.1.0 in
            record { value = g.value; told = g.told; fits = (p.0, p.1 here.fits.1.1) };
      };
      up = up_behind o both goes.up;
      faults = tallied_after o both goes.faults;
      keeper = keeper_opened rests begins both (λ u p. p.0) goes.keeper;
      sent = goes.sent;
    }
ends_going (Done tally) n d i j k o l m rests begins opened finds goes =
    let both = opens_then {R = λ u. Fits d u × (u ≡ map.empty)} rests opened finds (λ u fit is. (fit, is)) in
    record {
      given = goes.given;
      gave = goes.gave;
      turns = goes.turns;
      did = goes.did;
      tables = record {
        each = λ t told.
            let here = both.tables.each t told in
            let g = goes.tables.each here.value here.told in
            record { value = g.value; told = g.told; fits = (empty_before t (sym here.fits.0 ∙ here.fits.1.1), g.fits here.fits.1.0 here.fits.1.1) };
      };
      up = up_behind o both goes.up;
      faults = goes.faults ∙ both.settled.faults;
      keeper = keeper_opened rests begins both (λ u p. p.0) goes.keeper;
      sent = goes.sent;
      counts = goes.counts;
    }

-- ---- the statuses

few_of : (ended : Ended) (n : ℕ) (k k' : KeeperSeen) (l m : LinkSeen) → Ends ended n k k' l m → Stood k.faults k'.faults → Contains (0 ∷ 2 ∷ 6 ∷ 9 ∷ []) (drill_end n ended).status
few_of (Closed err) n k k' l m ends stood = closed_status err (0 ∷ 2 ∷ 6 ∷ 9 ∷ []) k k' ends.0 stood (1, omega arith, refl) (2, omega arith, refl)
few_of NotEmpty n k k' l m ends stood = (3, omega arith, refl)
few_of (Broken keep.Failed) n k k' l m ends stood = absurd (stands stood ends.faults.grew)
few_of (Broken keep.Memory) n k k' l m ends stood = (2, omega arith, refl)
few_of (Done tally) n k k' l m ends stood = (0, omega arith, refl)

keeper_kept : (ended : Ended) (n : ℕ) (k k' : KeeperSeen) (l m : LinkSeen) → Ends ended n k k' l m → Stood k.faults k'.faults → k.up → k'.up
keeper_kept (Closed err) n k k' l m ends stood up = closed_kept err k k' ends.0 stood up
keeper_kept NotEmpty n k k' l m ends stood up = ends.0.settled.up up
keeper_kept (Broken err) n k k' l m ends stood up = kept stood (ends.up up)
keeper_kept (Done tally) n k k' l m ends stood up = kept stood (ends.up up)

never_bad : (key : Key) → IsLeastBad map.empty key → ⊥
never_bad key bad = let f : Some bad.held ≡ None = sym bad.there ∙ map.get-empty key_cmp key in cc

done_of : (ended : Ended) (n status : ℕ) (k k' : KeeperSeen) (l m : LinkSeen) → Ends ended n k k' l m → k.tables map.empty → Stood k.faults k'.faults → status ≢ 6
    → status ≡ (drill_end n ended).status → status ≡ 0
done_of (Closed (start_err.Bad key)) n status k k' l m ends told stood other is = absurd (never_bad key (ends.0.tables map.empty told).1)
done_of (Closed start_err.Failed) n status k k' l m ends told stood other is = absurd (stands stood ends.0.faults.grew)
done_of (Closed start_err.Memory) n status k k' l m ends told stood other is = absurd (other is)
done_of NotEmpty n status k k' l m ends told stood other is =
    let o = ends.0.tables.each map.empty told in
    absurd (o.fits.1.1 (o.fits.0 ∙ empty_stays))
done_of (Broken keep.Failed) n status k k' l m ends told stood other is = absurd (stands stood ends.faults.grew)
done_of (Broken keep.Memory) n status k k' l m ends told stood other is = absurd (other is)
done_of (Done tally) n status k k' l m ends told stood other is = is

-- whatever became of it, the tables are as before or good
good_of : (ended : Ended) (n : ℕ) (k k' : KeeperSeen) (l m : LinkSeen) → Ends ended n k k' l m → Told k.tables k'.tables SameOrGood
good_of (Closed err) n k k' l m ends = closed_same err k k' ends.0
good_of NotEmpty n k k' l m ends = told_weaker ends.0.tables (λ t u p. inr p.1.0)
good_of (Broken err) n k k' l m ends = told_weaker ends.tables (λ t u is. inr is.0)
good_of (Done tally) n k k' l m ends = told_weaker ends.tables (λ t u is. inr is.1.0)

pub drills_by : (ended : Ended) (n status : ℕ) (k k' : KeeperSeen) (l m : LinkSeen) (s s' : SinkSeen) → Ends ended n k k' l m → Tells (drill_end n ended) status s s'
    → Drills n status k k' l m s s'
drills_by ended n status k k' l m s s' ends told = record {
  ends =
      ends_by ended ends told (λ none. none.1.0) (λ none. few_of ended n k k' l m ends none.0) (λ none. (keeper_kept ended n k k' l m ends none.0, (sink_kept told none.1.0, tt)));
  good = good_of ended n k k' l m ends;
  complete = λ empty none other. done_of ended n status k k' l m ends empty none.0 other (told_whole told none.1.0).0;
}
