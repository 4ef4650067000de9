-- How the office came from its first state by the turns so far, with one turn more.
use Rattle.std.proofs.Common.{◌≡◌, ℕ, ◌⊎◌, false, List, [], ◌∷◌, ◌++◌, length, refl, sym, ap, ◌∙◌, subst, inl, inr, arith, length-append}
use Rattle.std.proofs.lemmas.List.Elements.{All-push}
use Rattle.off_defs.specs.declared.events.Event.{Event}
use Rattle.off_defs.specs.declared.results.Outcome.{Outcome}
use Rattle.off_defs.specs.declared.results.Outcome.TheVariants.{Did, Memory, Keeper}
use Rattle.off_defs.specs.Counts.{Tallied, commits_after}
use Rattle.off_defs.specs.State.{Tables, State, state_of}
use Rattle.off_book.specs.Step.{Step}
use Rattle.off_book.specs.Run.{Turn, TellsItsOutcome, keeper_failures, effect_of}
use Rattle.off_defs.proofs.ToldLemmas.{told_then, then_stays}
use Rattle.off_defs.proofs.CountLemmas.{tallied_then, tallied_stays}
use Rattle.off_book.specs.Crashes.{Begins, unless_memory, turn_steps, Saves, SafeWhenSent}
use Rattle.off_book.proofs.CrashLemmas.{doubts_by, unless_more}
use Rattle.off_book.proofs.SavesLemmas.{OnlyReads, Onward, saves_stay}
use Rattle.off_book.proofs.StepSaved.{OneStep, step_done}
use Rattle.off_book.proofs.SentLemmas.{sent_more, sent_push}
use Rattle.off_book.proofs.RunLemmas.{run_push, failures_by_push, commits_by_push}
use Rattle.off_outside.specs.KeeperSeen.{KeeperSeen, Rests}
use Rattle.off_laws.proofs.StepLaws.{step_good}
use Rattle.off_office.specs.Desk.{Desk}
use Rattle.off_outside.specs.KeeperCalls.{Unasked, Still}
use Rattle.off_outside.proofs.KeeperLemmas.{unasked_stays}
use Rattle.off_office.specs.Conditions.{Mirrors}
use Rattle.off_office.specs.Acting.{CountsFaults, EventBegan}
use Rattle.off_turns.specs.Serving.{OfficeTurn}
use Rattle.off_turns.specs.Loop.{KeeperRan, SavesIn, RanFrom}
use Rattle.off_office.proofs.UpLemmas.{up_chain}

-- the count of a turn by its outcome
turn_tallied : (outcome : Outcome) (a b : ℕ) → CountsFaults outcome a b → Tallied (keeper_failures outcome) a b
turn_tallied Did a b same = record { grew = record { later = omega (arith, same); grew = omega (arith, same) }; stands = λ none. same }
turn_tallied Memory a b tallied = tallied
turn_tallied Keeper a b tallied = tallied

pub keeper_push : (turns : List Turn) (turn : Turn) (before after : Desk) (a b c : KeeperSeen) → KeeperRan [] turns a b → OfficeTurn turn before after b c
    → KeeperRan [] (turns ++ turn ∷ []) a c
keeper_push turns turn before after a b c ran made =
    let tallied = turn_tallied turn.outcome b.faults c.faults made.faults in
    record {
      faults = subst (λ n. Tallied n a.faults c.faults) (sym (failures_by_push turns turn)) (tallied_then ran.faults tallied);
      commits = made.commits ∙ (ap (commits_after turn.commit) ran.commits ∙ sym (commits_by_push turns turn a.commits));
      up = up_chain ran.faults.grew.later tallied.grew.later ran.up made.up;
    }

-- calls that ask nothing of the keeper
pub keeper_same : (turns : List Turn) (a b c : KeeperSeen) → KeeperRan [] turns a b → Unasked b c → KeeperRan [] turns a c
keeper_same turns a b c ran same = record {
  faults = tallied_stays ran.faults same.quiet.faults;
  commits = same.quiet.commits ∙ ran.commits;
  up = up_chain ran.faults.grew.later (omega (arith, same.quiet.faults)) ran.up (λ up. inl (same.quiet.up up));
}

-- calls that only read
only_reads : (b c : KeeperSeen) → Still b c → OnlyReads b.opened c.opened b.doubt c.doubt b.moment c.moment
only_reads b c still = record { later = still.later; past = still.past; within = still.within; doubts = still.doubts }

-- what a turn may have begun
begun_so : (event : Event) (outcome : Outcome) (before : Desk) (y : Tables) (doubt : Type 0) (u : Tables) → Mirrors before y
    → (u ≡ y) ⊎ (doubt ⊎ EventBegan event outcome before y u) → (u ≡ y) ⊎ (doubt ⊎ unless_memory outcome (Begins (state_of y before.held) event u))
begun_so event outcome before y doubt u agree (inl same) = inl same
begun_so event outcome before y doubt u agree (inr (inl is)) = inr (inl is)
begun_so event outcome before y doubt u agree (inr (inr began)) = inr (inr (unless_more outcome (λ begun. begun agree) began))

-- what is told of a crash within a turn
one_turn : (turn : Turn) (before after : Desk) (b c : KeeperSeen) → Rests c → OfficeTurn turn before after b c → (y z : Tables) → b.tables y → c.tables z → Mirrors before y
    → OneStep turn_steps false false b.opened c.opened b.doubt c.doubt b.moment c.moment (state_of y before.held) (state_of z after.held) turn
one_turn turn before after b c rests made y z told now agree = record {
  later = made.crash.later;
  past = made.crash.past;
  within = λ m u behind upto opened. begun_so turn.event turn.outcome before y (b.doubt u) u agree (made.crash.within y told m u behind upto opened);
  doubts = λ u ends. doubts_by turn_steps b.doubt (state_of y before.held) turn u (λ begun. begun agree) (made.doubts y told u ends);
  rests = λ u opened. rests z now u opened;
  clears = λ none. inl refl;
}

-- after one turn more, which begins no writes that wait, all are safe, so also when its items are sent
saves_push : {turns : List Turn} {moments : List ℕ} {a b : KeeperSeen} {s mid : State} (so_far : SavesIn a b s turns moments mid) (turn : Turn) (c : KeeperSeen) (last : State)
    → Step mid turn.event turn.outcome (effect_of turn last) → OneStep turn_steps false false b.opened c.opened b.doubt c.doubt b.moment c.moment mid last turn
    → SavesIn a c s (turns ++ turn ∷ []) (moments ++ c.moment ∷ []) last
saves_push {turns} {moments} {a} {b} {s} {mid} so_far turn c last step one =
    let more = step_done so_far.saves c.opened c.doubt c.moment last turn (run_push s turns mid last turn so_far.saves.run step) one in
    let all : more.next.safe c.moment ≡ length (turns ++ turn ∷ []) = more.next.all refl in
    record {
      saves = more.next;
      sent = sent_push more.next.safe 0 turns moments turn c.moment (λ did. omega (arith, all, length-append turns (turn ∷ [])))
          (sent_more so_far.saves.safe more.next.safe 0 turns moments more.keeps so_far.sent);
    }

-- and after calls that only read
saves_same : {turns : List Turn} {moments : List ℕ} {a b : KeeperSeen} {s last : State} (so_far : SavesIn a b s turns moments last) (c : KeeperSeen) → Still b c → SavesIn a c s turns moments last
saves_same {turns} {moments} {a} {b} so_far c still =
    let more = saves_stay so_far.saves c.opened c.doubt c.moment (only_reads b c still) in
    record { saves = more.next; sent = sent_more so_far.saves.safe more.next.safe 0 turns moments more.keeps so_far.sent }

-- the office goes on by one turn
pub from_push : {turns : List Turn} {moments : List ℕ} {turn : Turn} {first before after : Desk} {a b c : KeeperSeen} → Rests c → RanFrom turns moments first before a b → OfficeTurn turn before after b c
    → RanFrom (turns ++ turn ∷ []) (moments ++ c.moment ∷ []) first after a c
from_push {turns} {moments} {turn} {first} {before} {after} {a} {b} {c} rests ran made = record {
  run = record {
    each = λ x told.
        let g = ran.run.each x told in
        let h = made.tables.each g.value g.told in
        record {
          value = h.value;
          told = h.told;
          fits = record {
            holds = λ fits.
                let half = g.fits.holds fits in
                let step = h.fits.holds half.1.mirrors in (
                  saves_push half.0 turn c (state_of h.value after.held) step (one_turn turn before after b c rests made g.value h.value g.told h.told half.1.mirrors),
                  record {
                    good = step_good (state_of g.value before.held) turn.event turn.outcome (effect_of turn (state_of h.value after.held)) step half.1.good;
                    mirrors = h.fits.stays half.1;
                  },
                );
          };
        };
  };
  past = λ m u early opened. ran.past m u early (made.crash.past m u (omega (arith, early, ran.later)) opened);
  later = omega (arith, ran.later, made.crash.later);
  fits = told_then ran.fits made.fits (λ x y z so_far next fits. next (so_far fits));
  keeper = keeper_push turns turn before after a b c ran.keeper made;
  tell = All-push TellsItsOutcome turns turn ran.tell made.tells;
}

pub from_same : {turns : List Turn} {moments : List ℕ} {first before after : Desk} {a b c : KeeperSeen} → RanFrom turns moments first before a b → after ≡ before → Unasked b c
    → RanFrom turns moments first after a c
from_same {turns} {moments} {first} {before} {after} {a} {b} {c} ran same keeper =
    subst (λ (v : Desk). RanFrom turns moments first v a c) (sym same)
    (record {
      run = record {
        each = λ x told.
            let g = ran.run.each x told in
            record {
              value = g.value;
              told = keeper.tables g.value g.told;
              fits = record {
                holds = λ agree. let half = g.fits.holds agree in (
                  saves_same half.0 c keeper.quiet.still,
                  half.1,
                );
              };
            };
      };
      past = λ m u early opened. ran.past m u early (keeper.quiet.still.past m u (omega (arith, early, ran.later)) opened);
      later = omega (arith, ran.later, keeper.quiet.still.later);
      fits = then_stays ran.fits (unasked_stays keeper);
      keeper = keeper_same turns a b c ran.keeper keeper;
      tell = ran.tell;
    })
