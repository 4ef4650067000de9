-- Turns of a drill: one, none, and several behind one another; and what an event that couldn't be
-- acted on leaves.
use Rattle.std.proofs.Common.{◌≡◌, ℕ, ◌+◌, ◌<◌, Bool, List, [], ◌∷◌, ◌++◌, refl, sym, ap, subst, ◌∙◌, inl, ◌⊎◌, arith, append_assoc}
use Rattle.std.proofs.lemmas.List.Elements.{All-nil, All-cons, All-append}
use Rattle.off_defs.specs.declared.events.Event.{Event}
use Rattle.off_defs.specs.declared.results.Outcome.TheVariants.{Did}
use Rattle.off_defs.specs.State.{State, state_of}
use Rattle.off_defs.proofs.ToldLemmas.{told_then, told_self, told_weaker}
use Rattle.off_book.specs.Step.{Step}
use Rattle.off_book.specs.Run.{Turn, effect_of}
use Rattle.off_outside.specs.declared.keeper.KeepErr.{KeepErr}
use Rattle.off_outside.specs.KeeperSeen.{KeeperSeen, Rests}
use Rattle.off_outside.specs.LinkSeen.{LinkSeen}
use Rattle.off_outside.proofs.KeeperLemmas.{tallied_behind}
use Rattle.off_office.specs.Desk.{Desk}
use Rattle.off_office.proofs.UpLemmas.{up_chain}
use Rattle.off_drill_rules.specs.declared.tally.Tally.{Tally}
use Rattle.off_drill_rules.specs.Numbers.{plus, none_yet, tally_of, tally_by}
use Rattle.off_drill_laws.specs.Stages.{Stage, Waits, Stands, served, Moves}
use Rattle.off_drill_laws.proofs.StageLemmas.{same_tally}
use Rattle.off_drill_laws.proofs.AlongLemmas.{along_none, along_one, along_then, tally_append}
use Rattle.off_drill_job.specs.Stepping.{KeeperDid}
use Rattle.off_drill_parts.specs.Tallying.{raised_by}
use Rattle.off_drill_job.specs.Exercising.{TookTurn, LosesTurn, Exercised, Stopped}
use Rattle.off_drill_parts.proofs.TallyLemmas.{raised_none, raised_then}
use Rattle.off_drill_job.proofs.CrashLemmas.{keeper_none, keeper_turns}
use Rattle.off_drill_job.proofs.LinkLemmas.{sent_nothing, sent_turns, sent_unasked}

-- ---- stages

pub exercised_none : (n : ℕ) (stage : Stage) (d : Desk) (k : KeeperSeen) (l : LinkSeen) (c : Tally) → Rests k → Exercised n stage stage d d k k l l c c
exercised_none n stage d k l c rests = record {
  turns = [];
  did = All-nil (λ (t : Turn). t.outcome ≡ Did);
  tables = told_self (λ t fit. (fit, λ stands. along_none n stage (state_of t d.held) stands));
  up = λ up. inl up;
  faults = refl;
  keeper = keeper_none d k rests;
  sent = sent_nothing l;
  counts = sym (raised_none c);
}

pub exercised_then : {n : ℕ} {from by to : Stage} {d e f : Desk} {i j k : KeeperSeen} {l m o : LinkSeen} {a b c : Tally} → Exercised n from by d e i j l m a b
    → Exercised n by to e f j k m o b c → Exercised n from to d f i k l o a c
exercised_then {n} {from} {by} {to} {d} {e} {f} {i} {j} {k} {l} {m} {o} {a} {b} {c} p q = record {
  turns = p.turns ++ q.turns;
  did = All-append (λ (t : Turn). t.outcome ≡ Did) p.turns q.turns p.did q.did;
  tables = told_then p.tables q.tables (λ x y z one two fit.
      let half = one fit in
      let whole = two half.0 in (
        whole.0,
        λ stands.
            let first = half.1 stands in
            along_then n from by to p.turns q.turns (state_of x d.held) (state_of y e.held) (state_of z f.held) first (whole.1 first.stands),
      ));
  up = up_chain (let e = p.faults in omega (arith, e)) (let e = q.faults in omega (arith, e)) p.up q.up;
  faults = q.faults ∙ p.faults;
  keeper = keeper_turns p.keeper q.keeper;
  sent = sent_turns p.sent q.sent;
  counts =
      q.counts
      ∙ ap (λ (v : Tally). raised_by v (tally_by q.turns)) p.counts
      ∙ raised_then a (tally_by p.turns) (tally_by q.turns)
      ∙ ap (raised_by a) (sym (tally_append p.turns q.turns));
}

one_by_one : (x : Tally) → plus x none_yet ≡ x
one_by_one x = same_tally (plus x none_yet) x (omega arith) (omega arith) (omega arith) (omega arith) (omega arith)

-- an event that is next at a stage
pub exercised_one : (n : ℕ) (from to : Stage) (event : Event) (words : List ℕ) (same : Bool) (d e : Desk) (i j : KeeperSeen) (l m : LinkSeen) (a b : Tally)
    → (one : TookTurn event words same d e i j l m a b)
    → ((s u : State) → Stands n from s → Step s event Did (effect_of one.turn u) → (line : List ℕ) × Moves n from to event line one.turn.said u)
    → Exercised n from to d e i j l m a b
exercised_one n from to event words same d e i j l m a b one moves = record {
  turns = one.turn ∷ [];
  did = All-cons (λ (t : Turn). t.outcome ≡ Did) one.turn [] one.did (All-nil (λ (t : Turn). t.outcome ≡ Did));
  tables = told_weaker one.tables (λ t u step fit.
      let both = step fit in (
        both.0,
        λ stands.
            let moved = moves (state_of t d.held) (state_of u e.held) stands both.1 in
            along_one n from to event moved.0 one.turn (state_of t d.held) (state_of u e.held) one.event_is one.did both.1 moved.1,
      ));
  up = one.up;
  faults = one.faults;
  keeper = one.keeper;
  sent = one.sent;
  counts = one.counts ∙ ap (raised_by a) (sym (one_by_one (tally_of one.turn.said)));
}

-- an event whose line can't be so over the tables of the drill
pub exercised_never : (n : ℕ) (from to : Stage) (event : Event) (words : List ℕ) (same : Bool) (d e : Desk) (i j : KeeperSeen) (l m : LinkSeen) (a b : Tally)
    → (one : TookTurn event words same d e i j l m a b)
    → ((s u : State) → Stands n from s → Step s event Did (effect_of one.turn u) → ⊥)
    → Exercised n from to d e i j l m a b
exercised_never n from to event words same d e i j l m a b one never = record {
  turns = one.turn ∷ [];
  did = All-cons (λ (t : Turn). t.outcome ≡ Did) one.turn [] one.did (All-nil (λ (t : Turn). t.outcome ≡ Did));
  tables = told_weaker one.tables (λ t u step fit.
      let both = step fit in (both.0, λ stands. absurd (never (state_of t d.held) (state_of u e.held) stands both.1)));
  up = one.up;
  faults = one.faults;
  keeper = one.keeper;
  sent = one.sent;
  counts = one.counts ∙ ap (raised_by a) (sym (one_by_one (tally_of one.turn.said)));
}

-- turns that can't have come so far
pub exercised_past : {n : ℕ} {from by : Stage} (to : Stage) {d e : Desk} {i j : KeeperSeen} {l m : LinkSeen} {a b : Tally} → Exercised n from by d e i j l m a b
    → ((s : State) → Stands n by s → ⊥) → Exercised n from to d e i j l m a b
exercised_past to {e = e} p never = record {
  turns = p.turns;
  did = p.did;
  tables = told_weaker p.tables (λ t u is fit. let both = is fit in (both.0, λ stands. absurd (never (state_of u e.held) (both.1 stands).stands)));
  up = p.up;
  faults = p.faults;
  keeper = p.keeper;
  sent = p.sent;
  counts = p.counts;
}

-- ---- an event that couldn't be acted on

pub stopped_behind : {n : ℕ} {from by : Stage} {d e : Desk} {i j k : KeeperSeen} {l m o : LinkSeen} {a b : Tally} {err : KeepErr} → Exercised n from by d e i j l m a b
    → LosesTurn err e j k m o → (served by < n) ⊎ (by ≡ Waits n) → Stopped err n from d i k l o
stopped_behind {n} {from} {by} {d} {e} p lost place = record {
  after = lost.0.after;
  turns = p.turns;
  did = p.did;
  tried = lost.0.tried;
  one = lost.0.one;
  tables = told_then p.tables lost.0.tables (λ x y z one two fit.
      let half = one fit in (two half.0, λ stands. record { stage = by; mid = state_of y e.held; place = place; along = half.1 stands }));
  up = up_chain (let e = p.faults in omega (arith, e)) lost.0.faults.grew.later p.up lost.0.up;
  faults = tallied_behind p.faults lost.0.faults;
  keeper = keeper_turns p.keeper lost.0.keeper;
  sent = sent_unasked p.sent lost.1;
}

pub stopped_then : {n : ℕ} {from by : Stage} {d e : Desk} {i j k : KeeperSeen} {l m o : LinkSeen} {a b : Tally} {err : KeepErr} → Exercised n from by d e i j l m a b
    → Stopped err n by e j k m o → Stopped err n from d i k l o
stopped_then {n} {from} {by} {d} {e} {i} {j} {k} p stops = record {
  after = stops.after;
  turns = p.turns ++ stops.turns;
  did = All-append (λ (t : Turn). t.outcome ≡ Did) p.turns stops.turns p.did stops.did;
  tried = stops.tried;
  one = stops.one;
  tables = told_then p.tables stops.tables (λ x y z one two fit.
      let half = one fit in
      let whole = two half.0 in (
        whole.0,
        λ stands.
            let first = half.1 stands in
            let part = whole.1 first.stands in
            record {
              stage = part.stage;
              mid = part.mid;
              place = part.place;
              along = along_then n from by part.stage p.turns stops.turns (state_of x d.held) (state_of y e.held) part.mid first part.along;
            },
      ));
  up = up_chain (let e = p.faults in omega (arith, e)) stops.faults.grew.later p.up stops.up;
  faults = tallied_behind p.faults stops.faults;
  keeper = subst (λ (v : List Turn). KeeperDid [] v d stops.after i k) (sym (append_assoc p.turns stops.turns stops.tried)) (keeper_turns p.keeper stops.keeper);
  sent = sent_turns p.sent stops.sent;
}
