-- What commands and turns did to a keeper: one step, none, and several one after another.
use Rattle.std.proofs.Common.{◌≡◌, ◌≢◌, ℕ, Bool, ◌<◌, ◌≤◌, ◌⊎◌, false, List, [], ◌∷◌, ◌++◌, map, refl, sym, ap, subst, ◌∙◌, inl, inr, arith, append_assoc, append-nil}
use mathlib.Core.Logic.{⊎_map}
use Rattle.std.specs.Prelude.{IsTrue}
use Rattle.off_orders.specs.declared.orders.Command.{Command}
use Rattle.off_orders.specs.declared.orders.Reply.{Reply}
use Rattle.off_defs.specs.declared.writes.Write.{Write}
use Rattle.off_defs.specs.declared.events.Event.{Event}
use Rattle.off_defs.specs.declared.results.Outcome.{Outcome}
use Rattle.off_defs.specs.declared.results.Outcome.TheVariants.{Did}
use Rattle.off_defs.specs.Counts.{commits_after}
use Rattle.off_defs.specs.State.{Tables, State, Said, state_of, held_at, held_at_start}
use Rattle.off_defs.proofs.ToldLemmas.{told_then}
use Rattle.off_orders.specs.Clerk.{Stepped, clerk_step, step_done}
use Rattle.off_orders.specs.Sound.{is_sound}
use Rattle.off_order_laws.specs.Laws.{secret_fits}
use Rattle.off_order_laws.proofs.StepLaws.{step_keeps_good}
use Rattle.off_account_rules.specs.Good.{Good}
use Rattle.off_book.specs.Step.{completed}
use Rattle.off_book.specs.Run.{Turn, commits_by}
use Rattle.off_book.specs.Crashes.{Saves}
use Rattle.off_book.proofs.CrashLemmas.{unless_more, doubts_by}
use Rattle.off_book.proofs.SavesLemmas.{saves_none}
use Rattle.off_book.proofs.SavesThen.{saves_then}
use Rattle.off_book.proofs.StepSaved.{OneStep, step_done as step_saved}
use Rattle.off_laws.proofs.StepLaws.{step_good}
use Rattle.off_outside.specs.declared.keeper.KeepErr.{KeepErr}
use Rattle.off_outside.specs.declared.keeper.KeepErr.TheVariants as keep
use Rattle.off_outside.specs.KeeperSeen.{KeeperSeen, Rests}
use Rattle.off_outside.specs.KeeperCalls.{Reads, NotCommitted}
use Rattle.off_office.specs.Acting.{Acts}
use Rattle.off_office.specs.Answering.{Commanded, CommandBegins}
use Rattle.off_office.specs.Conditions.{Mirrors, Fits, StaysAs}
use Rattle.off_office.specs.Desk.{Desk}
use Rattle.off_office.specs.Given.{Given, JobStep, CommandStep, TurnStep, JobRun, job_steps}
use Rattle.off_office.specs.Opening.{OpensTo}
use Rattle.off_office.proofs.GivenLemmas.{job_append, OneCommand, one_command, one_commanded, one_refused, one_lost, saves_opened, done, undone}
use Rattle.off_office.proofs.MirrorLemmas.{fits_as}
use Rattle.off_drill_rules.specs.Rows.{begins_at}
use Rattle.off_drill_job.specs.Stepping.{commits_given, commands_of, book_writes, steps_of, KeeperDid, KeeperDrilled}

-- ---- lists

commits_append : (turns more : List Turn) (n : ℕ) → commits_by (turns ++ more) n ≡ commits_by more (commits_by turns n)
commits_append [] more n = refl
commits_append (turn ∷ turns) more n = commits_append turns more (commits_after turn.commit n)

given_append : (given more : List Given) (n : ℕ) → commits_given (given ++ more) n ≡ commits_given more (commits_given given n)
given_append [] more n = refl
given_append (one ∷ given) more n = given_append given more (commits_after one.commit n)

pub commands_append : (given more : List Given) → commands_of (given ++ more) ≡ commands_of given ++ commands_of more
commands_append [] more = refl
commands_append (one ∷ given) more = ap (λ (v : List Command). one.command ∷ v) (commands_append given more)

-- more turns after the steps so far, and more commands before any turn
turn_steps_append : (turns more : List Turn) → map TurnStep (turns ++ more) ≡ map TurnStep turns ++ map TurnStep more
turn_steps_append [] more = refl
turn_steps_append (turn ∷ turns) more = ap (λ (v : List JobStep). TurnStep turn ∷ v) (turn_steps_append turns more)

command_steps_append : (given more : List Given) → map CommandStep (given ++ more) ≡ map CommandStep given ++ map CommandStep more
command_steps_append [] more = refl
command_steps_append (one ∷ given) more = ap (λ (v : List JobStep). CommandStep one ∷ v) (command_steps_append given more)

turns_after : (given : List Given) (turns more : List Turn) → steps_of given turns ++ steps_of [] more ≡ steps_of given (turns ++ more)
turns_after given turns more =
    append_assoc (map CommandStep given) (map TurnStep turns) (map TurnStep more) ∙ ap (λ (v : List JobStep). map CommandStep given ++ v) (sym (turn_steps_append turns more))

commands_after : (given more : List Given) (turns : List Turn) → steps_of given [] ++ steps_of more turns ≡ steps_of (given ++ more) turns
commands_after given more turns =
    ap (λ (v : List JobStep). v ++ steps_of more turns) (append-nil (map CommandStep given))
    ∙ sym (append_assoc (map CommandStep given) (map CommandStep more) (map TurnStep turns))
    ∙ ap (λ (v : List JobStep). v ++ map TurnStep turns) (sym (command_steps_append given more))

-- ---- the keeper

pub keeper_none : (d : Desk) (k : KeeperSeen) → Rests k → KeeperDid [] [] d d k k
keeper_none d k rests = record {
  commits = refl;
  later = omega arith;
  past = λ m u early shown. shown;
  crash = record { each = λ t told. record { value = t; told = told; fits = record { holds = λ agree. (saves_none (state_of t d.held) refl (rests t told), agree) } } };
}

-- two runs of steps in a row are one
steps_then : (a b c : KeeperSeen) (x y z : State) (first second whole : List JobStep) → first ++ second ≡ whole → ((m : ℕ) (u : Tables) → m ≤ b.moment → c.opened m u → b.opened m u)
    → Saves (job_steps begins_at) a.doubt a.moment x first b.opened b.doubt false b.moment y → Saves (job_steps begins_at) b.doubt b.moment y second c.opened c.doubt false c.moment z
    → Saves (job_steps begins_at) a.doubt a.moment x whole c.opened c.doubt false c.moment z
steps_then a b c x y z first second whole is past one two =
    subst (λ (v : List JobStep). Saves (job_steps begins_at) a.doubt a.moment x v c.opened c.doubt false c.moment z) is
    (saves_then (λ front v run. job_append begins_at x first y front v one.run run) one past two)

pub keeper_turns : {given : List Given} {turns more : List Turn} {d e f : Desk} {a b c : KeeperSeen} → KeeperDid given turns d e a b → KeeperDid [] more e f b c
    → KeeperDid given (turns ++ more) d f a c
keeper_turns {given} {turns} {more} {d} {e} {f} {a} {b} {c} p q = record {
  commits = q.commits ∙ ap (commits_by more) p.commits ∙ sym (commits_append turns more (commits_given given a.commits));
  later = omega (arith, p.later, q.later);
  past = λ m u early shown. p.past m u early (q.past m u (omega (arith, early, p.later)) shown);
  crash = told_then p.crash q.crash (λ x y z one two. record {
    holds = λ agree.
        let half = one.holds agree in
        let whole = two.holds half.1 in
        (steps_then a b c (state_of x d.held) (state_of y e.held) (state_of z f.held) (steps_of given turns) (steps_of [] more) (steps_of given (turns ++ more)) (turns_after given turns more) q.past half.0 whole.0, whole.1);
  });
}

pub keeper_given : {given more : List Given} {turns : List Turn} {d e f : Desk} {a b c : KeeperSeen} → KeeperDid given [] d e a b → KeeperDid more turns e f b c
    → KeeperDid (given ++ more) turns d f a c
keeper_given {given} {more} {turns} {d} {e} {f} {a} {b} {c} p q = record {
  commits = q.commits ∙ ap (λ (n : ℕ). commits_by turns (commits_given more n)) p.commits ∙ ap (commits_by turns) (sym (given_append given more a.commits));
  later = omega (arith, p.later, q.later);
  past = λ m u early shown. p.past m u early (q.past m u (omega (arith, early, p.later)) shown);
  crash = told_then p.crash q.crash (λ x y z one two. record {
    holds = λ agree.
        let half = one.holds agree in
        let whole = two.holds half.1 in
        (steps_then a b c (state_of x d.held) (state_of y e.held) (state_of z f.held) (steps_of given []) (steps_of more turns) (steps_of (given ++ more) turns) (commands_after given more turns) q.past half.0 whole.0, whole.1);
  });
}

-- an office opened the tables before
pub keeper_opened : {given : List Given} {turns : List Turn} {d f : Desk} {i k o : KeeperSeen} {P : Tables → Type 0} → Rests i → d.held ≡ held_at_start → OpensTo P i k
    → ((u : Tables) → P u → Fits d u) → KeeperDid given turns d f k o → KeeperDrilled given turns i o
keeper_opened {given} {turns} {d} {f} {i} {k} {o} rests begins opened fits did = record {
  first = opened.writes;
  are = opened.are;
  commits = did.commits ∙ ap (λ (n : ℕ). commits_by turns (commits_given given n)) opened.settled.commits;
  crash = record {
    each = λ t told.
        let here = opened.tables.each t told in
        let g = did.crash.each here.value here.told in
        let both = g.fits.holds (fits here.value here.fits.1) in
        record {
          value = g.value;
          told = g.told;
          fits = (f.held, saves_opened d rests begins opened did.past t told (steps_of given turns) (state_of g.value f.held) both.0);
        };
  };
}

-- ---- one turn

pub keeper_turn : (event : Event) (outcome : Outcome) (said : Said) (went : List Bool) (d e : Desk) (a b : KeeperSeen) → Rests a → Rests b → (acts : Acts event outcome said d e a b)
    → KeeperDid [] (record { event = event; outcome = outcome; said = completed event.what outcome said; commit = acts.commit; went = went } ∷ []) d e a b
keeper_turn event outcome said went d e a b first rests acts =
    let turn : Turn = record { event = event; outcome = outcome; said = completed event.what outcome said; commit = acts.commit; went = went } in
    record {
      commits = acts.commits;
      later = acts.crash.later;
      past = acts.crash.past;
      crash = record {
        each = λ t told.
            let g = acts.tables.each t told in
            record {
              value = g.value;
              told = g.told;
              fits = record {
                holds = λ fits.
                    let agree = fits.mirrors in
                    let held = g.fits.holds agree in
                    let s = state_of t d.held in
                    let last = state_of g.value e.held in
                    let one : OneStep (job_steps begins_at) false false a.opened b.opened a.doubt b.doubt a.moment b.moment s last (TurnStep turn) = record {
                      later = acts.crash.later;
                      past = acts.crash.past;
                      within = λ m u second upto shown. ⊎_map (λ same. same) (⊎_map (λ doubt. doubt) (unless_more outcome (λ begun. begun agree))) (acts.crash.within t told m u second upto shown);
                      doubts = λ u ends. doubts_by (job_steps begins_at) a.doubt s (TurnStep turn) u (λ begun. begun agree) (acts.doubts t told u ends);
                      rests = λ u shown. rests g.value g.told u shown;
                      clears = λ none. inl refl;
                    } in (
                      (step_saved (saves_none s refl (first t told)) b.opened b.doubt b.moment last (TurnStep turn) (last, (held, refl)) one).next,
                      record { good = step_good s event outcome _ held fits.good; mirrors = g.fits.stays fits },
                    );
              };
            };
      };
    }

-- ---- one command

-- at the drill's first moment
saves_command : (given : Given) (d e : Desk) (a b : KeeperSeen) → Rests a → Rests b → (t z : Tables) → a.tables t → b.tables z → e.held ≡ held_at d.held begins_at → OneCommand begins_at given t z a b
    → Saves (job_steps begins_at) a.doubt a.moment (state_of t d.held) (CommandStep given ∷ []) b.opened b.doubt false b.moment (state_of z e.held)
saves_command given d e a b first rests t z told there comes one =
    subst (λ (h : _). Saves (job_steps begins_at) a.doubt a.moment (state_of t d.held) (CommandStep given ∷ []) b.opened b.doubt false b.moment (state_of z h)) (sym comes)
    (one_command begins_at given d.held a b first rests t z told there one)

module _ (command : Command) (d e : Desk) (a b : KeeperSeen) (first : Rests a) (rests : Rests b) (now : e.held.now ≡ begins_at) (comes : e.held ≡ held_at d.held begins_at) where
  at_first : (given : Given) (t z : Tables) → OneCommand e.held.now given t z a b → OneCommand begins_at given t z a b
  at_first given t z one = subst (λ (n : ℕ). OneCommand n given t z a b) now one

  pub keeper_commanded : (reply : Reply) → IsTrue (is_sound command) → IsTrue (secret_fits command) → (did : Commanded command reply e.held.now d e a b) → KeeperDid (done command did.writes ∷ []) [] d e a b
  keeper_commanded reply sound short did = record {
    commits = did.settled.commits;
    later = did.settled.crash.later;
    past = did.settled.crash.past;
    crash = record {
      each = λ t told.
          let g = did.tables.each t told in
          record {
            value = g.value;
            told = g.told;
            fits = record {
              holds = λ fits.
                  let held = g.fits.holds fits.mirrors in
                  let good : Good (step_done t did.writes reply).tables = subst (λ (v : Stepped). Good v.tables) held.0 (step_keeps_good t e.held.now command sound short fits.good) in
                  let one = one_commanded e.held.now command d a b reply e did t g.value told (step_done t did.writes reply) held.0 refl held.1 in (
                    saves_command (done command did.writes) d e a b first rests t g.value told g.told comes (at_first (done command did.writes) t g.value one),
                    record { good = subst (λ (v : Tables). Good v) (sym held.1) good; mirrors = g.fits.stays fits },
                  );
            };
          };
    };
  }

  pub keeper_refused : (P : Tables → Type 0) → Reads P a b → ((t : Tables) → P t → Mirrors d t → book_writes t command ≡ []) → StaysAs d e → KeeperDid (done command [] ∷ []) [] d e a b
  keeper_refused P reads none stays = record {
    commits = reads.quiet.commits;
    later = reads.quiet.still.later;
    past = reads.quiet.still.past;
    crash = record {
      each = λ t told.
          let one = reads.tables t told in
          record {
            value = t;
            told = one.0;
            fits = record {
              holds = λ fits. (
                saves_command (done command []) d e a b first rests t t told one.0 comes (one_refused begins_at command d a b reads first t told (none t one.1 fits.mirrors)),
                fits_as d e t stays fits,
              );
            };
          };
    };
  }

  no_commit : (err : KeepErr) → NotCommitted (CommandBegins command e.held.now d) err a b → b.commits ≡ commits_given (undone command err ∷ []) a.commits
  no_commit keep.Memory not = not.commits
  no_commit keep.Failed not = not.commits

  pub undone_not : (err : KeepErr) → (undone command err).outcome ≢ Did
  undone_not keep.Memory = λ e. cc
  undone_not keep.Failed = λ e. cc

  pub keeper_lost : (err : KeepErr) → NotCommitted (CommandBegins command e.held.now d) err a b → StaysAs d e → KeeperDid (undone command err ∷ []) [] d e a b
  keeper_lost err not stays = record {
    commits = no_commit err not;
    later = not.crash.later;
    past = not.crash.past;
    crash = record {
      each = λ t told.
          let still = not.tables t told in
          record {
            value = t;
            told = still;
            fits = record {
              holds = λ fits. (
                saves_command (undone command err) d e a b first rests t t told still comes (at_first (undone command err) t t (one_lost e.held.now command d a b err not t told fits.mirrors)),
                fits_as d e t stays fits,
              );
            };
          };
    };
  }
