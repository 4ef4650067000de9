-- What a crash leaves of commands that an office was given, and of steps over tables that it opened first.
use Rattle.std.proofs.Common.{◌≡◌, ℕ, ◌<◌, ◌≤◌, ◌⊎◌, false, List, [], ◌∷◌, ◌++◌, refl, sym, ap, ◌∙◌, subst, inl, inr, arith}
use mathlib.Core.Logic.{⊎_map}
use Rattle.off_orders.specs.declared.orders.Command.{Command}
use Rattle.off_orders.specs.declared.orders.Reply.{Reply}
use Rattle.off_defs.specs.declared.writes.Write.{Write}
use Rattle.off_defs.specs.declared.results.Outcome.TheVariants.{Did, Memory, Keeper}
use Rattle.off_defs.specs.State.{Tables, State, Held, state_of, held_at, held_at_start, start}
use Rattle.off_defs.specs.Tables.{write_all}
use Rattle.off_orders.specs.Clerk.{Stepped, clerk_step}
use Rattle.off_account_rules.specs.Migration.{migrated}
use Rattle.off_book.specs.Crashes.{unless_memory, Steps, Saves}
use Rattle.off_book.proofs.CrashLemmas.{Doubt}
use Rattle.off_book.proofs.SavesLemmas.{saves_none, saves_doubt}
use Rattle.off_book.proofs.StepSaved.{step_done}
use Rattle.off_outside.specs.declared.keeper.KeepErr.{KeepErr}
use Rattle.off_outside.specs.declared.keeper.KeepErr.TheVariants as keep
use Rattle.off_outside.specs.KeeperSeen.{KeeperSeen, Rests}
use Rattle.off_outside.specs.KeeperCalls.{Reads, NotCommitted, IsWritten, begun_by}
use Rattle.off_office.specs.Desk.{Desk}
use Rattle.off_office.specs.Conditions.{Mirrors}
use Rattle.off_office.specs.Answering.{Commanded, CommandBegins}
use Rattle.off_office.specs.Opening.{OpensTo, SavesOpened, doubt_opened}
use Rattle.off_office.specs.Closed.{Would}
use Rattle.off_office.specs.Given.{Given, JobStep, CommandStep, TurnStep, JobRun, written_in, job_steps}
use Rattle.off_office.proofs.OpeningLemmas.{leaves_opening, doubts_opened, opened_state}

-- two runs in a row
pub job_append : (now : ℕ) (s : State) (steps : List JobStep) (mid : State) (more : List JobStep) (last : State) → JobRun now s steps mid → JobRun now mid more last → JobRun now s (steps ++ more) last
job_append now s [] mid more last run rest = subst (λ (v : State). JobRun now v more last) run rest
job_append now s (CommandStep given ∷ steps) mid more last run rest = (run.0, job_append now _ steps mid more last run.1 rest)
job_append now s (TurnStep turn ∷ steps) mid more last run rest = (run.0, (run.1.0, job_append now run.0 steps mid more last run.1.1 rest))

-- ---- one command

-- what a keeper tells over one command, and of the tables after it
pub record OneCommand (now : ℕ) (given : Given) (t z : Tables) (a b : KeeperSeen) : Type 0 where
  pub later : a.moment ≤ b.moment
  pub past : (m : ℕ) (u : Tables) → m ≤ a.moment → b.opened m u → a.opened m u
  pub writes : given.commit ≡ written_in given.outcome (clerk_step t now given.command).writes
  pub within : (m : ℕ) (u : Tables) → a.moment < m → m ≤ b.moment → b.opened m u → (u ≡ t) ⊎ (a.doubt u ⊎ unless_memory given.outcome (Would now given.command t u))
  pub doubts : (h : Held) (u : Tables) → b.doubt u → Doubt (job_steps now) a.doubt (state_of t h) (CommandStep given) u
  pub after : z ≡ write_all t given.commit

pub one_command : (now : ℕ) (given : Given) (h : Held) (a b : KeeperSeen) → Rests a → Rests b → (t z : Tables) → a.tables t → b.tables z → OneCommand now given t z a b
    → Saves (job_steps now) a.doubt a.moment (state_of t h) (CommandStep given ∷ []) b.opened b.doubt false b.moment (state_of z (held_at h now))
one_command now given h a b first rests t z told there one =
    (step_done (saves_none (state_of t h) refl (first t told)) b.opened b.doubt b.moment (state_of z (held_at h now)) (CommandStep given)
    (one.writes, ap (λ (v : Tables). state_of v (held_at h now)) one.after)
    (record {
      later = one.later;
      past = one.past;
      within = one.within;
      doubts = one.doubts h;
      rests = rests z there;
      clears = λ none. inl refl;
    })).next

abbrev pub done : Command → List Write → Given
done command commit = record { command = command; outcome = Did; commit = commit }

abbrev pub undone : Command → KeepErr → Given
undone command keep.Memory = record { command = command; outcome = Memory; commit = [] }
undone command keep.Failed = record { command = command; outcome = Keeper; commit = [] }

module _ (now : ℕ) (command : Command) (d : Desk) (a b : KeeperSeen) where
  -- it was done
  pub one_commanded : (reply : Reply) (e : Desk) → (did : Commanded command reply now d e a b) → (t z : Tables) → a.tables t → (s : Stepped) → clerk_step t now command ≡ s → s.writes ≡ did.writes
      → IsWritten did.writes t z → OneCommand now (done command did.writes) t z a b
  one_commanded reply e did t z told s step are written =
      let same : (clerk_step t now command).writes ≡ did.writes = ap (λ (v : Stepped). v.writes) step ∙ are in
      record {
        later = did.settled.crash.later;
        past = did.settled.crash.past;
        writes = sym same;
        within = λ m u second upto shown.
            ⊎_map (λ same. same) (⊎_map (λ doubt. doubt) (λ is. is ∙ ap (write_all t) (sym same))) (did.settled.crash.within t told m u second upto shown);
        doubts = λ h u ends. did.settled.doubts t told u ends;
        after = written;
      }

  -- a rule refused it
  pub one_refused : {P : Tables → Type 0} → Reads P a b → Rests a → (t : Tables) → a.tables t → (clerk_step t now command).writes ≡ [] → OneCommand now (done command []) t t a b
  one_refused reads first t told none =
      let still = reads.quiet.still in
      record {
        later = still.later;
        past = still.past;
        writes = sym none;
        within = λ m u second upto shown. ⊎_map (λ same. same) inl (first t told u (still.within m u (omega (arith, second)) upto shown));
        doubts = λ h u ends. still.doubts u ends;
        after = refl;
      }

  -- it wasn't done
  lost_within : (err : KeepErr) (t : Tables) → Mirrors d t → (u : Tables) {p q : Type 0} → p ⊎ (q ⊎ begun_by err (CommandBegins command now d) t u)
      → p ⊎ (q ⊎ unless_memory (undone command err).outcome (Would now (undone command err).command t u))
  lost_within keep.Memory t agree u is = is
  lost_within keep.Failed t agree u is = ⊎_map (λ same. same) (⊎_map (λ doubt. doubt) (λ begun. begun agree)) is

  lost_doubts : (err : KeepErr) (t : Tables) → Mirrors d t → (h : Held) (u : Tables) → a.doubt u ⊎ begun_by err (CommandBegins command now d) t u
      → Doubt (job_steps now) a.doubt (state_of t h) (CommandStep (undone command err)) u
  lost_doubts keep.Memory t agree h u (inl doubt) = doubt
  lost_doubts keep.Memory t agree h u (inr begun) = absurd begun
  lost_doubts keep.Failed t agree h u is = ⊎_map (λ doubt. doubt) (λ begun. begun agree) is

  none_written : (err : KeepErr) (writes : List Write) → (undone command err).commit ≡ written_in (undone command err).outcome writes
  none_written keep.Memory writes = refl
  none_written keep.Failed writes = refl

  no_writes : (err : KeepErr) (t : Tables) → t ≡ write_all t (undone command err).commit
  no_writes keep.Memory t = refl
  no_writes keep.Failed t = refl

  pub one_lost : (err : KeepErr) → NotCommitted (CommandBegins command now d) err a b → (t : Tables) → a.tables t → Mirrors d t → OneCommand now (undone command err) t t a b
  one_lost err not t told agree = record {
    later = not.crash.later;
    past = not.crash.past;
    writes = none_written err _;
    within = λ m u second upto shown. lost_within err t agree u (not.crash.within t told m u second upto shown);
    doubts = λ h u ends. lost_doubts err t agree h u (not.crash.doubts t told u ends);
    after = no_writes err t;
  }

-- ---- over tables that were opened first

module _ {X : Type 0} {steps : Steps X} {P : Tables → Type 0} {i k o : KeeperSeen} (d : Desk) (first : Rests i) (fresh : d.held ≡ held_at_start) (opened : OpensTo P i k)
    (past : (m : ℕ) (u : Tables) → m ≤ k.moment → o.opened m u → k.opened m u) where
  pub saves_opened : (t : Tables) (told : i.tables t) (done : List X) (last : State)
      → Saves steps k.doubt k.moment (state_of (opened.tables.each t told).value d.held) done o.opened o.doubt false o.moment last → SavesOpened steps i o t done last
  saves_opened t told done last saves =
      let here = opened.tables.each t told in
      record {
        at = k.moment;
        opening = leaves_opening first opened past t told;
        saves = saves_doubt (doubts_opened opened t told)
            (subst (λ (s : State). Saves steps k.doubt k.moment s done o.opened o.doubt false o.moment last) (opened_state d t here.value here.fits.0 fresh) saves);
      }
