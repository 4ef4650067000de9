-- From a command to what its clerk is told.
use Rattle.std.proofs.Common.{◌≡◌, ℕ, Result, Ok, Err, OnOk, MatchResult, is_err, false, [], codes, arith, refl, sym, ap, ◌∙◌, subst}
use Rattle.off_base.specs.declared.octets.NoMemory.{NoMemory}
use Rattle.off_orders.specs.declared.orders.Command.{Command}
use Rattle.off_orders.specs.declared.rules.Rule.{Rule}
use Rattle.off_defs.specs.State.{Tables, Said}
use Rattle.off_defs.specs.Tables.{write_all}
use Rattle.off_orders.specs.Clerk.{Stepped, clerk_step, step_refused}
use Rattle.off_defs.specs.declared.events.What.TheVariants.{Piece}
use Rattle.off_defs.specs.declared.results.Outcome.TheVariants.{Did}
use Rattle.off_clerk_rules.specs.declared.faults.Fault.{Fault}
use Rattle.off_clerk_rules.specs.declared.faults.Fault.TheVariants as fault
use Rattle.off_book.specs.Http.{Answered, answer_step, answer_fault}
use Rattle.off_book.specs.Step.{TellsOutcome}
use Rattle.off_laws.proofs.Answers.{fault_digit}
use Rattle.off_laws.proofs.Lines.{status_tells}
use Rattle.off_outside.specs.declared.keeper.KeepErr.{KeepErr}
use Rattle.off_outside.specs.declared.keeper.KeepErr.TheVariants as keep
use Rattle.off_outside.specs.KeeperSeen.{KeeperSeen, Rests}
use Rattle.off_outside.specs.KeeperCalls.{Reads, NotCommitted, IsWritten}
use Rattle.off_outside.proofs.KeeperLemmas.{reads_told, reads_forgotten, settled_none, settled_then, not_begun, not_begun_then, not_committed_as}
use Rattle.off_accounts.specs.declared.results.Planned.{Planned}
use Rattle.off_accounts.specs.declared.results.AccountErr.{AccountErr}
use Rattle.off_accounts.specs.declared.results.AccountErr.TheVariants.{Refused, Failed, Memory}
use Rattle.off_office.specs.Desk.{Desk}
use Rattle.off_office.specs.Conditions.{Mirrors, any_tables}
use Rattle.off_office.proofs.MirrorLemmas.{follows_mirrors}
use Rattle.off_office.proofs.StepLemmas.{kept_unwritten}
use Rattle.off_sessions.specs.Answers.{said_to, fault_said}
use Rattle.off_office.specs.Answering.{IsPlanned, NotPlanned, AnsweredBy, NotAnswered, AnswerBegins, IsAnswered, CarriedOut, NotCarriedOut, Refuses, answer_to}

-- what was planned was answered and done
carried_done : (command : Command) (planned : Planned) (conn : ℕ) (said : Said) (before after : Desk) (a b c : KeeperSeen) → Rests a
    → Reads (IsPlanned before command planned) a b → CarriedOut planned conn said before after b c
    → AnsweredBy (answer_to before.held.now command) conn said before after a c
carried_done command planned conn said before after a b c rests reads did = record {
  writes = planned.writes;
  tables = record {
    each = λ t told.
        let read = reads.tables t told in
        let g = did.done.tables.each t read.0 in
        record {
          value = g.value;
          told = g.told;
          fits = record {
            holds = λ mirrors. let is = read.1.holds mirrors in (
              did.answer ∙ ap (λ (s : Stepped). said_to conn (answer_step s)) (sym is.0),
              ap (λ (s : Stepped). (answer_step s).writes) (sym is.0),
              g.fits,
            );
            stays = λ fits. follows_mirrors any_tables before after planned.counts planned.writes t g.value tt did.follows (read.1.holds fits.mirrors).1 g.fits fits;
          };
        };
  };
  held = did.follows.held;
  kept = did.follows.kept;
  settled = settled_then rests reads did.done;
  tells = status_tells conn [] (codes "200") said.line (omega arith) (ap (λ (s : Said). s.line) did.answer);
}

-- the writes that were planned are those of the answer
planned_writes : (command : Command) (planned : Planned) (before : Desk) (a b : KeeperSeen) → Reads (IsPlanned before command planned) a b
    → (t : Tables) → a.tables t → (u : Tables) → IsWritten planned.writes t u → AnswerBegins (answer_to before.held.now command) before t u
planned_writes command planned before a b reads t told u written mirrors =
    let is = (reads.tables t told).1.holds mirrors in
    written ∙ ap (λ (s : Stepped). write_all t (answer_step s).writes) (sym is.0)

pub carried_ends : (q : Result (Unit {0}) KeepErr) (command : Command) (planned : Planned) (conn : ℕ) (said : Said) (before after : Desk) (a b c : KeeperSeen) → Rests a
    → Reads (IsPlanned before command planned) a b
    → MatchResult q (λ _. CarriedOut planned conn said before after b c) (λ err. NotCarriedOut planned err before after b c)
    → IsAnswered q (answer_to before.held.now command) conn said before after a c
carried_ends (Ok u) command planned conn said before after a b c rests reads did = carried_done command planned conn said before after a b c rests reads did
carried_ends (Err err) command planned conn said before after a b c rests reads not = record {
  same = not.same;
  keeper = not_committed_as (not_begun_then rests reads not.keeper) (planned_writes command planned before a b reads);
}

-- an answer that is in hand
pub in_hand : (r : Result (Unit {0}) NoMemory) (said other : Said) → is_err r ≡ false → OnOk r (said ≡ other) → said ≡ other
in_hand (Ok u) said other none is = is
in_hand (Err e) said other none is = cc

-- the line of a fault is no line of want of memory or of a failing keeper
pub fault_tells : (conn : ℕ) (f : Fault) (said : Said) → said ≡ fault_said conn f → TellsOutcome (Piece conn []) Did said.line
fault_tells conn f said is = status_tells conn [] (answer_fault f).words said.line (fault_digit f) (ap (λ (s : Said). s.line) is)

-- what a rule refuses is answered by the rule
answered_refused : (command : Command) (now : ℕ) (desk : Desk) (row : ℕ) (rule : Rule) (conn : ℕ) (said : Said) (a b : KeeperSeen) → Rests a
    → Reads (λ t. Mirrors desk t → clerk_step t now command ≡ step_refused t row rule) a b
    → said ≡ fault_said conn (fault.Rule row rule) → AnsweredBy (answer_to now command) conn said desk desk a b
answered_refused command now desk row rule conn said a b rests reads is = record {
  writes = [];
  tables = reads_told reads (λ t says. record {
    holds = λ mirrors. let f = says mirrors in (
      is ∙ ap (λ (s : Stepped). said_to conn (answer_step s)) (sym f),
      ap (λ (s : Stepped). (answer_step s).writes) (sym f),
      refl,
    );
    stays = λ fits. fits.mirrors;
  });
  held = refl;
  kept = kept_unwritten desk desk refl;
  settled = settled_then rests reads (settled_none [] b refl);
  tells = fault_tells conn (fault.Rule row rule) said is;
}

-- an error, as nothing was done
pub not_answered : (answer : Tables → Answered) (err : KeepErr) (desk : Desk) (a b : KeeperSeen) → NotCommitted (AnswerBegins answer desk) err a b → NotAnswered answer err desk desk a b
not_answered answer err desk a b not = record { same = refl; keeper = not }

pub refuse_ends : (err : AccountErr) (q : Result (Unit {0}) KeepErr) (command : Command) (conn : ℕ) (said : Said) (desk : Desk) (a b : KeeperSeen) → Rests a
    → NotPlanned desk command err a b → Refuses conn err q said → IsAnswered q (answer_to desk.held.now command) conn said desk desk a b
refuse_ends (Refused row rule) (Ok u) command conn said desk a b rests not says = answered_refused command desk.held.now desk row rule conn said a b rests not says
refuse_ends (Refused row rule) (Err e) command conn said desk a b rests not says =
    subst (λ (x : KeepErr). NotAnswered (answer_to desk.held.now command) x desk desk a b) (sym says)
    (not_answered (answer_to desk.held.now command) keep.Memory desk a b (not_begun rests (reads_forgotten not)))
refuse_ends Failed q command conn said desk a b rests not says =
    subst (λ r. IsAnswered r (answer_to desk.held.now command) conn said desk desk a b) (sym says)
    (not_answered (answer_to desk.held.now command) keep.Failed desk a b (not_begun rests not))
refuse_ends Memory q command conn said desk a b rests not says =
    subst (λ r. IsAnswered r (answer_to desk.held.now command) conn said desk desk a b) (sym says)
    (not_answered (answer_to desk.held.now command) keep.Memory desk a b (not_begun rests not))
