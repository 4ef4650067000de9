-- A request that was read, and its answer.
use Rattle.std.proofs.Common.{◌≡◌, ℕ, List, [], Result, Ok, Err, refl, sym, ap, ◌∙◌, subst}
use Rattle.off_orders.specs.declared.orders.Command.{Command}
use Rattle.off_defs.specs.State.{Said}
use Rattle.off_clerk_rules.specs.declared.faults.ClerkErr.{ClerkErr}
use Rattle.off_clerk_rules.specs.declared.faults.Fault.TheVariants as fault
use Rattle.off_clerk_rules.specs.Commands.{command_read}
use Rattle.off_book.specs.Http.{answer_command, answer_request}
use Rattle.off_outside.specs.declared.keeper.KeepErr.{KeepErr}
use Rattle.off_outside.specs.declared.keeper.KeepErr.TheVariants as keep
use Rattle.off_outside.specs.KeeperSeen.{KeeperSeen}
use Rattle.off_defs.proofs.ToldLemmas.{told_self}
use Rattle.off_office.specs.Desk.{Desk}
use Rattle.off_http.specs.Request.{Meaning, Waits, Refused, Asked}
use Rattle.off_http.specs.Heard.{IsAsked, asked_method, asked_target, asked_body}
use Rattle.off_office.specs.Asking.{SpentWithin, command_calls, request_calls, meaning_calls}
use Rattle.off_sessions.specs.Answers.{fault_said, IsSaid}
use Rattle.off_office.specs.Answering.{NotAnswered, IsAnswered, answer_to}
use Rattle.off_outside.proofs.KeeperLemmas.{settled_none, nothing_begun}
use Rattle.off_office.proofs.AnswerLemmas.{not_answered, fault_tells}
use Rattle.off_office.proofs.StepLemmas.{kept_unwritten}

-- the parts of a request, as they were read
pub record Parts (method target body m p b : List ℕ) : Type 0 where
  pub method_is : method ≡ m
  pub target_is : target ≡ p
  pub body_is : body ≡ b

read_as : (method target body m p b : List ℕ) → Parts method target body m p b → command_read m p b ≡ command_read method target body
read_as method target body m p b is =
    ap (λ x. command_read x p b) (sym is.method_is) ∙ (ap (λ x. command_read method x b) (sym is.target_is) ∙ ap (λ x. command_read method target x) (sym is.body_is))

abbrev ReadEnds : Result Command ClerkErr → ℕ → ℕ → Said → Desk → Desk → KeeperSeen → KeeperSeen → Result (Unit {0}) KeepErr → Type 0
ReadEnds read now conn said before after a b q = IsAnswered q (λ t. answer_command t now read) conn said before after a b

pub command_ends : (method target body m p b : List ℕ) (command : Command) (now conn : ℕ) (said : Said) (before after : Desk) (k l : KeeperSeen) (q : Result (Unit {0}) KeepErr)
    → Parts method target body m p b → command_read method target body ≡ Ok command
    → IsAnswered q (answer_to now command) conn said before after k l → IsAnswered q (λ t. answer_request t now m p b) conn said before after k l
command_ends method target body m p b command now conn said before after k l q parts is ends =
    subst (λ r. ReadEnds r now conn said before after k l q) (sym (read_as method target body m p b parts ∙ is)) ends

-- a request at fault is answered so, whatever the tables
fault_by : (err : ClerkErr) (now conn : ℕ) (said : Said) (desk : Desk) (k : KeeperSeen) (r : Result (Unit {0}) KeepErr)
    → IsSaid r said (fault_said conn (fault.Clerk err)) → ReadEnds (Err err) now conn said desk desk k k r
fault_by err now conn said desk k (Ok u) is = record {
  writes = [];
  tables = told_self (λ t. record { holds = λ mirrors. (is, refl, refl); stays = λ fits. fits.mirrors });
  held = refl;
  kept = kept_unwritten desk desk refl;
  settled = settled_none [] k refl;
  tells = fault_tells conn (fault.Clerk err) said is;
}
fault_by err now conn said desk k (Err e) is =
    subst (λ (x : KeepErr). NotAnswered (λ t. answer_command t now (Err err)) x desk desk k k) (sym is)
    (not_answered (λ t. answer_command t now (Err err)) keep.Memory desk k k (nothing_begun k))

pub fault_ends : (method target body m p b : List ℕ) (err : ClerkErr) (now conn : ℕ) (said : Said) (desk : Desk) (k : KeeperSeen) (r : Result (Unit {0}) KeepErr)
    → Parts method target body m p b → command_read method target body ≡ Err err → IsSaid r said (fault_said conn (fault.Clerk err))
    → IsAnswered r (λ t. answer_request t now m p b) conn said desk desk k k
fault_ends method target body m p b err now conn said desk k r parts is told =
    subst (λ x. ReadEnds x now conn said desk desk k k r) (sym (read_as method target body m p b parts ∙ is)) (fault_by err now conn said desk k r told)

-- a request asks what its command does, and nothing where it's at fault
pub command_asks : (meaning : Meaning) (method target body : List ℕ) (command : Command) (a b : KeeperSeen) → IsAsked meaning
    → Parts method target body (asked_method meaning) (asked_target meaning) (asked_body meaning)
    → command_read method target body ≡ Ok command → SpentWithin (command_calls command) a b → SpentWithin (meaning_calls meaning) a b
command_asks Waits method target body command a b is parts read spent = absurd is
command_asks (Refused f) method target body command a b is parts read spent = absurd is
command_asks (Asked m p c) method target body command a b is parts read spent =
    subst (λ r. SpentWithin (request_calls r) a b) (sym (read_as method target body m p c parts ∙ read)) spent
