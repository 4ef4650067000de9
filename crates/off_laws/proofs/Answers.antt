-- What a clerk is answered: the words of the line, and what is written.
use Rattle.std.proofs.Common.{◌≡◌, ℕ, ◌<◌, ◌⊎◌, inl, inr, List, [], ◌∷◌, ◌++◌, codes, decimal, Result, Ok, Err, IfOk, refl, subst, arith}
use Rattle.std.specs.Prelude.{slice_index}
use Rattle.std.specs.Char.{digit_value}
use Rattle.std.specs.Str.Parse.{IsNumeral}
use Rattle.std.proofs.lemmas.Fmt.{decimal_is_IsNumeral}
use Rattle.off_orders.specs.declared.orders.Command.{Command}
use Rattle.off_orders.specs.declared.orders.Reply.{Reply}
use Rattle.off_orders.specs.declared.rules.Rule.{Rule}
use Rattle.off_orders.specs.declared.rules.Rule.TheVariants as rule
use Rattle.off_defs.specs.declared.writes.Write.{Write}
use Rattle.off_defs.specs.State.{Tables}
use Rattle.off_defs.specs.Tables.{write_all}
use Rattle.off_account_rules.specs.Good.{Good}
use Rattle.off_orders.specs.Clerk.{Refusal, Decision, decided, stepped_by, clerk_step}
use Rattle.off_http.specs.declared.answers.HttpFault.{HttpFault}
use Rattle.off_http.specs.declared.answers.HttpFault.TheVariants as http
use Rattle.off_clerk_rules.specs.declared.faults.ClerkErr.{ClerkErr}
use Rattle.off_clerk_rules.specs.declared.faults.ClerkErr.TheVariants as clerk
use Rattle.off_clerk_rules.specs.declared.faults.Fault.{Fault}
use Rattle.off_clerk_rules.specs.declared.faults.Fault.TheVariants as fault
use Rattle.off_clerk_rules.specs.Faults.{status_of, request_answer, http_answer, rule_answer, word_of}
use Rattle.off_clerk_rules.specs.Commands.{command_read}
use Rattle.off_order_laws.proofs.StepLaws.{step_keeps_good}
use Rattle.off_book.specs.Http.{Answered, answer_fault, answer_result, answer_command, answer_request}
use Rattle.off_laws.proofs.Requests.{MayBe, request_may}

-- the words begin with a digit
abbrev pub BeginsWithDigit : List ℕ → Type 0
BeginsWithDigit words = digit_value (slice_index words 0) < 10

digits_first : (digits space word : List ℕ) → IsNumeral 10 digits → BeginsWithDigit (digits ++ space ++ word)
digits_first [] space word is = absurd (omega (arith, is.0))
digits_first (d ∷ digits) space word is = is.1.0

clerk_small : (err : ClerkErr) → (request_answer err).status < 1000
clerk_small clerk.NoPath = omega arith
clerk_small clerk.NoMethod = omega arith
clerk_small clerk.NotJson = omega arith
clerk_small (clerk.Field missing) = omega arith
clerk_small (clerk.Value wrong) = omega arith
clerk_small (clerk.Import f) = omega arith

http_small : (f : HttpFault) → (http_answer f).status < 1000
http_small http.Head = omega arith
http_small http.Body = omega arith
http_small http.TooLong = omega arith

rule_small : (broken : Rule) → (rule_answer broken).status < 1000
rule_small rule.NoRow = omega arith
rule_small rule.HasModems = omega arith
rule_small rule.ClassInUse = omega arith
rule_small (rule.PoolOverlap pool) = omega arith
rule_small (rule.RelayTaken pool) = omega arith
rule_small (rule.PoolHasLeases address) = omega arith
rule_small (rule.BatchDiffers batch) = omega arith
rule_small rule.NoSubscriber = omega arith
rule_small rule.NoClass = omega arith
rule_small rule.PoolSize = omega arith
rule_small (rule.Tree f) = omega arith
rule_small (rule.Limit kind most) = omega arith
rule_small (rule.Site field) = omega arith
rule_small rule.NoHub = omega arith
rule_small (rule.HubInUse pool) = omega arith
rule_small (rule.DeviceOverlap pool) = omega arith

status_small : (f : Fault) → status_of f < 1000
status_small (fault.Clerk err) = clerk_small err
status_small (fault.Http f) = http_small f
status_small (fault.Rule row broken) = rule_small broken

pub fault_digit : (f : Fault) → BeginsWithDigit (answer_fault f).words
fault_digit f = digits_first (decimal (status_of f)) (codes " ") (word_of f) (decimal_is_IsNumeral (status_of f) (omega (arith, status_small f))).0

result_digit : (writes : List Write) (r : Result Reply Refusal) → BeginsWithDigit (answer_result writes r).words
result_digit writes (Ok reply) = omega arith
result_digit writes (Err refused) = fault_digit (fault.Rule refused.row refused.broken)

command_digit : (t : Tables) (now : ℕ) (r : Result Command ClerkErr) → BeginsWithDigit (answer_command t now r).words
command_digit t now (Ok command) = result_digit (clerk_step t now command).writes (clerk_step t now command).answer
command_digit t now (Err err) = fault_digit (fault.Clerk err)

pub request_digit : (t : Tables) (now : ℕ) (method target body : List ℕ) → BeginsWithDigit (answer_request t now method target body).words
request_digit t now method target body = command_digit t now (command_read method target body)

-- nothing is written, or the words say that the command was done
abbrev pub WritesNothingOrDone : Answered → Type 0
WritesNothingOrDone answer = (answer.writes ≡ []) ⊎ (answer.words ≡ codes "200")

result_writes : (writes : List Write) (r : Result Reply Refusal) → WritesNothingOrDone (answer_result writes r)
result_writes writes (Ok reply) = inr refl
result_writes writes (Err refused) = inl refl

command_writes : (t : Tables) (now : ℕ) (r : Result Command ClerkErr) → WritesNothingOrDone (answer_command t now r)
command_writes t now (Ok command) = result_writes (clerk_step t now command).writes (clerk_step t now command).answer
command_writes t now (Err err) = inl refl

pub request_writes : (t : Tables) (now : ℕ) (method target body : List ℕ) → WritesNothingOrDone (answer_request t now method target body)
request_writes t now method target body = command_writes t now (command_read method target body)

-- the tables behind a command are those with its writes
stepped_tables : (t : Tables) (decision : Decision) → (stepped_by t decision).tables ≡ write_all t (stepped_by t decision).writes
stepped_tables t (Ok done) = refl
stepped_tables t (Err refused) = refl

pub step_tables : (t : Tables) (now : ℕ) (command : Command) → (clerk_step t now command).tables ≡ write_all t (clerk_step t now command).writes
unfolding clerk_step
step_tables t now command = stepped_tables t (decided t now command)

-- good tables stay good
result_good : (t : Tables) (writes : List Write) (r : Result Reply Refusal) → Good t → Good (write_all t writes) → Good (write_all t (answer_result writes r).writes)
result_good t writes (Ok reply) good after = after
result_good t writes (Err refused) good after = good

command_good : (t : Tables) (now : ℕ) (r : Result Command ClerkErr) → IfOk r MayBe → Good t → Good (write_all t (answer_command t now r).writes)
command_good t now (Ok command) may good =
    result_good t (clerk_step t now command).writes (clerk_step t now command).answer good
    (subst (λ (u : Tables). Good u) (step_tables t now command) (step_keeps_good t now command may.0 may.1 good))
command_good t now (Err err) may good = good

pub request_good : (t : Tables) (now : ℕ) (method target body : List ℕ) → Good t → Good (write_all t (answer_request t now method target body).writes)
request_good t now method target body good = command_good t now (command_read method target body) (request_may method target body) good
