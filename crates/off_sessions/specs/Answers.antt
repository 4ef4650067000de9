-- What a clerk's connection is told: an answer, its end, and the line of the log.
use Rattle.std.specs.Prelude.{◌≡◌, ℕ, List, [], ◌∷◌, ◌++◌, codes, decimal, Result, MatchResult}
use Rattle.off_http.specs.Reply.{reply}
use Rattle.off_orders.specs.declared.orders.Reply.{Reply}
use Rattle.off_defs.specs.declared.results.Sent.TheVariants.{Close}
use Rattle.off_defs.specs.declared.results.Outcome.{Outcome}
use Rattle.off_defs.specs.declared.results.Outcome.TheVariants as end
use Rattle.off_defs.specs.State.{Said}
use Rattle.off_clerk_rules.specs.declared.faults.Fault.{Fault}
use Rattle.off_clerk_rules.specs.Faults.{word_of, status_of, fault_text}
use Rattle.off_clerk_rules.specs.Replies.{reply_text}
use Rattle.off_book.specs.Http.{Answered, answer_and_close}
use Rattle.off_outside.specs.declared.keeper.KeepErr.{KeepErr}
use Rattle.off_outside.specs.declared.keeper.KeepErr.TheVariants as keep

-- an answer on a connection, its end, and the line of the log
abbrev pub said_as : ℕ → ℕ → List ℕ → List ℕ → Said
said_as conn status body line =
    record { items = answer_and_close conn (reply status body); line = line }

abbrev pub said_to : ℕ → Answered → Said
said_to conn answer = said_as conn answer.status answer.body (codes "http " ++ answer.words)

abbrev pub fault_line : ℕ → List ℕ → List ℕ
fault_line status word = codes "http " ++ (decimal status ++ codes " " ++ word)

abbrev pub fault_said : ℕ → Fault → Said
fault_said conn f = said_as conn (status_of f) (fault_text f) (fault_line (status_of f) (word_of f))

abbrev pub reply_said : ℕ → Reply → Said
reply_said conn done = said_as conn 200 (reply_text done) (codes "http 200")

abbrev pub busy_said : ℕ → Said
busy_said conn = record { items = Close conn ∷ []; line = codes "http busy" }

-- a line alone
abbrev pub failed_said : List ℕ → Said
failed_said line = record { items = []; line = line }

-- this was said, or memory was wanted
abbrev pub IsSaid : Result (Unit {0}) KeepErr → Said → Said → Type 0
IsSaid result said what = MatchResult result (λ _. said ≡ what) (λ err. err ≡ keep.Memory)

-- why a piece couldn't be acted on is said
abbrev pub Fails : KeepErr → Outcome → Said → Type 0
Fails keep.Memory outcome said = (outcome ≡ end.Memory) × (said ≡ failed_said (codes "http memory"))
Fails keep.Failed outcome said = (outcome ≡ end.Keeper) × (said ≡ failed_said (codes "http keeper"))
