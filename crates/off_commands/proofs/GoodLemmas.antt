-- What is planned of a command leaves good tables good.
use Rattle.std.proofs.Common.{◌≡◌, ℕ, Result, Ok, Err, IfOk, MatchResult, subst}
use Rattle.std.specs.Prelude.{IsTrue}
use Rattle.off_orders.specs.declared.orders.Command.{Command}
use Rattle.off_orders.specs.Sound.{is_sound}
use Rattle.off_account_rules.specs.declared.counts.Counts.{Counts}
use Rattle.off_account_rules.specs.Rows.{counts_of}
use Rattle.off_account_rules.specs.Good.{Good}
use Rattle.off_orders.specs.Clerk.{Decision, stepped_by, clerk_step}
use Rattle.off_order_laws.proofs.StepLaws.{step_keeps_good}
use Rattle.off_users.specs.Users.{UsersHeld, StandsFor}
use Rattle.off_outside.specs.KeeperSeen.{KeeperSeen}
use Rattle.off_outside.specs.KeeperCalls.{Reads}
use Rattle.off_accounts.specs.declared.results.Planned.{Planned}
use Rattle.off_accounts.specs.declared.results.AccountErr.{AccountErr}
use Rattle.off_accounts.specs.Deciding.{IsDecided, NotDecided}
use Rattle.off_commands.specs.Commands.{KeepsGood}

planned_good : (counts : Counts) (users : UsersHeld) (now : ℕ) (command : Command) (planned : Planned) (old new : KeeperSeen) → IsTrue (is_sound command)
    → Reads (λ t. counts ≡ counts_of t → StandsFor users t → IsDecided counts now command planned t) old new → KeepsGood counts users command planned old
unfolding clerk_step
planned_good counts users now command planned old new sound reads t told agree used fits good =
    let is = (reads.tables t told).1 agree used in
    subst (λ (d : Decision). Good (stepped_by t d).tables) is.accepted (step_keeps_good t now command sound fits good)

-- the same of what `decide` answers
pub decided_good : (counts : Counts) (users : UsersHeld) (now : ℕ) (command : Command) (result : Result Planned AccountErr) (old new : KeeperSeen) → IsTrue (is_sound command)
    → MatchResult result (λ planned. Reads (λ t. counts ≡ counts_of t → StandsFor users t → IsDecided counts now command planned t) old new) (λ err. NotDecided counts users now command err old new)
    → IfOk result (λ planned. KeepsGood counts users command planned old)
decided_good counts users now command (Ok planned) old new sound reads = planned_good counts users now command planned old new sound reads
decided_good counts users now command (Err err) old new sound not = tt
