-- What the commands of a drill do to the tables.
use Rattle.std.specs.Prelude.{◌≡◌, ◌≢◌, ◌≤◌, List, [], ◌∷◌, ◌++◌, length, All, Result, Ok, Err}
use Rattle.off_orders.specs.declared.orders.Command.{Command}
use Rattle.off_defs.specs.declared.writes.Write.{Write}
use Rattle.off_defs.specs.declared.results.Outcome.TheVariants.{Did}
use Rattle.off_defs.specs.Counts.{Tallied}
use Rattle.off_defs.specs.Told.{Told}
use Rattle.off_defs.specs.State.{Tables}
use Rattle.off_account_rules.specs.Good.{Good}
use Rattle.off_orders.specs.Clerk.{clerk_step}
use Rattle.off_outside.specs.declared.keeper.KeepErr.{KeepErr}
use Rattle.off_outside.specs.declared.keeper.KeepErr.TheVariants as keep
use Rattle.off_accounts.specs.declared.results.AccountErr.{AccountErr}
use Rattle.off_accounts.specs.declared.results.AccountErr.TheVariants.{Refused, Failed, Memory}
use Rattle.off_outside.specs.KeeperSeen.{KeeperSeen}
use Rattle.off_outside.specs.KeeperCalls.{StaysUp, keeper_faults_in}
use Rattle.off_office.specs.Conditions.{Fits}
use Rattle.off_office.specs.Desk.{Desk}
use Rattle.off_drill_rules.specs.Rows.{begins_at}
use Rattle.off_office.specs.Given.{Given}
use Rattle.off_drill_job.specs.Stepping.{commands_of, KeeperDid}

-- A command was given to the office at the drill's first moment: the tables are those of the book's
-- step, which are as before where a rule refuses it.
pub record GaveCommand (command : Command) (before after : Desk) (old new : KeeperSeen)
    : Type 0 where
  pub commit : List Write
  pub tables : Told old.tables new.tables (λ t u.
      Fits before t → Fits after u × (u ≡ (clerk_step t begins_at command).tables))
  pub up : old.up → new.up
  pub faults : new.faults ≡ old.faults
  pub keeper :
      KeeperDid (record { command = command; outcome = Did; commit = commit } ∷ []) [] before after
      old new

abbrev pub AllGiven : List Given → Type 0
AllGiven given = All (λ one. one.outcome ≡ Did) given

-- These commands were done, which make these tables of those.
pub record Builds (commands : List Command) (from to : Tables) (before after : Desk)
    (old new : KeeperSeen) : Type 0 where
  pub given : List Given
  pub did : AllGiven given
  pub are : commands_of given ≡ commands
  pub tables : Told old.tables new.tables (λ t u.
      Fits before t → Fits after u × (t ≡ from → u ≡ to))
  pub up : old.up → new.up
  pub faults : new.faults ≡ old.faults
  pub keeper : KeeperDid given [] before after old new

-- commands that were done, and behind them at most one that wasn't, are a front of these
pub record GaveFront (commands : List Command) (given lost : List Given) : Type 0 where
  pub did : AllGiven given
  pub few : length lost ≤ 1
  pub undone : All (λ one. one.outcome ≢ Did) lost
  pub rest : List Command
  pub front : commands_of (given ++ lost) ++ rest ≡ commands

-- Commands couldn't all be acted on; the tables are good still.
pub record Halts (err : KeepErr) (commands : List Command) (before : Desk) (old new : KeeperSeen)
    : Type 0 where
  pub after : Desk
  pub given : List Given
  pub lost : List Given
  pub gave : GaveFront commands given lost
  pub tables : Told old.tables new.tables (λ t u. Fits before t → Good u)
  pub up : StaysUp old new
  pub faults : Tallied (keeper_faults_in err) old.faults new.faults
  pub keeper : KeeperDid (given ++ lost) [] before after old new

-- a rule's refusal is passed over
abbrev pub PassesOver : AccountErr → Result (Unit {0}) KeepErr → Type 0
PassesOver (Refused row broken) result = result ≡ Ok tt
PassesOver Failed result = result ≡ Err keep.Failed
PassesOver Memory result = result ≡ Err keep.Memory
