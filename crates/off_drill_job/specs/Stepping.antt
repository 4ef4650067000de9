-- What a drill does to its keeper: its commits, and what a crash meanwhile may open. The office is
-- given commands first, all at the drill's first moment, and then acts on events.
use Rattle.std.specs.Prelude.{◌≡◌, ℕ, ◌≤◌, false, List, ◌++◌, map, fold}
use Rattle.off_orders.specs.declared.orders.Command.{Command}
use Rattle.off_defs.specs.declared.writes.Write.{Write}
use Rattle.off_defs.specs.Counts.{commits_after}
use Rattle.off_defs.specs.Told.{Told}
use Rattle.off_defs.specs.State.{Tables, Held, state_of}
use Rattle.off_orders.specs.Clerk.{clerk_step}
use Rattle.off_account_rules.specs.Migration.{migration}
use Rattle.off_book.specs.Run.{Turn, commits_by}
use Rattle.off_book.specs.Crashes.{Saves}
use Rattle.off_outside.specs.KeeperSeen.{KeeperSeen}
use Rattle.off_office.specs.Opening.{SavesOpened}
use Rattle.off_office.specs.Given.{Given, JobStep, CommandStep, TurnStep, job_steps}
use Rattle.off_office.specs.Conditions.{WhereFit}
use Rattle.off_office.specs.Desk.{Desk}
use Rattle.off_drill_rules.specs.Rows.{begins_at}

abbrev pub commands_of : List Given → List Command
commands_of given = map (λ one. one.command) given

-- a counter of commits behind commands: each makes one commit at most
abbrev pub commits_given : List Given → ℕ → ℕ
commits_given given commits = fold (λ count one. commits_after one.commit count) commits given

-- what the book's step of a command writes
abbrev pub book_writes : Tables → Command → List Write
book_writes t command = (clerk_step t begins_at command).writes

-- commands, and then turns, as the steps of a job
abbrev pub steps_of : List Given → List Turn → List JobStep
steps_of given turns = map CommandStep given ++ map TurnStep turns

-- What commands and turns did to the keeper, from an office to what it keeps after them: each that
-- wrote anything made one commit, nothing else made one, and at each moment so many of them are safe.
pub record KeeperDid (given : List Given) (turns : List Turn) (before after : Desk)
    (old new : KeeperSeen) : Type 0 where
  pub commits : new.commits ≡ commits_by turns (commits_given given old.commits)
  pub later : old.moment ≤ new.moment
  pub past : (m : ℕ) (u : Tables) → m ≤ old.moment → new.opened m u → old.opened m u
  pub crash : Told old.tables new.tables (WhereFit before after (λ t u.
      Saves (job_steps begins_at) old.doubt old.moment (state_of t before.held)
      (steps_of given turns) new.opened new.doubt false new.moment (state_of u after.held)))

-- The same from the opening of the tables on, which may have made a commit first, the migration's.
pub record KeeperDrilled (given : List Given) (turns : List Turn) (old new : KeeperSeen) : Type 0
  where
    pub first : List Write
    pub are : (t : Tables) → old.tables t → first ≡ migration t
    pub commits : new.commits
        ≡ commits_by turns (commits_given given (commits_after first old.commits))
    pub crash : Told old.tables new.tables (λ t u.
        (held : Held)
        × SavesOpened (job_steps begins_at) old new t (steps_of given turns) (state_of u held))
