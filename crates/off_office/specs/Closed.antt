-- How a run or a job ends whose tables don't open, and two words for what tables may be.
use Rattle.std.specs.Prelude.{◌≡◌, ℕ, ◌⊎◌}
use Rattle.off_defs.specs.State.{Tables}
use Rattle.off_orders.specs.declared.orders.Command.{Command}
use Rattle.off_rows.specs.KeyText.{key_text_of}
use Rattle.off_account_rules.specs.Good.{Good}
use Rattle.off_orders.specs.Clerk.{clerk_step}
use Rattle.off_outside.specs.KeeperCalls.{IsWritten}
use Rattle.off_jobs.specs.Ending.{Ending, tables_refused, keeper_refused, memory_refused}
use Rattle.off_office.specs.declared.office.StartErr.{StartErr}
use Rattle.off_office.specs.declared.office.StartErr.TheVariants.{Bad, Failed, Memory}

-- how it ends where the tables don't open
abbrev pub closed_end : StartErr → Ending
closed_end (Bad key) = tables_refused (key_text_of key)
closed_end Failed = keeper_refused
closed_end Memory = memory_refused

-- the tables that a command would leave at a moment
abbrev pub Would : ℕ → Command → Tables → Tables → Type 0
Would now command t u = IsWritten (clerk_step t now command).writes t u

-- the tables are as before, or good
abbrev pub SameOrGood : Tables → Tables → Type 0
SameOrGood t u = (u ≡ t) ⊎ Good u
