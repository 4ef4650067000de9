-- Laws of what a clerk's command makes of good tables.
use Rattle.std.specs.Prelude.{◌≡◌, ℕ, Bool, true, IsTrue, nat_le, length, Err}
use Rattle.off_orders.specs.declared.orders.Command.{Command}
use Rattle.off_orders.specs.declared.orders.Command.TheVariants.{PutHub}
use Rattle.off_orders.specs.Sound.{is_sound}
use Rattle.off_orders.specs.Clerk.{Refusal, clerk_step}
use Rattle.off_defs.specs.State.{Tables}
use Rattle.off_account_rules.specs.Good.{Good}

-- A site's secret has at most 64 bytes, by its type. But a law ranges over lists of any length, and
-- no rule of a command refuses a longer one, so the law of steps has this as a premise.
abbrev pub secret_fits : Command → Bool
secret_fits (PutHub n site) = nat_le (length site.secret) 64
secret_fits command = true

-- what a command leaves of good tables is good
abbrev pub StepKeepsGood : Type 0
StepKeepsGood =
    (tables : Tables) (now : ℕ) (command : Command) → IsTrue (is_sound command) →
    IsTrue (secret_fits command) → Good tables
    → Good (clerk_step tables now command).tables

-- a command that is refused changes no table
abbrev pub RefusedChangesNothing : Type 0
RefusedChangesNothing =
    (tables : Tables) (now : ℕ) (command : Command) (refused : Refusal) →
    (clerk_step tables now command).answer ≡ Err refused
    → (clerk_step tables now command).tables ≡ tables
