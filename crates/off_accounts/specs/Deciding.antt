-- What `decide` says of a command: what is to be written and answered, or which rule refuses it.
use Rattle.std.specs.Prelude.{◌≡◌, ℕ, Bool, true, false, IsTrue, [], Option, Some, None, Result, Ok, Err}
use Rattle.off_base.specs.Choices.{first_there}
use Rattle.off_orders.specs.declared.orders.Command.{Command}
use Rattle.off_orders.specs.declared.orders.Command.TheVariants.{PutHub, PutSubscriber, PutAddOn, PutModem, PutClass, PutPool, PutDevicePool, Remove, Show, Import}
use Rattle.off_defs.specs.declared.keys.Key.{Key}
use Rattle.off_defs.specs.declared.keys.Key.TheVariants as key
use Rattle.off_orders.specs.declared.orders.Reply.TheVariants.{Done, Shown, ShownPool}
use Rattle.off_defs.specs.declared.tables.Row.{Row}
use Rattle.off_defs.specs.declared.tables.Row.TheVariants as row
use Rattle.off_defs.specs.declared.tables.Pool.{Pool}
use Rattle.off_orders.specs.declared.shown.ShownRow.{ShownRow}
use Rattle.off_orders.specs.declared.orders.Reply.{Reply}
use Rattle.off_orders.specs.Shown.{shown_row}
use Rattle.off_defs.specs.State.{Tables}
use Rattle.off_defs.specs.Tables.{write_all}
use Rattle.off_account_rules.specs.declared.counts.Counts.{Counts}
use Rattle.off_account_rules.specs.Rows.{is_possible, counts_of}
use Rattle.off_orders.specs.Clerk.{rules_of, writes_of, decided, by_rule, accepted, refusal}
use Rattle.off_orders.specs.declared.rules.Rule.{Rule}
use Rattle.off_users.specs.Users.{UsersHeld, StandsFor}
use Rattle.off_outside.specs.declared.keeper.KeepErr.{KeepErr}
use Rattle.off_outside.specs.declared.keeper.KeepErr.TheVariants as keeper
use Rattle.off_outside.specs.KeeperSeen.{KeeperSeen}
use Rattle.off_outside.specs.KeeperCalls.{Reads, NotDone}
use Rattle.off_accounts.specs.declared.results.Planned.{Planned}
use Rattle.off_accounts.specs.declared.results.AccountErr.{AccountErr}
use Rattle.off_accounts.specs.declared.results.AccountErr.TheVariants.{Refused, Failed, Memory}

-- imports are decided in off_commands
abbrev pub is_import : Command → Bool
is_import (Import kind batch digest rows) = true
is_import (PutHub n site) = false
is_import (PutSubscriber n subscriber) = false
is_import (PutAddOn n number settings) = false
is_import (PutModem mac modem) = false
is_import (PutClass n class) = false
is_import (PutPool n pool hub) = false
is_import (PutDevicePool n pool) = false
is_import (Remove key) = false
is_import (Show key) = false

-- how many calls of the keeper a command makes at most, where it makes no walk over pools or
-- leases: with a subscriber go its add-ons, each of which is looked up
abbrev pub most_calls_removing : Key → Option ℕ
most_calls_removing key.Site = Some 1
most_calls_removing (key.Subscriber n) = Some 9
most_calls_removing (key.AddOn n number) = Some 1
most_calls_removing (key.Modem mac) = Some 1
most_calls_removing (key.Class n) = Some 1
most_calls_removing (key.Pool n) = None
most_calls_removing (key.Lease address) = Some 1
most_calls_removing (key.Held mac) = Some 1
most_calls_removing (key.Batch n) = Some 1
most_calls_removing (key.Hub n) = None
most_calls_removing (key.PoolHub n) = Some 1
most_calls_removing (key.DevicePool n) = None
most_calls_removing (key.Device address) = Some 1

-- a pool is shown with its hub, which is a call of its own
abbrev pub calls_to_show : Key → ℕ
calls_to_show (key.Pool n) = 2
calls_to_show other = 1

abbrev pub most_calls : Command → Option ℕ
most_calls (PutHub n site) = Some 1
most_calls (PutSubscriber n subscriber) = Some 1
most_calls (PutAddOn n number settings) = Some 2
most_calls (PutModem mac modem) = Some 3
most_calls (PutClass n class) = Some 1
most_calls (PutPool n pool hub) = None
most_calls (PutDevicePool n pool) = None
most_calls (Remove removed) = most_calls_removing removed
most_calls (Show shown) = Some (calls_to_show shown)
most_calls (Import kind batch digest rows) = None

-- how many of them are made to count what is gone
abbrev pub calls_to_count_removed : Key → ℕ
calls_to_count_removed (key.Subscriber n) = 8
calls_to_count_removed key.Site = 0
calls_to_count_removed (key.AddOn n number) = 0
calls_to_count_removed (key.Modem mac) = 0
calls_to_count_removed (key.Class n) = 0
calls_to_count_removed (key.Pool n) = 0
calls_to_count_removed (key.Lease address) = 0
calls_to_count_removed (key.Held mac) = 0
calls_to_count_removed (key.Batch n) = 0
calls_to_count_removed (key.Hub n) = 0
calls_to_count_removed (key.PoolHub n) = 0
calls_to_count_removed (key.DevicePool n) = 0
calls_to_count_removed (key.Device address) = 0

abbrev pub calls_to_count : Command → ℕ
calls_to_count (Remove removed) = calls_to_count_removed removed
calls_to_count (PutHub n site) = 0
calls_to_count (PutSubscriber n subscriber) = 0
calls_to_count (PutAddOn n number settings) = 0
calls_to_count (PutModem mac modem) = 0
calls_to_count (PutClass n class) = 0
calls_to_count (PutPool n pool hub) = 0
calls_to_count (PutDevicePool n pool) = 0
calls_to_count (Show shown) = 0
calls_to_count (Import kind batch digest rows) = 0

-- a command that the book decides by its list of rules
abbrev pub IsByRules : Command → Type 0
IsByRules c =
    (t : Tables) (now : ℕ) → decided t now c
    ≡ by_rule 0 (accepted (writes_of t c) Done) (first_there (rules_of t now c))

-- the error where the keeper didn't do a call
abbrev pub not_kept : KeepErr → AccountErr
not_kept keeper.Memory = Memory
not_kept keeper.Failed = Failed

-- what a command is answered that was planned, or that a rule refused
abbrev pub clerk_answer : Result (Result Planned Rule) KeepErr → Result Planned AccountErr
clerk_answer (Ok (Ok planned)) = Ok planned
clerk_answer (Ok (Err broken)) = Err (Refused 0 broken)
clerk_answer (Err kept) = Err (not_kept kept)

-- What was planned is what becomes of the command, and its counts are those of the tables once the
-- writes are done.
pub record IsDecided (counts : Counts) (now : ℕ) (command : Command) (planned : Planned)
    (t : Tables) : Type 0 where
  pub accepted : decided t now command ≡ Ok (accepted planned.writes planned.reply)
  pub counted : planned.counts ≡ counts_of (write_all t planned.writes)

-- the command is planned so, or this rule refuses it, where the counts are those of the tables, and
-- what is known of who uses what is theirs
abbrev pub IsRuling : Counts → UsersHeld → ℕ → Command → Tables → Result Planned Rule → Type 0
IsRuling counts users now command t (Ok planned) =
    counts ≡ counts_of t → StandsFor users t → IsDecided counts now command planned t
IsRuling counts users now command t (Err broken) =
    counts ≡ counts_of t → StandsFor users t → decided t now command ≡ Err (refusal 0 broken)

-- the command isn't to be done: a rule refuses it, or the keeper failed, or memory was wanted
abbrev pub NotDecided : Counts → UsersHeld → ℕ → Command → AccountErr → KeeperSeen → KeeperSeen
    → Type 0
NotDecided counts users now command (Refused row broken) old new =
    Reads (λ t. counts ≡ counts_of t → StandsFor users t
    → decided t now command ≡ Err (refusal row broken)) old new
NotDecided counts users now command Failed old new = NotDone keeper.Failed old new
NotDecided counts users now command Memory old new = NotDone keeper.Memory old new

-- the row of a key as a clerk is shown it, which is of the key's kind; a pool with the number of
-- its hub
pub record ShowsRow (key : Key) (reply : Reply) : Type 0 where
  pub held : Row
  pub seen : ShownRow
  pub possible : IsTrue (is_possible key held)
  pub seen_is : shown_row held ≡ Some seen
  pub answers : reply ≡ Shown key seen

pub record ShowsPool (n : ℕ) (reply : Reply) : Type 0 where
  pub pool : Pool
  pub hub : ℕ
  pub possible : IsTrue (is_possible (key.Pool n) (row.Pool pool))
  pub answers : reply ≡ ShownPool n pool hub

abbrev pub ShowsAt : Key → Reply → Type 0
ShowsAt (key.Pool n) reply = ShowsPool n reply
ShowsAt other reply = ShowsRow other reply

-- What a command is answered that is done, whatever the tables: one that shows a row shows it, and
-- then nothing is written; any other just says that it was done. What an import answers,
-- off_commands says.
abbrev pub AnswersCommand : Command → Planned → Type 0
AnswersCommand (Show key) planned = ShowsAt key planned.reply × (planned.writes ≡ [])
AnswersCommand (Import kind batch digest rows) planned = Unit {0}
AnswersCommand (PutHub n site) planned = planned.reply ≡ Done
AnswersCommand (PutSubscriber n subscriber) planned = planned.reply ≡ Done
AnswersCommand (PutAddOn n number settings) planned = planned.reply ≡ Done
AnswersCommand (PutModem mac modem) planned = planned.reply ≡ Done
AnswersCommand (PutClass n class) planned = planned.reply ≡ Done
AnswersCommand (PutPool n pool hub) planned = planned.reply ≡ Done
AnswersCommand (PutDevicePool n pool) planned = planned.reply ≡ Done
AnswersCommand (Remove key) planned = planned.reply ≡ Done
