-- What `decide` says of an import besides what it says of each command.
use Rattle.std.specs.Prelude.{◌≡◌, ℕ, ◌+◌, ◌*◌, Option, Some, None, length, IsTrue}
use Rattle.off_orders.specs.declared.orders.Command.{Command}
use Rattle.off_orders.specs.declared.orders.Command.TheVariants.{PutHub, PutSubscriber, PutAddOn, PutModem, PutClass, PutPool, PutDevicePool, Remove, Show, Import}
use Rattle.off_orders.specs.declared.orders.Reply.TheVariants.{Rows}
use Rattle.off_defs.specs.State.{Tables}
use Rattle.off_defs.specs.Tables.{write_all}
use Rattle.off_account_rules.specs.declared.counts.Counts.{Counts}
use Rattle.off_account_rules.specs.Rows.{counts_of}
use Rattle.off_account_rules.specs.Good.{Good}
use Rattle.off_order_laws.specs.Laws.{secret_fits}
use Rattle.off_users.specs.Users.{UsersHeld, StandsFor}
use Rattle.off_outside.specs.KeeperSeen.{KeeperSeen}
use Rattle.off_accounts.specs.declared.results.Planned.{Planned}

-- an import that is done is answered with a number of rows
abbrev pub AnswersImport : Command → Planned → Type 0
AnswersImport (Import kind batch digest rows) planned = (n : ℕ) × (planned.reply ≡ Rows n)
AnswersImport (PutHub n site) planned = Unit {0}
AnswersImport (PutSubscriber n subscriber) planned = Unit {0}
AnswersImport (PutAddOn n number settings) planned = Unit {0}
AnswersImport (PutModem mac modem) planned = Unit {0}
AnswersImport (PutClass n class) planned = Unit {0}
AnswersImport (PutPool n pool hub) planned = Unit {0}
AnswersImport (PutDevicePool n pool) planned = Unit {0}
AnswersImport (Remove key) planned = Unit {0}
AnswersImport (Show key) planned = Unit {0}

-- good tables stay good behind what is planned, where the counts were theirs, and what was known of
-- who uses what; a site's secret has 64 bytes at most
abbrev pub KeepsGood : Counts → UsersHeld → Command → Planned → KeeperSeen → Type 0
KeepsGood counts users command planned old =
    (t : Tables) → old.tables t → counts ≡ counts_of t → StandsFor users t
    → IsTrue (secret_fits command) → Good t → Good (write_all t planned.writes)

-- how many calls of the keeper an import makes at most: one for its batch, and three for each row
abbrev pub most_import_calls : Command → Option ℕ
most_import_calls (Import kind batch digest rows) = Some (1 + 3 * length rows)
most_import_calls (PutHub n site) = None
most_import_calls (PutSubscriber n subscriber) = None
most_import_calls (PutAddOn n number settings) = None
most_import_calls (PutModem mac modem) = None
most_import_calls (PutClass n class) = None
most_import_calls (PutPool n pool hub) = None
most_import_calls (PutDevicePool n pool) = None
most_import_calls (Remove key) = None
most_import_calls (Show key) = None
