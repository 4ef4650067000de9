-- The counts of rows behind a command that no rule refuses.
use Rattle.std.specs.Prelude.{◌≡◌, ℕ, None}
use Rattle.off_base.specs.Choices.{first_there}
use Rattle.off_defs.specs.declared.keys.Key.{Key}
use Rattle.off_orders.specs.declared.orders.Command.{Command}
use Rattle.off_defs.specs.State.{Tables}
use Rattle.off_defs.specs.Tables.{write_all}
use Rattle.off_account_rules.specs.declared.counts.Counts.{Counts}
use Rattle.off_account_rules.specs.Rows.{counts_of}
use Rattle.off_orders.specs.Clerk.{rules_of, no_row, writes_of, removal_writes}
use Rattle.off_accounts.specs.declared.subject.Subject.{Subject}
use Rattle.off_accounts.specs.Tests.{IsSubject}

abbrev pub CountsAfter : Counts → Subject → Command → Tables → Counts → Type 0
CountsAfter counts subject c t after =
    (now : ℕ) → counts ≡ counts_of t → IsSubject c subject t →
    first_there (rules_of t now c) ≡ None → after ≡ counts_of (write_all t (writes_of t c))

abbrev pub CountsAfterRemoval : Counts → Key → Tables → Counts → Type 0
CountsAfterRemoval counts removed t after =
    counts ≡ counts_of t → no_row t removed ≡ None →
    after ≡ counts_of (write_all t (removal_writes t removed))
