-- How an import ends.
use Rattle.std.specs.Prelude.{ℕ, ◌==◌, List, [], ◌∷◌, ◌++◌, codes, decimal, if◌then◌else◌}
use Rattle.off_orders.specs.declared.rules.Rule.{Rule}
use Rattle.off_orders.specs.declared.rules.Rule.TheVariants as rule
use Rattle.off_clerk_rules.specs.Faults.{rule_word}
use Rattle.off_import_rules.specs.Faults.{fault_words}
use Rattle.off_import_rules.specs.declared.faults.ImportErr.{ImportErr}
use Rattle.off_import_rules.specs.declared.faults.ImportErr.TheVariants as import_err
use Rattle.off_accounts.specs.declared.results.AccountErr.{AccountErr}
use Rattle.off_accounts.specs.declared.results.AccountErr.TheVariants as account_err
use Rattle.off_jobs.specs.Ending.{Ending, ending_of, keeper_refused, memory_refused, refused_as, unread_end}
use Rattle.off_office.specs.Closed.{closed_end}
use Rattle.off_import_job.specs.declared.importing.Ended.{Ended}
use Rattle.off_import_job.specs.declared.importing.Ended.TheVariants.{Closed, Unread, NoImport, NotDone, Done}

-- `rows`, and how many there are
abbrev pub rows_line : ℕ → List ℕ
rows_line rows = codes "rows " ++ (decimal rows ++ 10 ∷ [])

-- a rule's word, and the row that breaks it. Row 0 is none of them
abbrev pub row_words : ℕ → List ℕ → List ℕ
row_words row word = if row == 0 then word else (word ++ codes " row ") ++ decimal row

-- of a batch that was done with another kind or body the number is told
abbrev pub broken_words : ℕ → Rule → List ℕ
broken_words row (rule.BatchDiffers batch) = codes "batch-differs " ++ decimal batch
broken_words row broken = row_words row (rule_word broken)

abbrev pub fault_end : ImportErr → Ending
fault_end (import_err.Fault fault) = refused_as 9 (fault_words fault)
fault_end import_err.Memory = memory_refused

abbrev pub refusal_end : AccountErr → Ending
refusal_end (account_err.Refused row broken) = refused_as 9 (broken_words row broken)
refusal_end account_err.Failed = keeper_refused
refusal_end account_err.Memory = memory_refused

abbrev pub import_end : Ended → Ending
import_end (Closed err) = closed_end err
import_end (Unread err) = unread_end 9 err
import_end (NoImport err) = fault_end err
import_end (NotDone err) = refusal_end err
import_end (Done rows) = ending_of 0 (rows_line rows)
