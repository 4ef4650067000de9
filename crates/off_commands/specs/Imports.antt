-- An import on its way: the rows that are decided so far, and what becomes of the next one.
use Rattle.std.specs.Prelude.{◌≡◌, ℕ, ◌||◌, ◌&&◌, Bool, true, false, cond, List, [], ◌∷◌, ◌++◌, Some, None, is_some, Result, Ok, Err}
use Rattle.std.specs.Ordering.{eq_by_cmp, nat_cmp}
use Rattle.std.specs.Cmp.Lexicographic.{slice_cmp}
use Rattle.std.specs.BTreeSet.{BTreeSet, contains}
use Rattle.off_defs.specs.declared.keys.Key.{Key}
use Rattle.off_defs.specs.declared.keys.Key.TheVariants as key
use Rattle.off_defs.specs.declared.tables.Row.{Row}
use Rattle.off_defs.specs.declared.tables.Row.TheVariants as row
use Rattle.off_defs.specs.declared.tables.Batch.{Batch}
use Rattle.off_defs.specs.declared.kinds.Kind.{Kind}
use Rattle.off_defs.specs.declared.kinds.Kind.TheVariants.{Batches}
use Rattle.off_orders.specs.declared.orders.Reply.TheVariants.{Rows}
use Rattle.off_orders.specs.declared.orders.Command.TheVariants.{Import}
use Rattle.off_orders.specs.declared.orders.ImportRow.{ImportRow}
use Rattle.off_orders.specs.declared.orders.ImportRow.TheVariants as imported
use Rattle.off_defs.specs.declared.writes.Write.{Write}
use Rattle.off_defs.specs.declared.writes.Write.TheVariants.{Put}
use Rattle.off_orders.specs.declared.rules.Rule.{Rule}
use Rattle.off_defs.specs.Keys.{key_cmp}
use Rattle.off_defs.specs.State.{Tables}
use Rattle.off_defs.specs.Tables.{write_all}
use Rattle.off_orders.specs.Sound.{is_sound}
use Rattle.off_account_rules.specs.declared.counts.Counts.{Counts}
use Rattle.off_account_rules.specs.Rows.{seen_at, counts_of}
use Rattle.off_orders.specs.Clerk.{command_of, row_breaks, row_writes, rows_written, decided, is_kind, repeated, accepted, refusal}
use Rattle.off_outside.specs.declared.keeper.KeepErr.{KeepErr}
use Rattle.off_accounts.specs.declared.results.Planned.{Planned}
use Rattle.off_accounts.specs.declared.results.AccountErr.{AccountErr}
use Rattle.off_accounts.specs.declared.results.AccountErr.TheVariants.{Refused as RefusedAt}
use Rattle.off_accounts.specs.Changes.{counts_put}
use Rattle.off_accounts.specs.Tests.{limit_rule}
use Rattle.off_accounts.specs.Deciding.{IsDecided, not_kept}
use Rattle.off_commands.specs.declared.progress.Progress.{Progress}
use Rattle.off_commands.specs.declared.putting.Refused.{Refused}

-- a row puts this row at this key
abbrev pub row_key : ImportRow → Key
row_key (imported.Subscriber n subscriber) = key.Subscriber n
row_key (imported.Modem mac modem) = key.Modem mac

abbrev pub row_held : ImportRow → Row
row_held (imported.Subscriber n subscriber) = row.Subscriber subscriber
row_held (imported.Modem mac modem) = row.Modem modem

abbrev pub put_of : ImportRow → Write
put_of put = Put (row_key put) (row_held put)

abbrev pub is_sound_row : ImportRow → Bool
is_sound_row put = is_sound (command_of put)

-- whether a key is among those that were put, and what it is to mark one more
unfoldable pub was_put : BTreeSet Key → Key → Bool
was_put keys key = contains key_cmp keys key

abbrev pub Marked : Key → BTreeSet Key → BTreeSet Key → Type 0
Marked key old new = (q : Key) → was_put new q ≡ cond (eq_by_cmp key_cmp q key) true (was_put old q)

-- behind the writes a key has a row where it was put, or where it had one before
abbrev pub Shows : Progress → Type 0
Shows p =
    (t : Tables) (q : Key)
    → is_some (seen_at (write_all t p.writes) q) ≡ (was_put p.keys q || is_some (seen_at t q))

-- What holds of the rows so far, whatever the tables. No batch is put, so there are as many of them
-- as before.
pub record Stands (counts : Counts) (p : Progress) : Type 0 where
  pub shows : Shows p
  pub no_batch : (n : ℕ) → was_put p.keys (key.Batch n) ≡ false
  pub batches : p.counts.batches ≡ counts.batches

-- one more row was put
pub record IsPut (put : ImportRow) (old new : Progress) : Type 0 where
  pub writes : new.writes ≡ old.writes ++ put_of put ∷ []
  pub stands : (counts : Counts) → Stands counts old → Stands counts new

-- the counts behind a put of a kind at a key that has a row or hasn't, or the rule that refuses it
abbrev pub IsCounted : Counts → Kind → Bool → Result Counts Rule → Type 0
IsCounted counts kind there (Ok after) =
    (limit_rule counts kind there ≡ None) × (after ≡ counts_put kind there counts)
IsCounted counts kind there (Err broken) = limit_rule counts kind there ≡ Some broken

-- what becomes of a row over tables: the counts behind it, or the first rule that it breaks
abbrev pub IsJudged : Tables → ImportRow → Result Counts Rule → Type 0
IsJudged t put (Ok after) =
    ((now : ℕ) → row_breaks t now put ≡ None) × (after ≡ counts_of (write_all t (row_writes t put)))
IsJudged t put (Err broken) = (now : ℕ) → row_breaks t now put ≡ Some broken

abbrev pub IsStep : Tables → ImportRow → Progress → Progress → Result (Unit {0}) Rule → Type 0
IsStep t put old new (Ok done) =
    ((now : ℕ) → row_breaks (write_all t old.writes) now put ≡ None)
    × (new.counts ≡ counts_of (write_all t new.writes))
IsStep t put old new (Err broken) =
    (now : ℕ) → row_breaks (write_all t old.writes) now put ≡ Some broken

-- what becomes of all rows
abbrev pub AreRowsPut : Tables → List ImportRow → Result Progress Refused → Type 0
AreRowsPut t rows (Ok p) =
    ((now : ℕ) → rows_written t now 1 rows ≡ Ok p.writes)
    × (p.counts ≡ counts_of (write_all t p.writes))
AreRowsPut t rows (Err refused) =
    (now : ℕ) → rows_written t now 1 rows ≡ Err (refusal refused.row refused.rule)

-- whether a batch is of the same kind and body as one that was done before, and what becomes of it
-- then
abbrev pub is_same : Batch → Batch → Bool
is_same batch old =
    is_kind batch.kind old.kind && eq_by_cmp (slice_cmp nat_cmp) batch.digest old.digest

abbrev pub IsRepeated : Counts → ℕ → Batch → Batch → Result Planned Refused → Type 0
IsRepeated counts number batch old (Ok planned) =
    (repeated batch.kind number batch.digest old ≡ Ok (accepted planned.writes planned.reply))
    × (planned.writes ≡ []) × (planned.counts ≡ counts) × (planned.reply ≡ Rows old.rows)
IsRepeated counts number batch old (Err refused) =
    repeated batch.kind number batch.digest old ≡ Err (refusal refused.row refused.rule)

-- the row of the batch was put behind the rows, or there are as many batches as there may be
pub record Finished (number : ℕ) (batch : Batch) (p : Progress) (planned : Planned) : Type 0 where
  pub within : limit_rule p.counts Batches false ≡ None
  pub writes : planned.writes ≡ p.writes ++ Put (key.Batch number) (row.Batch batch) ∷ []
  pub reply : planned.reply ≡ Rows batch.rows
  pub counts : planned.counts ≡ counts_put Batches false p.counts

abbrev pub IsFinished : ℕ → Batch → Progress → Result Planned Refused → Type 0
IsFinished number batch p (Ok planned) = Finished number batch p planned
IsFinished number batch p (Err refused) =
    (refused.row ≡ 0) × (limit_rule p.counts Batches false ≡ Some refused.rule)

-- what becomes of the import
abbrev pub IsImported : Counts → ℕ → Batch → List ImportRow → Tables → Result Planned Refused
    → Type 0
IsImported counts batch wanted rows t (Ok planned) =
    counts ≡ counts_of t → (now : ℕ)
    → IsDecided counts now (Import wanted.kind batch wanted.digest rows) planned t
IsImported counts batch wanted rows t (Err refused) =
    counts ≡ counts_of t → (now : ℕ)
    → decided t now (Import wanted.kind batch wanted.digest rows)
    ≡ Err (refusal refused.row refused.rule)

-- what a clerk is answered
abbrev pub import_answer : Result (Result Planned Refused) KeepErr → Result Planned AccountErr
import_answer (Ok (Ok planned)) = Ok planned
import_answer (Ok (Err refused)) = Err (RefusedAt refused.row refused.rule)
import_answer (Err kept) = Err (not_kept kept)
