-- Imports act once: over a whole run each batch is put at most once, and an import whose batch
-- stands is answered as it was the first time, or refused, and changes nothing.
use Rattle.std.specs.Prelude.{◌≡◌, ◌≢◌, ◌⊎◌, ℕ, List, [], ◌∷◌, ◌++◌, map, Some, None, codes}
use Rattle.off_defs.specs.declared.keys.Key.TheVariants as key
use Rattle.off_orders.specs.declared.orders.Reply.TheVariants.{Rows}
use Rattle.off_defs.specs.declared.writes.Write.TheVariants.{Put}
use Rattle.off_orders.specs.declared.rules.Rule.TheVariants as rule
use Rattle.off_defs.specs.declared.tables.Batch.{Batch}
use Rattle.off_defs.specs.State.{State}
use Rattle.off_account_rules.specs.Rows.{batch_in}
use Rattle.off_orders.specs.Clerk.{batch_row}
use Rattle.off_clerk_rules.specs.declared.faults.Fault.TheVariants as fault
use Rattle.off_clerk_rules.specs.Faults.{fault_text}
use Rattle.off_clerk_rules.specs.Replies.{reply_text}
use Rattle.off_book.specs.Run.{Turn, Run}
use Rattle.off_import_runs.specs.Puts.{puts_in, puts_by, put_of, PutOnce}
use Rattle.off_import_runs.specs.Asked.{AsksImport, IsSame, IsAnswered}

-- The import is one that was done: the answer is 200 (RFC 9110, section 15.3.1) and the number of
-- rows that stands with the batch.
pub record IsToldAgain (conn : ℕ) (held : Batch) (turn : Turn) : Type 0 where
  pub answer : IsAnswered conn 200 (reply_text (Rows held.rows)) turn
  pub line : turn.said.line ≡ codes "http 200"

-- It's another one under the same number: the answer is 409 (section 15.5.10) and `batch-differs`.
pub record IsToldApart (conn : ℕ) (batch : ℕ) (turn : Turn) : Type 0 where
  pub answer : IsAnswered conn 409 (fault_text (fault.Rule 0 (rule.BatchDiffers batch))) turn
  pub line : turn.said.line ≡ codes "http 409 batch-differs"

-- An import whose batch stands writes nothing.
pub record IsRepeated (s : State) (turn : Turn) (asks : AsksImport s turn) (held : Batch)
    : Type 0 where
  pub commit : turn.commit ≡ []
  pub same : IsSame asks.kind asks.digest held → IsToldAgain asks.conn held turn
  pub other : ¬ (IsSame asks.kind asks.digest held) → IsToldApart asks.conn asks.batch turn

-- An import that is done stands at each later place with its kind and its digest, and with the
-- number of rows that was told.
pub record IsKept (s : State) (turn : Turn) (asks : AsksImport s turn) (last : State) : Type 0 where
  pub held : Batch
  pub stands : batch_in last.tables asks.batch ≡ Some held
  pub same : IsSame asks.kind asks.digest held
  pub told : IsToldAgain asks.conn held turn

-- what an import does, in the first turn of a stretch
pub record ImportDoes (s : State) (turn : Turn) (asks : AsksImport s turn) (last : State)
    : Type 0 where
  pub repeated : (held : Batch) → batch_in s.tables asks.batch ≡ Some held
      → IsRepeated s turn asks held
  pub done : turn.said.line ≡ codes "http 200" → IsKept s turn asks last
  -- where its batch didn't stand, all its rows are put and then the batch, in one commit
  pub whole : batch_in s.tables asks.batch ≡ None → turn.said.line ≡ codes "http 200"
      → turn.commit
      ≡ map put_of asks.rows
      ++ Put (key.Batch asks.batch) (batch_row asks.kind asks.digest asks.rows) ∷ []
  -- where it's refused, nothing is written: neither the batch nor any of its rows
  pub refused : turn.said.line ≢ codes "http 200" → turn.commit ≡ []

-- A batch is put by an import of it that is done.
pub record IsPutBy (s : State) (turn : Turn) (batch : ℕ) : Type 0 where
  pub asks : AsksImport s turn
  pub number : asks.batch ≡ batch
  pub line : turn.said.line ≡ codes "http 200"

-- What holds of imports over a stretch of a run, from one of its states to a later one.
pub record ImportsActOnce (from to : State) (stretch : List Turn) : Type 0 where
  pub once : (batch : ℕ)
      → PutOnce (batch_in from.tables batch) (batch_in to.tables batch) (puts_by batch stretch)
  pub first : (turn : Turn) (turns : List Turn) → stretch ≡ turn ∷ turns
      → (asks : AsksImport from turn) → ImportDoes from turn asks to
  pub only : (turn : Turn) (turns : List Turn) → stretch ≡ turn ∷ turns → (batch : ℕ)
      → (puts_in batch turn.commit ≡ 0) ⊎ IsPutBy from turn batch

-- The same of a stretch between two places of a run, whose states the turns before it tell.
pub record ActOnceOver (s : State) (before stretch : List Turn) : Type 0 where
  pub from : State
  pub to : State
  pub up_to : Run s before from
  pub onward : Run from stretch to
  pub hold : ImportsActOnce from to stretch

-- and so over each stretch of the turns
abbrev pub ImportsActOnceThrough : State → List Turn → Type 0
ImportsActOnceThrough s turns =
    (before stretch later : List Turn) → turns ≡ before ++ (stretch ++ later)
    → ActOnceOver s before stretch
