-- Why a call isn't done: what the store's errors mean, and what of it a caller is told.
use Rattle.std.specs.Prelude.{◌≡◌, ◌≢◌, ◌⊎◌, ℕ, ◌<◌, true, List, [], ◌∷◌, length, Err, IsTrue}
use Rattle.sqlite_value.specs.declared.value.Value.TheVariants.{Blob as Bytes}
use Rattle.sqlite_value.specs.Order.{Row, column}
use Rattle.sqlite_trees.specs.declared.store.Store.{Ghosts}
use Rattle.sqlite_rules.specs.Lists.{Has}
use Rattle.sqlite.specs.declared.error.ErrorCode.{ErrorCode}
use Rattle.sqlite.specs.declared.error.ErrorCode.TheVariants as code
use Rattle.sqlite.specs.declared.error.Error.{Error}
use Rattle.sqlite.specs.declared.error.Error.TheVariants as error
use Rattle.sqlite.specs.Held.{Held, state}
use Rattle.sqlite.specs.State.{State, Executes, ExecutesInside, FailsToQuery, Shown}
use Rattle.sqlite.specs.Steps.{FailsToCommit}
use Rattle.off_outside.specs.declared.keeper.KeepErr.{KeepErr}
use Rattle.off_outside.specs.declared.keeper.KeepErr.TheVariants as told
use Rattle.off_cells.specs.declared.writes.CellWrite.{CellWrite}
use Rattle.off_cells.specs.declared.writes.CellWrite.TheVariants.{Put, Drop}
use Rattle.off_sqlcells.specs.declared.refusals.Refused.{Refused}
use Rattle.off_sqlcells.specs.declared.refusals.Refused.TheVariants.{Memory, Store}
use Rattle.off_sqlcells.specs.Office.{IsOurs}
use Rattle.off_sqlcells.specs.Stands.{Stays}
use Rattle.off_sqlcells.specs.Statements.{make_text, put_text, drop_text}

-- the store's codes: one says that memory was wanted
abbrev pub refused_of : ErrorCode → Refused
refused_of code.OutOfMemory = Memory
refused_of (code.ConstraintViolation rule) = Store
refused_of code.TypeMismatch = Store
refused_of code.IntegerOverflow = Store
refused_of code.NoRowid = Store
refused_of code.ForeignKeyMismatch = Store
refused_of code.TooDeep = Store
refused_of code.NoClock = Store
refused_of code.NameTaken = Store
refused_of code.BadName = Store
refused_of code.BadKey = Store
refused_of code.BadText = Store
refused_of code.SchemaTooBig = Store
refused_of code.TransactionState = Store
refused_of code.NoSuchSavepoint = Store
refused_of code.OperationInterrupted = Store
refused_of code.NotADatabase = Store
refused_of code.DatabaseCorrupt = Store
refused_of code.CannotOpen = Store
refused_of code.DatabaseBusy = Store
refused_of code.TooBig = Store
refused_of code.SystemIoFailure = Store
refused_of code.DiskFull = Store
refused_of code.Closed = Store

-- an error without a code isn't one of memory
abbrev pub refusal_of : Error → Refused
refusal_of (error.SqliteFailure code) = refused_of code
refusal_of (error.SqlInputError fault) = Store
refusal_of (error.InvalidParameterCount given wanted) = Store
refusal_of error.ExecuteReturnedResults = Store
refusal_of error.InvalidQuery = Store
refusal_of error.MultipleStatement = Store
refusal_of error.QueryReturnedNoRows = Store
refusal_of (error.InvalidColumnIndex at) = Store
refusal_of (error.InvalidColumnType at kind) = Store
refusal_of (error.IntegralValueOutOfRange at) = Store
refusal_of (error.Utf8Error at) = Store

-- what a caller is told
abbrev pub told_as : Refused → KeepErr
told_as Memory = told.Memory
told_as Store = told.Failed

-- ---- the beginning

-- the store refused to make the table, and said why
abbrev pub FailsToMake : State → State → KeepErr → Type 0
FailsToMake old new err =
    (why : Error) × Executes make_text [] old new (Err why) × (err ≡ told_as (refusal_of why))

-- Why cells don't begin over a connection: its database isn't the office's, a transaction is under
-- way, or the store refused to make the table. The connection is dropped as `after`.
abbrev pub FailsToBegin : {S : Type 0} → Ghosts S → Held S → KeepErr → Type 0
FailsToBegin {S} g conn err =
    ((err ≡ told.Failed) × ((¬ IsOurs conn.schema) ⊎ IsTrue conn.in_transaction))
    ⊎ ((after : Held S) × FailsToMake (state g conn) (state g after) err)

-- ---- a look

-- what was shown is copied, or memory is wanted; it is refused only where it is bad
abbrev pub FailsToCopy : Type 0 → Refused → Type 0
FailsToCopy bad Memory = Unit {0}
FailsToCopy bad Store = bad

-- the first row has no value of bytes
abbrev pub ShowNoValue : List Row → Type 0
ShowNoValue [] = ⊥
ShowNoValue (row ∷ rows) = (val : List ℕ) → column row 0 ≢ Bytes val

-- a row that isn't a key of 1 to 9 bytes and a value of bytes
abbrev pub IsNoCell : Row → Type 0
IsNoCell row =
    (ident val : List ℕ) → column row 0 ≡ Bytes ident → column row 1 ≡ Bytes val →
    (length ident ≡ 0) ⊎ (9 < length ident)

abbrev pub ShowNoCell : List Row → Type 0
ShowNoCell [] = ⊥
ShowNoCell (row ∷ rows) = IsNoCell row

-- Why a look gave nothing: the store refused it, and said why; or of what it showed no copy was
-- made.
abbrev pub FailsToLook : List ℕ → Row → (List Row → Type 0) → State → State → Refused → Type 0
FailsToLook sql params ShowNone old new refused =
    ((err : Error) × FailsToQuery sql params old new err × (refused ≡ refusal_of err))
    ⊎ ((rows : List Row) × Shown sql params old new rows × FailsToCopy (ShowNone rows) refused)

-- ---- a commit

-- the statement of a write
abbrev pub write_text : CellWrite → List ℕ
write_text (Put ident val) = put_text
write_text (Drop ident) = drop_text

abbrev pub write_params : CellWrite → Row
write_params (Put ident val) = Bytes ident ∷ Bytes val ∷ []
write_params (Drop ident) = Bytes ident ∷ []

-- the store refused a write within a transaction, and said why
abbrev pub FailsToWrite : CellWrite → State → State → Refused → Type 0
FailsToWrite write old new refused =
    (err : Error) × (refused ≡ refusal_of err)
    × (IsTrue old.in_transaction
    → ExecutesInside 0 (write_text write) (write_params write) old new (Err err))

-- the store refused to end a transaction, and said why
abbrev pub FailsToEnd : State → State → Refused → Type 0
FailsToEnd old new refused =
    (err : Error) × FailsToCommit old new err × (refused ≡ refusal_of err)

-- of a transaction's writes: those before it were done, and nothing was committed
pub record FailsToWriteAll {S : Type 0} (g : Ghosts S) (writes : List CellWrite) (old new : Held S)
    (refused : Refused) : Type 0 where
  pub write : CellWrite
  pub among : Has writes write
  pub at : Held S
  pub stays : Stays (state g old) (state g at)
  pub fails : FailsToWrite write (state g at) (state g new) refused

-- a connection in a transaction that has just begun
abbrev pub begun : {S : Type 0} → Held S → Held S
begun conn = record conn { in_transaction = true }

-- Why a transaction of all the writes isn't done: one of them was refused, or the end.
pub record FailsToCommitAll {S : Type 0} (g : Ghosts S) (writes : List CellWrite)
    (old new : Held S) (refused : Refused) : Type 0 where
  pub within : Held S
  pub cause : FailsToWriteAll g writes (begun old) within refused
      ⊎ FailsToEnd (state g within) (state g new) refused

-- ---- what a caller is told

-- A refusal by the store is a failure. Want of memory is told as that, but where the store refuses
-- an empty transaction too, which asks whether a fault has shut the connection.
abbrev pub IsTold : {S : Type 0} → Ghosts S → Refused → Held S → Held S → KeepErr → Type 0
IsTold g Store old new err = err ≡ told.Failed
IsTold g Memory old new told.Memory = Unit {0}
IsTold g Memory old new told.Failed =
    (refused : Refused) × FailsToEnd (state g (begun old)) (state g new) refused

-- Why a look, and a commit, isn't done, as the caller is told it. The connection was `between` once
-- the statement, or the transaction, was over.
pub record LookFails {S : Type 0} (g : Ghosts S) (sql : List ℕ) (params : Row)
    (ShowNone : List Row → Type 0) (old new : Held S) (err : KeepErr) : Type 0 where
  pub between : Held S
  pub refused : Refused
  pub cause : FailsToLook sql params ShowNone (state g old) (state g between) refused
  pub told : IsTold g refused between new err

pub record CommitFails {S : Type 0} (g : Ghosts S) (writes : List CellWrite) (old new : Held S)
    (err : KeepErr) : Type 0 where
  pub between : Held S
  pub refused : Refused
  pub cause : FailsToCommitAll g writes old between refused
  pub told : IsTold g refused between new err
