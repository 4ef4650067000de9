-- What `decode` and the private functions that read single fields say.
use Rattle.std.specs.Prelude.{◌≡◌, ◌≢◌, ℕ, ◌+◌, List, [], ◌++◌, ◌≤◌, ◌⊎◌, length, Result, Ok, Err}
use Rattle.std.specs.Int.{to_be_bytes, w16}
use Rattle.off_base.specs.Tree.{Tree, spelling}
use Rattle.off_tlv.specs.Grammar.{in_file, AllStand}
use Rattle.off_defs.specs.declared.keys.Key.{Key}
use Rattle.off_defs.specs.declared.tables.Class.{Class}
use Rattle.off_defs.specs.declared.tables.Row.{Row}
use Rattle.off_defs.specs.declared.tables.Row.TheVariants as row
use Rattle.off_rows.specs.RowBytes.{row_bytes, counted, RowRanged, SettingsStand, IsRowOf}
use Rattle.off_rows.specs.BadRow.{Field, CannotRead, IsField, BadFrom, IsBadAt, add_on_fields, class_fields}
use Rattle.off_rows.specs.Left.{Left}
use Rattle.off_rows.specs.declared.faults.RowErr.{RowErr}
use Rattle.off_rows.specs.declared.faults.RowErr.TheVariants.{BadRow, Memory}

-- why a row isn't read: no row of the key's kind has the bytes, or one has them and memory was
-- wanted
abbrev pub WhyNoRow : Key → List ℕ → RowErr → Type 0
WhyNoRow key bytes (BadRow place) =
    IsBadAt key bytes place × ((row : Row) → IsRowOf key row → row_bytes row ≢ bytes)
WhyNoRow key bytes Memory = (row : Row) × IsRowOf key row × (row_bytes row ≡ bytes)

-- the row is given, unless memory runs out
abbrev pub GivesRow : Row → Result Row RowErr → Type 0
GivesRow row (Ok given) = given ≡ row
GivesRow row (Err err) = err ≡ Memory

-- a value of a field was read
pub record TakesField (field : Field) (first : List ℕ) (old new : Left) : Type 0 where
  pub is : IsField field first
  pub front : old.rest ≡ first ++ new.rest
  pub onward : new.place ≡ old.place + length first

-- a length in one byte and so many bytes were read
pub record TakesCounted (held : List ℕ) (old new : Left) : Type 0 where
  pub front : old.rest ≡ counted held ++ new.rest
  pub onward : new.place ≡ old.place + length (counted held)

-- a length in two bytes and so many bytes were read
pub record TakesSpelled (held : List ℕ) (old new : Left) : Type 0 where
  pub front : old.rest ≡ (to_be_bytes w16 (length held) ++ held) ++ new.rest
  pub onward : new.place ≡ old.place + (2 + length held)

-- no value of the field stands there
pub record FieldFails (field : Field) (old : Left) (err : RowErr) : Type 0 where
  pub place : err ≡ BadRow old.place
  pub none : CannotRead field old.rest

-- something is left over
pub record IsLeft (old : Left) (err : RowErr) : Type 0 where
  pub place : err ≡ BadRow old.place
  pub some : old.rest ≢ []

-- a place of the bytes can't be read, where these fields should stand
pub record BadIn (fields : List Field) (old : Left) (err : RowErr) : Type 0 where
  pub place : ℕ
  pub is : err ≡ BadRow place
  pub bad : BadFrom fields old.rest old.place place

-- no length in two bytes and so many bytes stand there
pub record FailsSpelled (old : Left) (err : RowErr) : Type 0 where
  pub place : err ≡ BadRow old.place
  pub none : (held rest : List ℕ) → length held ≤ 65535 →
      old.rest ≢ (to_be_bytes w16 (length held) ++ held) ++ rest

-- settings spell the bytes
pub record IsSettings (bytes : List ℕ) : Type 0 where
  pub trees : List Tree
  pub stand : AllStand in_file trees
  pub whole : bytes ≡ spelling trees

-- where a walk begins
abbrev pub from_start : List ℕ → Left
from_start bytes = record { place = 0; rest = bytes }

-- all of these fields were read, whatever stands behind them
pub record Passes (fields : List Field) (first : List ℕ) (old new : Left) : Type 0 where
  pub front : old.rest ≡ first ++ new.rest
  pub later : (more : List Field) (err : RowErr) → BadIn more new err →
      BadIn (fields ++ more) old err

-- why an add-on isn't read, and why a class isn't
abbrev pub WhyNoAddOn : List ℕ → RowErr → Type 0
WhyNoAddOn bytes err =
    BadIn add_on_fields (from_start bytes) err
    ⊎ ((err ≡ Memory) × ((held : List Tree) × SettingsStand (row.AddOn held)
    × (row_bytes (row.AddOn held) ≡ bytes)))

abbrev pub WhyNoClass : List ℕ → RowErr → Type 0
WhyNoClass bytes err =
    BadIn class_fields (from_start bytes) err
    ⊎ ((err ≡ Memory) × ((class : Class) × RowRanged (row.Class class)
    × SettingsStand (row.Class class) × (row_bytes (row.Class class) ≡ bytes)))
