-- How the calls that go over parts stand: what is left at a place, and what a step from there
-- finds.
use Rattle.std.specs.Prelude.{◌≡◌, ℕ, ◌+◌, ◌<◌, ◌≤◌, Bool, true, List, [], take, drop, length, slice_index, Result, Ok, Err, IsOk}
use Rattle.off_base.specs.Parts.{Part, onto, parts_from, parts_in, values}
use Rattle.off_base.specs.declared.cursors.Cursor.{Cursor}
use Rattle.off_base.specs.declared.cursors.Piece.{Piece}
use Rattle.off_base.specs.declared.parts.Step.{Step}
use Rattle.off_base.specs.declared.parts.Step.TheVariants.{Found, End, Cut}

-- the parts, where none passes the end
abbrev pub all_parts : Result (List Part) ℕ → List Part
all_parts (Ok parts) = parts
all_parts (Err place) = []

-- what is read from a place on
abbrev pub left : Bool → ℕ → List ℕ → Result (List Part) ℕ
left marked at bytes = parts_from marked at 0 (drop at bytes)

pub record FindsPart (marked : Bool) (bytes : List ℕ) (at code place len : ℕ) : Type 0 where
  pub ahead : at ≤ place
  pub within : place + 2 + len ≤ length bytes
  pub here : left marked at bytes ≡ left marked place bytes
  pub first : left marked at bytes
      ≡ onto (record { code = code; place = place; value = take len (drop (place + 2) bytes) })
      (left marked (place + 2 + len) bytes)

abbrev pub Finds : Bool → List ℕ → ℕ → Step → Type 0
Finds marked bytes at (Found code place len) = FindsPart marked bytes at code place len
Finds marked bytes at End = left marked at bytes ≡ Ok []
Finds marked bytes at (Cut place) = left marked at bytes ≡ Err place

-- the joined values of the options of one code
abbrev pub all_values : ℕ → List ℕ → List ℕ
all_values code options = values code (all_parts (parts_in true options))

abbrev pub cursor_at : ℕ → ℕ → Cursor
cursor_at at before = record { at = at; before = before }

-- the cursor stands at an option's code, or at pads in front of it, and so many joined bytes lie
-- before that option
pub record CursorStands (options : List ℕ) (code : ℕ) (cursor : Cursor) : Type 0 where
  pub within : cursor.at ≤ length options
  pub ok : IsOk (left true cursor.at options)
  pub few : cursor.before ≤ length (all_values code options)
  pub rest : values code (all_parts (left true cursor.at options))
      ≡ drop cursor.before (all_values code options)

-- the bytes of the option at the cursor are so many of the joined ones
pub record Shows (options : List ℕ) (code : ℕ) (piece : Piece) : Type 0 where
  pub stands : CursorStands options code piece.cursor
  pub within : (i : ℕ) → i < piece.len → piece.cursor.at + 2 + i < length options
  pub bytes : (i : ℕ) → i < piece.len → slice_index options (piece.cursor.at + 2 + i)
      ≡ slice_index (all_values code options) (piece.cursor.before + i)

-- the option has this joined byte
pub record Holds (options : List ℕ) (code i : ℕ) (piece : Piece) : Type 0 where
  pub shows : Shows options code piece
  pub behind : piece.cursor.before ≤ i
  pub near : i < piece.cursor.before + piece.len
