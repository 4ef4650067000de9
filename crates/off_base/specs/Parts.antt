-- Options of a message and parts of an option, as bytes: a code, a length, and so many bytes of
-- value, one behind another (RFC 2132 section 2, RFC 3046 section 2.0). In options, and in the
-- parts of option 43, code 0 is a pad of one byte and code 255 the end, behind which nothing is
-- read: there the bytes are `marked`. In the parts of option 82 they are not, and every code has a
-- length.
use Rattle.std.specs.Prelude.{◌≡◌, ◌≢◌, ℕ, zero, suc, ◌+◌, ◌<◌, ◌==◌, Bool, true, false, ◌&&◌, List, [], ◌∷◌, ◌++◌, length, take, filter, nat_le, slice_index, if◌then◌else◌, Option, Some, None, unwrap_or, Result, Ok, Err, MatchResult}
use Rattle.std.specs.List.{flat_map, list_any}

-- one option or part, and the place of its code
pub record Part : Type 0 where
  pub code : ℕ
  pub place : ℕ
  pub value : List ℕ

-- ---- the grammar

-- a code that has a length behind it
abbrev pub IsCode : Bool → ℕ → Type 0
IsCode true c = (c ≢ 0) × (c ≢ 255)
IsCode false c = Unit {0}

-- the bytes, of which the first stands at `here`, spell these parts
pub data Spells (marked : Bool) : ℕ → List Part → List ℕ → Type 0 where
  spells_nothing : (here : ℕ) → Spells marked here [] []
  spells_end : (here : ℕ) (ignored : List ℕ) → marked ≡ true → Spells marked here [] (255 ∷ ignored)
  spells_pad : (here : ℕ) (parts : List Part) (bytes : List ℕ) → marked ≡ true →
      Spells marked (here + 1) parts bytes → Spells marked here parts (0 ∷ bytes)
  spells_part : (here code : ℕ) (value : List ℕ) (parts : List Part) (bytes : List ℕ) →
      IsCode marked code
      → Spells marked (here + 2 + length value) parts bytes
      → Spells marked here (record { code = code; place = here; value = value } ∷ parts)
      (code ∷ length value ∷ (value ++ bytes))

-- the first part that passes the end of the bytes has its code at this place
pub data Cut (marked : Bool) : ℕ → ℕ → List ℕ → Type 0 where
  cut_length : (here code : ℕ) → IsCode marked code → Cut marked here here (code ∷ [])
  cut_value : (here code len : ℕ) (value : List ℕ) → IsCode marked code → length value < len →
      Cut marked here here (code ∷ len ∷ value)
  cut_behind_pad : (here place : ℕ) (bytes : List ℕ) → marked ≡ true →
      Cut marked (here + 1) place bytes → Cut marked here place (0 ∷ bytes)
  cut_behind_part : (here place code : ℕ) (value bytes : List ℕ) → IsCode marked code
      → Cut marked (here + 2 + length value) place bytes →
      Cut marked here place (code ∷ length value ∷ (value ++ bytes))

-- ---- the one reading

abbrev pub onto : Part → Result (List Part) ℕ → Result (List Part) ℕ
onto part (Ok parts) = Ok (part ∷ parts)
onto part (Err place) = Err place

-- whether the byte is this mark
abbrev pub is_mark : Bool → ℕ → ℕ → Bool
is_mark marked mark b = marked && (b == mark)

-- a part with this code, in front of what the bytes behind it have
abbrev pub sized : ℕ → ℕ → List ℕ → Result (List Part) ℕ → Result (List Part) ℕ
sized code here [] behind = Err here
sized code here (len ∷ bytes) behind =
    if nat_le len (length bytes) then onto
    (record { code = code; place = here; value = take len bytes }) behind else Err here

abbrev pub coded : Bool → ℕ → ℕ → List ℕ → Result (List Part) ℕ → Result (List Part) ℕ
coded marked here b bytes behind =
    if is_mark marked 0 b then behind
    else (if is_mark marked 255 b then Ok [] else sized b here bytes behind)

-- the parts of the bytes, of which the first stands at `here` and the first `skipped` belong to the
-- part before; or the place of the first part that passes the end
abbrev pub parts_from : Bool → ℕ → ℕ → List ℕ → Result (List Part) ℕ
parts_from marked here skipped [] = Ok []
parts_from marked here (suc skipped) (b ∷ bytes) = parts_from marked (here + 1) skipped bytes
parts_from marked here zero (b ∷ bytes) =
    coded marked here b bytes (parts_from marked (here + 1)
    (if is_mark marked 0 b then 0 else suc (slice_index bytes 0)) bytes)

unfoldable pub parts_in : Bool → List ℕ → Result (List Part) ℕ
parts_in marked bytes = parts_from marked 0 0 bytes

-- the reading of bytes is what the grammar says of them, and the grammar says nothing else of them
pub record IsReading (marked : Bool) (bytes : List ℕ) (read : Result (List Part) ℕ) : Type 0 where
  pub said : MatchResult read (λ parts. Spells marked 0 parts bytes)
      (λ place. Cut marked 0 place bytes)
  pub only_parts : (parts : List Part) → Spells marked 0 parts bytes → read ≡ Ok parts
  pub only_place : (place : ℕ) → Cut marked 0 place bytes → read ≡ Err place

-- ---- an option that may be there several times: its values in order, joined (RFC 3396 section 7)

abbrev pub has : ℕ → List Part → Bool
has code parts = list_any (λ part. part.code == code) parts

abbrev pub values : ℕ → List Part → List ℕ
values code parts = flat_map (λ part. part.value) (filter (λ part. part.code == code) parts)

-- none where no option has this code
abbrev pub joined : ℕ → Result (List Part) ℕ → Option (List ℕ)
joined code (Ok parts) = if has code parts then Some (values code parts) else None
joined code (Err place) = None

-- the bytes of a joined value
abbrev pub bytes_of : Option (List ℕ) → List ℕ
bytes_of value = unwrap_or value []
