-- Where the options of a code stand, for each code that the office asks for.
use Rattle.std.specs.Prelude.{◌≡◌, ℕ, suc, ◌+◌, ◌<◌, ◌==◌, true, false, List, [], ◌∷◌, length, slice_index_or, if◌then◌else◌}
use Rattle.off_base.specs.Parts.{parts_in, has}
use Rattle.off_base.specs.Walk.{all_parts, all_values, cursor_at, CursorStands}
use Rattle.off_base.specs.declared.index.Extent.{Extent}

-- the codes of the options that the office asks for
abbrev pub asked_codes : List ℕ
asked_codes = 43 ∷ 50 ∷ 52 ∷ 53 ∷ 54 ∷ 60 ∷ 61 ∷ 82 ∷ []

-- the place of a code among codes, or their number where it isn't there
abbrev pub place_among : List ℕ → ℕ → ℕ
place_among [] code = 0
place_among (first ∷ codes) code = if code == first then 0 else suc (place_among codes code)

-- what is kept of a code has this place; all codes that aren't asked for share the last one
abbrev pub slot_of : ℕ → ℕ
slot_of code = place_among asked_codes code

abbrev pub no_extent : Extent
no_extent = record { is_there = false; first = 0; len = 0 }

-- one more option, whose code stands at `place`, with a value of `len` bytes
abbrev pub extended : Extent → ℕ → ℕ → Extent
extended extent place len = record {
  is_there = true;
  first = if extent.is_there then extent.first else place;
  len = extent.len + len;
}

abbrev pub extent_at : List Extent → ℕ → Extent
extent_at extents code = slice_index_or extents (slot_of code) no_extent

-- the extent of the options of a code
pub record IsExtent (options : List ℕ) (code : ℕ) (extent : Extent) : Type 0 where
  pub there : extent.is_there ≡ has code (all_parts (parts_in true options))
  pub size : extent.len ≡ length (all_values code options)
  pub front : CursorStands options code (cursor_at extent.first 0)

-- the extents of all codes that are asked for
abbrev pub AreExtents : List ℕ → List Extent → Type 0
AreExtents options extents =
    (code : ℕ) → slot_of code < 8 → IsExtent options code (extent_at extents code)
