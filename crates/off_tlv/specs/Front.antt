-- What the private functions that go over the bytes say of them.
use Rattle.std.specs.Prelude.{◌≡◌, ℕ, ◌<◌, ◌≤◌, ◌≢◌, ◌&&◌, not, Bool, true, false, List, ◌∷◌, ◌++◌, length, take, drop, replicate, slice_index}
use Rattle.off_base.specs.Tree.{Tree, Row, leaf, group, no_more, followed, spelled, spelling}
use Rattle.off_tlv.specs.Grammar.{pad_byte, Level, is_code, is_group, inside_of, Stands, AllStand}
use Rattle.off_tlv.specs.Fault.{Behind, CutAt}

-- the settings of a level reach from the first byte to a place, and there the bytes end, or a byte
-- stands that is no code
pub record Front (level : Level) (bytes : List ℕ) (end : ℕ) : Type 0 where
  pub behind : Behind level bytes end (drop end bytes)
  pub in_range : end ≤ length bytes
  pub stops : end < length bytes → is_code level (slice_index bytes end) ≡ false

-- a code and a value are a setting of the level
pub record IsSetting (level : Level) (code : ℕ) (value : List ℕ) : Type 0 where
  pub setting : Tree
  pub stands : Stands level setting
  pub spells : spelled setting ≡ code ∷ length value ∷ value

-- a group's value has its first cut at a place
pub record CutWithin (level : Level) (code : ℕ) (value : List ℕ) (place : ℕ) : Type 0 where
  pub grouped : is_group level code ≡ true
  pub cut : CutAt (inside_of level code) value place

-- the bytes are spelled by settings of the level
pub record IsSpelled (level : Level) (bytes : List ℕ) : Type 0 where
  pub trees : List Tree
  pub stand : AllStand level trees
  pub whole : bytes ≡ spelling trees

-- the first byte that is no zero
pub record FirstOther (bytes : List ℕ) (place : ℕ) : Type 0 where
  pub in_range : place < length bytes
  pub zeros : take place bytes ≡ replicate place pad_byte
  pub other : slice_index bytes place ≢ pad_byte

-- a setting of the level has the code and the value
pub record SpellsSetting (level : Level) (code : ℕ) (value : List ℕ) (setting : Tree) : Type 0 where
  pub stands : Stands level setting
  pub spells : spelled setting ≡ code ∷ length value ∷ value

-- the new bytes are the old ones, and perhaps more
abbrev pub BeginsWith : List ℕ → List ℕ → Type 0
BeginsWith old new = (more : List ℕ) × (new ≡ old ++ more)

-- whether settings have their shape, as a test
abbrev mutual
  pub is_shaped : Level → Tree → Bool
  is_shaped level (leaf code value) = is_code level code && not (is_group level code)
  is_shaped level (group code parts) = is_code level code
      && (is_group level code && row_is_shaped (inside_of level code) parts)

  pub row_is_shaped : Level → Row → Bool
  row_is_shaped level no_more = true
  row_is_shaped level (followed t r) = is_shaped level t && row_is_shaped level r
