-- A walk over the settings of one level.
use Rattle.std.specs.Prelude.{◌≡◌, ℕ, ◌+◌, ◌≤◌, List, ◌∷◌, ◌++◌, length, drop, slice_index}

-- the place of the next setting, and the bytes from there on
pub record Walk : Type 0 where
  pub place : ℕ
  pub rest : List ℕ

-- a setting is taken: its code, its length and its value stand first, and the walk goes on behind
-- them
pub record TakesSetting (old : Walk) (code : ℕ) (value : List ℕ) (new : Walk) : Type 0 where
  pub spelled : old.rest ≡ code ∷ length value ∷ value ++ new.rest
  pub onward : new.place ≡ old.place + 2 + length value
  pub byte : length value ≤ 255

-- a whole setting stands at a place of the bytes
pub record TakesAt (bytes : List ℕ) (place : ℕ) (value : List ℕ) : Type 0 where
  pub spelled : drop place bytes
      ≡ slice_index bytes place ∷ length value ∷ value ++ drop (place + 2 + length value) bytes
  pub fits : place + 2 + length value ≤ length bytes
  pub byte : length value ≤ 255
