-- Which settings are wanted of a list, and their bytes.
use Rattle.std.specs.Prelude.{◌≡◌, ℕ, ◌<◌, Bool, false, ◌==◌, not, List, [], ◌∷◌, slice_index_or}
use Rattle.std.specs.List.{filter}
use Rattle.off_base.specs.Tree.{Tree, code_of, spelling}
use Rattle.off_mic.specs.Mic.{is_mic, setting_values}
use Rattle.off_mic.specs.declared.feeding.Wanted.{Wanted}
use Rattle.off_mic.specs.declared.feeding.Wanted.TheVariants.{ButMics, OfCode}

abbrev pub is_fed : Wanted → ℕ → Bool
is_fed ButMics code = not (is_mic code)
is_fed (OfCode wanted) code = code == wanted

-- the bytes of the wanted settings
abbrev pub wanted_text : Wanted → List Tree → List ℕ
wanted_text wanted trees = spelling (filter (λ t. is_fed wanted (code_of t)) trees)

-- settings have none of the codes that aren't marked
abbrev pub MarksCodes : List Bool → List Tree → Type 0
MarksCodes marks trees =
    (code : ℕ) → code < 256 → slice_index_or marks code false ≡ false
    → wanted_text (OfCode code) trees ≡ []

-- the next value of a code, and what is left behind it
pub record NextValue (code : ℕ) (trees : List Tree) (value rest : List ℕ) : Type 0 where
  pub behind : List Tree
  pub left : rest ≡ spelling behind
  pub next : setting_values code trees ≡ value ∷ setting_values code behind
