-- What the private functions that compare references say.
use Rattle.std.specs.Prelude.{◌≡◌, ℕ, ◌<◌, Bool, false, ◌==◌, List, [], ◌∷◌, Option, Some, None, if◌then◌else◌}
use Rattle.std.specs.List.{slice_index_or}
use Rattle.off_tree.specs.Fault.{contains, both_directions}
use Rattle.off_tree.specs.declared.references.Flows.{Flows}
use Rattle.off_tree.specs.declared.references.Flows.TheVariants.{Both, Of}

abbrev pub directions_of : Flows → List ℕ
directions_of Both = both_directions
directions_of (Of direction) = direction ∷ []

-- the number of a setting, where it stands among those before
abbrev pub repeat_here : List ℕ → Option ℕ → Option ℕ
repeat_here before None = None
repeat_here before (Some n) = if contains n before then Some n else None

abbrev pub is_same : ℕ → Option ℕ → Bool
is_same number None = false
is_same number (Some other) = other == number

-- which of the numbers below 256 are in a list
abbrev pub Marks : List Bool → List ℕ → Type 0
Marks marks numbers = (n : ℕ) → n < 256 → slice_index_or marks n false ≡ contains n numbers
