-- Add-ons as they are read, one after another.
use Rattle.std.specs.Prelude.{ℕ, List, [], ◌∷◌, ◌++◌, Option, Some, None}
use Rattle.off_base.specs.Tree.{Tree}

abbrev pub with_add_on : List (ℕ × List Tree) → ℕ → Option (List Tree) → List (ℕ × List Tree)
with_add_on add_ons number None = add_ons
with_add_on add_ons number (Some settings) = add_ons ++ (number, settings) ∷ []
