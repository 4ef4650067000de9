-- One thing out of what may be there.
use Rattle.std.specs.Prelude.{Bool, true, false, List, [], ◌∷◌, Option, Some, None}

-- a thing, where a test says so
abbrev pub when : {X : Type 0} → Bool → X → Option X
when true x = Some x
when false x = None

-- the first that is there
abbrev pub first_there : {X : Type 0} → List (Option X) → Option X
first_there [] = None
first_there (Some x ∷ more) = Some x
first_there (None ∷ more) = first_there more
