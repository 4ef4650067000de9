-- What is written to the front of a buffer.
use Rattle.std.specs.Prelude.{◌≡◌, ℕ, List, ◌++◌, length, drop}

-- a piece stands in front, and what was behind it stays
abbrev pub StandsInFront : List ℕ → List ℕ → List ℕ → Type 0
StandsInFront piece old new = new ≡ piece ++ drop (length piece) old
