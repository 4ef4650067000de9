-- For private clauses: what stands before an element of an array, by its place.
use Rattle.std.specs.Prelude.{ℕ, ◌==◌, List, [], codes, if◌then◌else◌}

abbrev pub comma_before : ℕ → List ℕ
comma_before place = if place == 0 then [] else codes ","
