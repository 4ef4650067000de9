-- What the private function that goes over a text in dotted decimal says.
use Rattle.std.specs.Prelude.{ℕ, ◌+◌, ◌*◌, ◌%◌, ◌^◌, ◌==◌, List, [], ◌∷◌, if◌then◌else◌}

-- the address that a text spells, byte by byte, where it is the text of an address; another number
-- for other texts
abbrev pub dotted_value : ℕ → ℕ → List ℕ → ℕ
dotted_value whole last [] = whole % 2 ^ 24 * 256 + last
dotted_value whole last (c ∷ cs) =
    if c == 46 then dotted_value (whole % 2 ^ 24 * 256 + last) 0 cs
    else dotted_value whole ((last * 10 + c % 16) % 256) cs
