-- The path of a part.
use Rattle.std.specs.Prelude.{ℕ, ◌==◌, if◌then◌else◌}
use Rattle.off_tree.specs.declared.paths.Path.{Path}

abbrev pub below : Path → ℕ → Path
below path code =
    if path.depth == 0 then record { depth = 1; a = code; b = 0; c = 0 }
    else if path.depth == 1 then record { depth = 2; a = path.a; b = code; c = 0 }
    else record { depth = 3; a = path.a; b = path.b; c = code }
