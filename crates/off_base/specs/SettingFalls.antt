-- The parts of a group have fewer settings than the list that the group stands in.
use Rattle.std.specs.Prelude.{◌≡◌, ◌≤◌, List, [], ◌∷◌, map, refl}
use Rattle.std.proofs.Common.{arith}
use denote.Param.Weighed.{most}
use Rattle.off_base.specs.Tree.{Tree, row_of, row_size, trees_size, tree_size}
use Rattle.off_base.specs.declared.trees.Setting.{Setting}
use Rattle.off_base.specs.declared.trees.Setting.TheVariants.{Leaf, Group}
use Rattle.off_base.specs.declared.trees.Settings.TheDeep.{deep-Setting}
use Rattle.off_base.specs.Setting.{tree_of}

pub row_size-row_of : (ts : List Tree) → row_size (row_of ts) ≡ trees_size ts
row_size-row_of [] = refl
row_size-row_of (t ∷ ts) = omega (arith, row_size-row_of ts)

deep_le-size : (s : Setting) → deep-Setting s ≤ tree_size (tree_of s)
deep_le-size (Leaf code value) = omega arith
deep_le-size (Group code parts) = omega (arith, row_size-row_of parts)

pub parts_below : (ss : List Setting) → most deep-Setting ss ≤ trees_size (map tree_of ss)
parts_below [] = omega arith
parts_below (s ∷ ss) = omega (arith, parts_below ss, deep_le-size s)
