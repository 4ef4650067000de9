-- What a setting of the code stands for.
use Rattle.off_base.specs.Tree.{Tree, leaf, group, row_of}
use Rattle.off_base.specs.declared.trees.Setting.{Setting}
use Rattle.off_base.specs.declared.trees.Setting.TheVariants.{Leaf, Group}

abbrev pub tree_of : Setting → Tree
tree_of (Leaf code value) = leaf code value
tree_of (Group code parts) = group code (row_of parts)
