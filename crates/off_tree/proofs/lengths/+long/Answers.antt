use Rattle.std.proofs.Common.{List, ap, arith}
use Rattle.std.specs.Prelude.{option_map}
use Rattle.off_base.specs.Tree.{Tree, row_of}
use Rattle.off_base.specs.Setting.{tree_of}
use Rattle.off_tree.specs.Fault.{long_setting, long_part}
use Rattle.off_tree.specs.Length.{at_most_u32}
use Rattle.off_base.proofs.TreeLemmas.{size_at}
use Rattle.off_tree.proofs.ReferenceLemmas.{search_found, search_none}
use Rattle.off_tree.proofs.LengthLemmas.{parts_smaller, map_option_or, long_itself, long_leaf, long_group}
use Rattle.off_tree.proofs.lengths.+long.Goals as goal

pub long_part-long_setting-requires : goal.long_part-long_setting-requires
long_part-long_setting-requires t c = (omega (arith, size_at c.args.settings.now c.loop-place.place (tree_of c.get.result.now) c.get.ensures), tt)

pub long_part-returns-in-Some : goal.long_part-returns-in-Some
long_part-returns-in-Some t c =
    search_found (λ (x : Tree). option_map at_most_u32 (long_setting x)) (λ (xs : List Tree). option_map at_most_u32 (long_part (row_of xs)))
    (λ x xs. map_option_or (long_setting x) (long_part (row_of xs))) c.args.settings.now c.loop-place.place (tree_of c.get.result.now) c.in-Some.length c.get.ensures c.loop-place.invariant c.in-Some.ensures

pub long_part-loop-place-preserved : goal.long_part-loop-place-preserved
long_part-loop-place-preserved t c =
    search_none (λ (x : Tree). option_map at_most_u32 (long_setting x)) (λ (xs : List Tree). option_map at_most_u32 (long_part (row_of xs)))
    (λ x xs. map_option_or (long_setting x) (long_part (row_of xs))) c.args.settings.now c.loop-place.place (tree_of c.get.result.now) c.get.ensures c.loop-place.invariant c.in_default.ensures

pub long_setting-long_part-requires : goal.long_setting-long_part-requires
long_setting-long_part-requires t c = (omega (arith, parts_smaller c.in-Group.code c.in-Group.parts (tree_of c.args.setting.now) (ap tree_of c.in-Group.is)), tt)

pub long_setting-returns-in-Some : goal.long_setting-returns-in-Some
long_setting-returns-in-Some t c = long_itself (tree_of c.args.setting.now) c.in-Some.length c.value_length.result c.value_length.ensures c.in-Some.ensures

pub long_setting-returns-in-Leaf : goal.long_setting-returns-in-Leaf
long_setting-returns-in-Leaf t c =
    long_leaf (tree_of c.args.setting.now) c.in-Leaf.code c.value_length.result c.in-Leaf.value (ap tree_of c.in-Leaf.is) c.value_length.ensures c.in-None.ensures

pub long_setting-returns-in-Group : goal.long_setting-returns-in-Group
long_setting-returns-in-Group t c =
    long_group (tree_of c.args.setting.now) c.in-Group.code c.value_length.result c.in-Group.parts c.long_part.result (ap tree_of c.in-Group.is) c.value_length.ensures c.in-None.ensures c.long_part.ensures
