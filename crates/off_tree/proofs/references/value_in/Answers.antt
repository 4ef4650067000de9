use Rattle.std.proofs.Common.{refl}
use Rattle.off_base.specs.Setting.{tree_of}
use Rattle.off_tree.specs.Fault.{value_in, leaf_value}
use Rattle.off_tree.proofs.ReferenceLemmas.{search_found, search_none}
use Rattle.off_tree.proofs.references.value_in.Goals as goal

pub returns-in-Some : goal.returns-in-Some
returns-in-Some c =
    search_found (leaf_value c.args.part) (value_in c.args.part) (λ t ts. refl) c.args.parts.now c.loop-place.place (tree_of c.get.result.now) c.in-Some.value.now c.get.ensures c.loop-place.invariant c.in-Some.ensures

pub loop-place-preserved : goal.loop-place-preserved
loop-place-preserved c =
    search_none (leaf_value c.args.part) (value_in c.args.part) (λ t ts. refl) c.args.parts.now c.loop-place.place (tree_of c.get.result.now) c.get.ensures c.loop-place.invariant c.in_default.ensures
