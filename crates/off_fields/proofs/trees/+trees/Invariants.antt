use Rattle.std.proofs.Common.{◌≡◌, ◌+◌, ◌*◌, ◌++◌, List, length, option_map}
use Rattle.off_base.specs.Tree.{Tree}
use Rattle.off_documents.specs.Documents.{elements_of}
use Rattle.off_clerk_rules.specs.Fields.{items_in, tree_in}
use Rattle.off_fields.proofs.trees.+trees.Given as goal

abbrev pub decreases-setting_within : goal.decreases-setting_within
decreases-setting_within l = 2 * l.depth

abbrev pub decreases-settings_within : goal.decreases-settings_within
decreases-settings_within l = 2 * l.depth + 1

abbrev pub invariant-settings_within-loop-element : goal.invariant-settings_within-loop-element
invariant-settings_within-loop-element l =
    items_in (tree_in l.depth) (elements_of l.initial.elements) ≡ option_map (λ (more : List Tree). l.settings ++ more) (items_in (tree_in l.depth) (elements_of l.elements))

abbrev pub decreases-settings_within-loop-element : goal.decreases-settings_within-loop-element
decreases-settings_within-loop-element l = length l.elements
