use Rattle.std.proofs.Common.{List, sym, ap, ◌∙◌}
use Rattle.off_base.specs.Tree.{Tree}
use Rattle.off_base.specs.Setting.{tree_of}
use Rattle.off_base.specs.TreeCode.{row_items-row_of}
use Rattle.off_tree.specs.Fault.{value_in, part_value}
use Rattle.off_tree.proofs.references.part_value.Goals as goal

pub returns-in-Group : goal.returns-in-Group
returns-in-Group c =
    c.value_in.ensures ∙ ap (λ (x : List Tree). value_in c.args.part x) (sym (row_items-row_of c.in-Group.parts)) ∙ ap (part_value c.args.part) (sym (ap tree_of c.in-Group.is))
