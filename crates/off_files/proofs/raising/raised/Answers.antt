use Rattle.std.proofs.Common.{ap, sym, ◌∙◌}
use Rattle.off_base.specs.Tree.{group, row_of}
use Rattle.off_base.specs.Setting.{tree_of}
use Rattle.off_file_rules.specs.Profile.{raised}
use Rattle.off_files.proofs.LoopLemmas.{raised_row}
use Rattle.off_files.proofs.raising.raised.Goals as goal

pub returns-in_ok-raised_parts-in-Group : goal.returns-in_ok-raised_parts-in-Group
returns-in_ok-raised_parts-in-Group c =
    ap (λ r. group c.in-Group.code (row_of r)) c.in_ok-raised_parts-in-Group.ensures
    ∙ ap (group c.in-Group.code) (raised_row c.args.number c.in-Group.code c.in-Group.parts)
    ∙ sym (ap (λ s. raised c.args.number (tree_of s)) c.in-Group.is)
