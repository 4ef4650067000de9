use Rattle.std.proofs.Common.{◌≡◌, drop, map}
use Rattle.off_base.specs.Tree.{code_of}
use Rattle.off_tree.specs.Fault.{missing_in}
use Rattle.off_tree.proofs.shapes.missing.Given as goal

abbrev pub invariant-loop-rule : goal.invariant-loop-rule
invariant-loop-rule l = missing_in (drop l.rule-index l.table) l.path (map code_of l.settings) ≡ missing_in l.table l.path (map code_of l.settings)
