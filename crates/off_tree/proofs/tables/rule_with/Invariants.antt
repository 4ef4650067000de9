use Rattle.std.proofs.Common.{◌≡◌, drop}
use Rattle.off_tree.specs.Table.{rule_with}
use Rattle.off_tree.proofs.tables.rule_with.Given as goal

abbrev pub invariant-loop-rule : goal.invariant-loop-rule
invariant-loop-rule l = rule_with l.code (drop l.rule-index l.table) ≡ rule_with l.code l.table
