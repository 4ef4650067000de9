-- The rules so far are passed.
use Rattle.std.proofs.Common.{◌≡◌, drop}
use Rattle.off_query_rules.specs.Answers.{first_word}
use Rattle.off_query.proofs.judging.first_word.Given as goal

abbrev pub invariant-loop-rule : goal.invariant-loop-rule
invariant-loop-rule l = first_word (drop l.rule-index l.rules) ≡ first_word l.rules
