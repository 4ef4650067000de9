use Rattle.std.proofs.Common.{sym, ◌∙◌}
use Rattle.off_behind.proofs.FormerLemmas.{left_none, left_other, left_own}
use Rattle.off_behind.proofs.formers.left_by.Goals as goal

pub returns-in_default : goal.returns-in_default
returns-in_default c = λ t first so_far. left_none t c.args.write.now c.args.address c.args.found first c.in_default.ensures so_far

pub returns-then-is_other : goal.returns-then-is_other
returns-then-is_other c = λ t first so_far.
    left_other t c.args.write.now c.args.address c.in-Some.other c.in-Some.lease c.args.found first c.in-Some.ensures (sym c.is_other.ensures ∙ c.if-is_other.true) so_far

pub returns-else-is_other : goal.returns-else-is_other
returns-else-is_other c = λ t first so_far. left_own t c.args.write.now c.args.address c.in-Some.other c.in-Some.lease c.in-Some.ensures (sym c.is_other.ensures ∙ c.if-is_other.false)
