use Rattle.std.proofs.Common.{◌≡◌, take, sym, subst, arith}
use Rattle.std.proofs.lemmas.Bool.Decides.{nat_tests}
use Rattle.std.proofs.lemmas.List.{take_all}
use Rattle.std.specs.Str.Parse.{AllDigits}
use Rattle.off_base.proofs.NumberLemmas.{number_read_empty, number_read_long, number_read_stops, number_steps, number_read_all}
use Rattle.off_base.proofs.numbers.read_number.Goals as goal

pub returns-then-is_empty-clause-value : goal.returns-then-is_empty-clause-value
returns-then-is_empty-clause-value c = sym (number_read_empty _ _ (grind (arith, nat_tests)))

pub returns-then-text-gt20-clause-value : goal.returns-then-text-gt20-clause-value
returns-then-text-gt20-clause-value c = sym (number_read_long _ _ (omega arith))

pub returns-in_default-clause-value : goal.returns-in_default-clause-value
returns-in_default-clause-value c =
    sym (number_read_stops _ c.loop-byte.byte-index _ _ c.loop-byte-test.true c.loop-byte.invariant.1 c.in_default.ensures)

pub loop-byte-preserved : goal.loop-byte-preserved
loop-byte-preserved c =
    let e = c.in-Some.ensures in
    let step = number_steps c.loop-byte.byte-index _ _ _ c.loop-byte-test.true c.loop-byte.invariant.0 c.loop-byte.invariant.1 e.0.0 e.0.1 e.1 in
    (step.0, step.1, omega (arith, e.0.2, e.1))

pub returns-clause-value : goal.returns-clause-value
returns-clause-value c =
    let text = c.args.text.now in
    let whole : take c.loop-byte.byte-index text ≡ text = take_all _ _ c.loop-byte-test.false in
    sym (number_read_all _ _ _ (grind (arith, nat_tests)) (omega arith) (subst (AllDigits 10) whole c.loop-byte.invariant.0) (rw whole at c.loop-byte.invariant.1) c.loop-byte.invariant.2)
