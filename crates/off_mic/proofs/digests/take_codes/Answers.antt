use Rattle.std.proofs.Common.{◌≡◌, ℕ, ◌++◌, false, slice_index_or, subst, arith}
use Rattle.off_mic.specs.Hmac.{HoldsKeyed}
use Rattle.off_mic.proofs.FeedLemmas.{more_behind, all_behind}
use Rattle.off_mic.proofs.digests.take_codes.Goals as goal

pub loop-code-preserved : goal.loop-code-preserved
loop-code-preserved c = λ key message front back e f holds.
    subst (HoldsKeyed c.take_settings.new.self key) (more_behind message c.args.codes.now c.loop-code.code-index front back c.loop-code-test.true)
    (c.take_settings.ensures key _ back f (c.take_code.ensures key _ front e
    (λ unset. c.codes_in-marks.ensures front e (slice_index_or c.args.codes.now c.loop-code.code-index 0) (omega (arith, c.type_inv.codes c.loop-code.code-index)) (subst (λ (n : ℕ). slice_index_or c.codes_in-marks.result n false ≡ false) c.from.ensures unset))
    (c.loop-code.invariant key message front back e f holds)))

pub returns : goal.returns
returns c = λ key message front back e f holds.
    subst (HoldsKeyed c.loop-code.hmac key) (all_behind message c.args.codes.now c.loop-code.code-index (front ++ back) c.loop-code-test.false) (c.loop-code.invariant key message front back e f holds)
