use Rattle.std.proofs.Common.{◌≡◌, ◌+◌, get_or, length, sym, subst, ◌∙◌, arith}
use Rattle.off_tlv.specs.Grammar.{Level}
use Rattle.off_tlv.specs.Front.{Front}
use Rattle.off_tlv.specs.Seen.{level_of}
use Rattle.off_tlv.proofs.FrontLemmas.{behind_more, cut_here, cut_inside, cut_sum_fits, leaf_stands, group_setting}
use Rattle.off_tlv.proofs.extents.+front.Goals as goal

pub check_value-returns-then-not-is_group : goal.check_value-returns-then-not-is_group
check_value-returns-then-not-is_group t c =
    leaf_stands (level_of c.args.level) c.args.code c.args.value.now c.requires.has (sym c.is_group.ensures ∙ c.if-not-is_group.true) c.requires.byte

pub check_value-returns-in-Ok : goal.check_value-returns-in-Ok
check_value-returns-in-Ok t c =
    group_setting (level_of c.args.level) c.args.code c.in-Ok.field-0 c.args.value.now c.requires.has (sym c.is_group.ensures ∙ c.if-not-is_group.false) c.requires.byte
    (subst (λ (x : Level). Front x c.args.value.now c.in-Ok.field-0) c.inside.ensures c.in-Ok.ensures)

pub front-returns-in_default : goal.front-returns-in_default
front-returns-in_default t c =
    cut_here (level_of c.args.level) c.args.bytes.now c.loop-place.place c.loop-place.invariant.0 c.loop-place-test.true (sym c.has.ensures ∙ c.if-not-has.false) c.in_default.ensures

pub front-overflow_add-result-in-Err : goal.front-overflow_add-result-in-Err
front-overflow_add-result-in-Err t c =
    omega (arith, cut_sum_fits (level_of c.args.level) c.args.bytes.now c.in-Some.value.now (get_or c.args.bytes.now c.loop-place.place 0) c.loop-place.place c.in-Err.cut c.in-Some.ensures c.in-Err.ensures)

pub front-returns-in-Err : goal.front-returns-in-Err
front-returns-in-Err t c =
    cut_inside (level_of c.args.level) c.args.bytes.now c.in-Some.value.now c.loop-place.place c.in-Err.cut c.loop-place.invariant.0 c.in-Some.ensures (sym c.has.ensures ∙ c.if-not-has.false) c.in-Err.ensures

pub front-loop-place-preserved : goal.front-loop-place-preserved
front-loop-place-preserved t c =
    let onward : c.loop-place.place + (2 + length c.in-Some.value.now) ≡ c.loop-place.place + 2 + length c.in-Some.value.now = omega arith in
    let takes = c.in-Some.ensures in
    (rw onward (behind_more (level_of c.args.level) c.args.bytes.now c.in-Some.value.now c.loop-place.place c.loop-place.invariant.0 takes c.in_default-check_value.ensures), omega (arith, takes.fits))
