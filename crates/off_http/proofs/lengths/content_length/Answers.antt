use Rattle.std.proofs.Common.{sym, ◌∙◌}
use Rattle.off_http.proofs.LengthLemmas.{step_other, step_bad, step_same}
use Rattle.off_http.proofs.lengths.content_length.Goals as goal
use Rattle.off_http.proofs.lengths.content_length.Goals.{then-is_name+in-Some+else-not-agrees, else-is_name}

pub returns-in_default : goal.returns-in_default
returns-in_default c =
    step_bad c.args.text.now c.args.fields.now c.loop-field.field-index _ _ c.loop-field-test.true c.loop-field.invariant _ _ c.of.ensures c.is_name.ensures
    _ c.if-is_name.true c.of-then-is_name.ensures c.in_default.ensures

pub loop-field-preserved : goal.loop-field-preserved
loop-field-preserved c =
    elim c.if-is_name.branch [
      | then-is_name+in-Some+else-not-agrees w ↦
          step_same c.args.text.now c.args.fields.now c.loop-field.field-index _ _ c.loop-field-test.true c.loop-field.invariant _ _ c.of.ensures c.is_name.ensures
          _ w.in-Some.number _ w.if-is_name.true w.of-then-is_name.ensures w.in-Some.ensures (sym w.agrees.ensures ∙ w.if-not-agrees.false) w.declared-is
      | else-is_name w ↦
          step_other c.args.text.now c.args.fields.now c.loop-field.field-index _ _ c.loop-field-test.true c.loop-field.invariant _ _ c.of.ensures c.is_name.ensures
          _ w.if-is_name.false w.declared-is
    ]
