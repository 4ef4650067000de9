use Rattle.std.proofs.Common.{arith}
use Rattle.off_base.specs.Setting.{tree_of}
use Rattle.off_tree.specs.Fault.{flow_number, both_directions}
use Rattle.off_tree.proofs.ReferenceLemmas.{repeat_found, repeat_none, marks_push}
use Rattle.off_tree.proofs.references.repeated_flow.Goals as goal

pub returns-in-Some : goal.returns-in-Some
returns-in-Some c = repeat_found (flow_number both_directions) c.args.settings.now c.loop-place.place c.in-Some.number (omega (arith, c.len-place-end.ensures)) c.loop-place.invariant.0 c.in-Some.ensures

pub loop-place-preserved : goal.loop-place-preserved
loop-place-preserved c = (
  repeat_none (flow_number both_directions) c.args.settings.now c.loop-place.place (omega (arith, c.len-place-end.ensures)) c.loop-place.invariant.0 c.in_default.ensures,
  marks_push (flow_number both_directions) c.args.settings.now c.loop-place.place (tree_of c.get.result.now) _ c.loop-place.met c.mark.new.marks c.get.ensures c.number.ensures c.loop-place.invariant.1 c.mark.ensures,
)
