use Rattle.off_base.specs.Setting.{tree_of}
use Rattle.off_tree.specs.Fault.{flow_number}
use Rattle.off_tree.specs.Reference.{directions_of}
use Rattle.off_tree.proofs.ReferenceLemmas.{marks_push}
use Rattle.off_tree.proofs.references.flows_met.Goals as goal

pub loop-place-preserved : goal.loop-place-preserved
loop-place-preserved c =
    marks_push (flow_number (directions_of c.args.flows)) c.args.settings.now c.loop-place.place (tree_of c.get.result.now) _ c.loop-place.met c.mark.new.marks c.get.ensures c.number.ensures c.loop-place.invariant c.mark.ensures
