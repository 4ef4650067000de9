use Rattle.std.proofs.Common.{sym, ap, ◌∙◌}
use Rattle.off_base.specs.Setting.{tree_of}
use Rattle.off_tree.specs.Fault.{flow_number}
use Rattle.off_tree.specs.Reference.{directions_of, is_same}
use Rattle.off_tree.proofs.ReferenceLemmas.{number_found, number_more}
use Rattle.off_tree.proofs.references.has_flow.Goals as goal

pub returns-then-is_same : goal.returns-then-is_same
returns-then-is_same c =
    sym (number_found (flow_number (directions_of c.args.flows)) c.args.settings.now c.loop-place.place c.args.end (tree_of c.get.result.now) c.args.number c.get.ensures c.loop-place-test.true
    (ap (is_same c.args.number) (sym c.number.ensures) ∙ sym c.is_same.ensures ∙ c.if-is_same.true))

pub loop-place-preserved : goal.loop-place-preserved
loop-place-preserved c =
    number_more (flow_number (directions_of c.args.flows)) c.args.settings.now c.loop-place.place (tree_of c.get.result.now) c.args.number c.get.ensures c.loop-place.invariant
    (ap (is_same c.args.number) (sym c.number.ensures) ∙ sym c.is_same.ensures ∙ c.if-is_same.false)
