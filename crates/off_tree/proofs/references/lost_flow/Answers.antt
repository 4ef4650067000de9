use Rattle.std.proofs.Common.{refl}
use Rattle.off_base.specs.Setting.{tree_of}
use Rattle.off_tree.specs.Fault.{first_lost, lost_flow}
use Rattle.off_tree.proofs.ReferenceLemmas.{search_found, search_none}
use Rattle.off_tree.proofs.references.lost_flow.Goals as goal

pub returns-in-Some : goal.returns-in-Some
returns-in-Some c =
    let all = c.args.settings.now in
    search_found (lost_flow c.args.settings.now) (first_lost c.args.settings.now) (λ t ts. refl) c.args.settings.now c.loop-place.place (tree_of c.get-setting.result.now) c.in-Some.number c.get-setting.ensures c.loop-place.invariant c.in-Some.ensures

pub loop-place-preserved : goal.loop-place-preserved
loop-place-preserved c =
    search_none (lost_flow c.args.settings.now) (first_lost c.args.settings.now) (λ t ts. refl) c.args.settings.now c.loop-place.place (tree_of c.get-setting.result.now) c.get-setting.ensures c.loop-place.invariant c.in_default.ensures
