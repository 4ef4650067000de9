use Rattle.std.proofs.Common.{[], ◌∷◌, ◌++◌, List, take, sym, ap, ◌∙◌}
use Rattle.std.proofs.lemmas.List.Elements.{filter_map-append}
use Rattle.std.specs.List.{cons_option}
use Rattle.off_base.proofs.TreeLemmas.{taken}
use Rattle.off_defs.specs.declared.writes.Write.{Write}
use Rattle.off_device_runs.specs.Ground.{taken_for, taken_all}
use Rattle.off_device_runs.proofs.taking.taken_all.Goals as goal

pub loop-place-preserved : goal.loop-place-preserved
loop-place-preserved c =
    let writes = c.args.writes.now in
    let write = c.get.result.now in
    c.in_ok-push_taken.ensures
    ∙ ap (λ (v : List Write). v ++ cons_option (taken_for write) []) c.loop-place.invariant
    ∙ sym (ap taken_all (taken writes c.loop-place.place write c.get.ensures) ∙ filter_map-append taken_for (take c.loop-place.place writes) (write ∷ []))
