use Rattle.std.proofs.Common.{ap, ◌∙◌}
use Rattle.off_runs.specs.Changes.{hub_or_0}
use Rattle.off_runs.proofs.PlaceLemmas.{some_there, none_there}
use Rattle.off_runs.proofs.pools.hub_numbered.Goals as goal

pub returns-in-Some : goal.returns-in-Some
returns-in-Some c =
    c.hub.ensures
    ∙ ap hub_or_0 (some_there c.args.pools.now.items c.deref.result.now c.place_numbered-place.result c.in-Some.pool.now _ c.deref.ensures.value c.in-Some.ensures.lookup.3.0 c.in-Some.ensures.lookup.1 c.place_numbered-place.ensures)

pub returns-in-None : goal.returns-in-None
returns-in-None c =
    ap hub_or_0 (none_there c.args.pools.now.items c.deref.result.now c.place_numbered-place.result _ c.deref.ensures.value c.in-None.ensures.lookup.3 c.place_numbered-place.ensures)
