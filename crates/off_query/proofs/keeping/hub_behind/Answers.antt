use Rattle.std.proofs.Common.{sym, ◌∙◌}
use Rattle.off_runs.specs.Leases.{ground}
use Rattle.off_query.proofs.WalkLemmas.{relay_hub}
use Rattle.off_query.proofs.keeping.hub_behind.Goals as goal

pub returns : goal.returns
returns c = λ t keeps. c.hub_behind.ensures (ground t) keeps ∙ sym (relay_hub t c.args.relay)
