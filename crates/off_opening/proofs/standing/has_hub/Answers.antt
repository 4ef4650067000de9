use Rattle.off_opening.proofs.StandingLemmas.{hub_by}
use Rattle.off_opening.proofs.standing.has_hub.Goals as goal

pub returns-in-Some : goal.returns-in-Some
returns-in-Some c = λ t are pooled.
    hub_by c.args.pools.now t c.args.address c.in-Some.number c.stored_hub.result c.is_hub_there.result c.in-Some.ensures pooled (c.stored_hub.ensures t are) (c.is_hub_there.ensures t are)
