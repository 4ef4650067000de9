use Rattle.off_opening.proofs.StandingLemmas.{compared_are}
use Rattle.off_opening.proofs.opening.compared_in.Goals as goal

pub returns-clause-ok : goal.returns-clause-ok
returns-clause-ok c =
    compared_are c.args.marks.now (record { pools = c.in_ok-pools.pools; device_pools = c.in_ok-device_pools.device_pools; several = c.in_ok-several.several })
    c.in_ok-pools.ensures.ok c.in_ok-device_pools.ensures.ok c.in_ok-several.ensures.ok
