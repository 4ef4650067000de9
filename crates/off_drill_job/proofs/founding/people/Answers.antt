use Rattle.std.proofs.lemmas.Result.{err_from_is_err_and}
use Rattle.off_drill_rules.specs.Rows.{founded}
use Rattle.off_drill_job.proofs.FoundingLemmas.{builds_none, people_next, people_halts, come_again}
use Rattle.off_drill_job.proofs.founding.people.Goals as goal

pub loop-k-init : goal.loop-k-init
loop-k-init g c = (builds_none founded _ _ (g.met.K.Keeper.rests c.args.keeper.now), c.requires.ready)

pub settle-requires-clause-ready : goal.settle-requires-clause-ready
settle-requires-clause-ready g c = come_again _ c.loop-k.invariant.1

pub returns-in_err-settle-clause-told : goal.returns-in_err-settle-clause-told
returns-in_err-settle-clause-told g c =
    let p = err_from_is_err_and c.from_residual.result c.from_residual.ensures.1 in
    rw (p.1, p.2) (people_halts c.loop-k.k c.args.count c.loop-k-test.true c.loop-k.invariant.0 c.in_err-settle.ensures.told)

pub loop-k-preserved : goal.loop-k-preserved
loop-k-preserved g c = (people_next c.loop-k.k c.loop-k.invariant.0 c.in_ok-settle.ensures.told, c.in_ok-settle.ensures.held)
