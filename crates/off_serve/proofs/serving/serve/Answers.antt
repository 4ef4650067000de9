use Rattle.off_serve.proofs.HeadlineLemmas.{serves, stays_closed}
use Rattle.off_serve.proofs.serving.serve.Goals as goal

pub returns-in-Ok : goal.returns-in-Ok
returns-in-Ok g c = serves _ _ _ _ _ _ _ _ _ _ _ _ _ (g.met.K.Keeper.rests c.args.keeper.now) c.in-Ok.ensures.told c.in-Ok.ensures.held c.serve_events-stop.ensures c.finish.ensures

pub returns-in-Err : goal.returns-in-Err
returns-in-Err g c =
    stays_closed c.args.turns (g.L.Link.seen c.args.link.now) (g.K.Keeper.seen c.args.keeper.now) (g.K.Keeper.seen c.start.new.keeper) (g.W.Sink.seen c.args.out.now)
    (g.W.Sink.seen c.stay_closed.new.out) c.in-Err.err c.stay_closed.result c.in-Err.ensures.told c.stay_closed.ensures
