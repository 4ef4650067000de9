use Rattle.off_turns.specs.Serving.{world_of}
use Rattle.off_turns.proofs.ServeLemmas.{Going}
use Rattle.off_turns.proofs.events.serve_events.Given as goal

abbrev pub invariant-loop-done : goal.invariant-loop-done
invariant-loop-done g l =
    Going l.done l.fn.office l.office (world_of (g.L.Link.seen l.fn.link) (g.K.Keeper.seen l.fn.keeper) (g.W.Sink.seen l.fn.out))
    (world_of (g.L.Link.seen l.link) (g.K.Keeper.seen l.keeper) (g.W.Sink.seen l.out))
