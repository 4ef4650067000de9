use Rattle.off_turns.specs.Serving.{Missed}
use Rattle.off_turns.proofs.taking.take_event.Given as goal

abbrev pub invariant-loop-attempt : goal.invariant-loop-attempt
invariant-loop-attempt g l = Missed l._attempt (g.L.Link.seen l.fn.link) (g.L.Link.seen l.link)
