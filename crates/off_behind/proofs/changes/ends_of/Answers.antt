use Rattle.off_behind.proofs.DropLemmas.{ends_more}
use Rattle.off_behind.proofs.changes.ends_of.Goals as goal

pub loop-place-preserved : goal.loop-place-preserved
loop-place-preserved c =
    ends_more c.args.writes.now c.loop-place.place c.get.result.now c.loop-place.ends c.widened-ends.result c.get.ensures c.loop-place.invariant c.widened-ends.ensures.same c.widened-ends.ensures.here
