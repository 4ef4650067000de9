use Rattle.std.proofs.Common.{◌≡◌, ◌∷◌, rules}
use Rattle.off_memdisk.proofs.TearLemmas.{replay_more}
use Rattle.off_memdisk.proofs.tearing.image_of.Goals as goal

pub loop-mark-preserved : goal.loop-mark-preserved
loop-mark-preserved c =
    let is : c.loop-mark.left.now ≡ c.in-Some.mark.now ∷ c.in-Some.rest.now = search rules in
    replay_more c.args.base.now c.args.marks.now c.loop-mark.left.now c.in-Some.rest.now c.in-Some.mark.now c.args.pieces.now c.loop-mark.replay c.step.new.replay
    c.loop-mark.invariant is c.in_ok-step.ensures
