use Rattle.off_files.proofs.LoopLemmas.{raised_more}
use Rattle.off_files.proofs.profiles.push_add_ons.Goals as goal

pub loop-place-preserved : goal.loop-place-preserved
loop-place-preserved c =
    raised_more c.args.out.now c.loop-place.out c.push_raised.new.out c.args.add_ons.now c.loop-place.place (c.get-number.result.0, c.get-number.result.1.now) c.get-number.ensures
    c.loop-place.invariant c.in_ok-push_raised.ensures
