use Rattle.off_base.specs.Setting.{tree_of}
use Rattle.off_files.proofs.LoopLemmas.{copied_more}
use Rattle.off_files.proofs.profiles.push_copies.Goals as goal

pub loop-place-preserved : goal.loop-place-preserved
loop-place-preserved c =
    copied_more c.args.out.now c.loop-place.out c.push.new.self c.args.settings.now c.loop-place.place (tree_of c.get.result.now) (tree_of c.in_ok-copy.field-0) c.get.ensures
    c.loop-place.invariant c.in_ok-copy.ensures c.in_ok-push.ensures.ok
