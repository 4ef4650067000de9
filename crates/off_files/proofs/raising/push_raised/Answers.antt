use Rattle.off_base.specs.Setting.{tree_of}
use Rattle.off_file_rules.specs.Profile.{raised}
use Rattle.off_files.proofs.LoopLemmas.{made_more}
use Rattle.off_files.proofs.raising.push_raised.Goals as goal

pub loop-place-preserved : goal.loop-place-preserved
loop-place-preserved c =
    made_more (raised c.args.number) c.args.out.now c.loop-place.out c.push.new.self c.args.settings.now c.loop-place.place (tree_of c.get.result.now)
    (tree_of c.in_ok-raised.field-0) c.get.ensures c.loop-place.invariant c.in_ok-raised.ensures c.in_ok-push.ensures.ok
