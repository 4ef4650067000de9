use Rattle.std.proofs.Common.{[]}
use Rattle.off_base.specs.Setting.{tree_of}
use Rattle.off_file_rules.specs.Profile.{raised_part}
use Rattle.off_files.proofs.LoopLemmas.{made_more}
use Rattle.off_files.proofs.raising.raised_parts.Goals as goal

pub loop-place-preserved : goal.loop-place-preserved
loop-place-preserved c =
    made_more (raised_part c.args.number c.args.code) [] c.loop-place.made c.push.new.self c.args.parts.now c.loop-place.place (tree_of c.get.result.now)
    (tree_of c.in_ok-raised_part.field-0) c.get.ensures c.loop-place.invariant c.in_ok-raised_part.ensures c.in_ok-push.ensures.ok
