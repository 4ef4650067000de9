use Rattle.std.proofs.Common.{refl, arith}
use Rattle.off_outside.proofs.KeeperLemmas.{spent_then, spent_within}
use Rattle.off_commands.proofs.RowsLemmas.{sound_at, done_then, led_more, led_broken}
use Rattle.off_commands.proofs.putting.put_rows.Goals as goal

pub step-requires-clause-sound : goal.step-requires-clause-sound
step-requires-clause-sound g c = sound_at c.args.rows.now c.loop-i.i c.get.result.now c.get.ensures c.requires.sound

pub returns-in-Err-clause-told : goal.returns-in-Err-clause-told
returns-in-Err-clause-told g c =
    led_broken c.args.counts.now c.args.rows.now c.loop-i.i c.get.result.now c.loop-i.so_far c.step.new.so_far c.in_ok-verdict.verdict _ c.get.ensures c.in-Err.is refl c.loop-i.invariant.1 c.in_ok-verdict.ensures.told

pub loop-i-preserved : goal.loop-i-preserved
loop-i-preserved g c = (
  (done_then c.in_ok-verdict.verdict c.in_default.is c.in_ok-verdict.ensures.put).stands c.args.counts.now c.loop-i.invariant.0,
  led_more c.args.counts.now c.args.rows.now c.loop-i.i c.get.result.now c.loop-i.so_far c.step.new.so_far c.in_ok-verdict.verdict c.get.ensures c.in_default.is c.loop-i.invariant.1 c.in_ok-verdict.ensures.told c.in_ok-verdict.ensures.put,
  spent_within (spent_then c.loop-i.invariant.2 c.in_ok-verdict.ensures.spent) (omega arith),
)
