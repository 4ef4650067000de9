use Rattle.std.proofs.Common.{◌∙◌, arith}
use Rattle.off_tftp.proofs.TickedLemmas.{back_once}
use Rattle.off_tftp.proofs.ticking.tick_all.Goals as goal

pub back-preserved : goal.back-preserved
back-preserved c =
    let was = c.back.invariant in (
      back_once c.args.now.0 c.args.entries.now.items c.back.entries.items c.tick_at.new.entries.items c.back.left c.back-test.true (omega (arith, was.1, c.args.entries.now.ok.0)) was.0 c.tick_at.ensures.items,
      omega (arith, was.1),
      omega (arith, was.2, c.tick_at.ensures.one_less),
      omega (arith, was.3, c.tick_at.ensures.few),
      c.tick_at.ensures.capacity ∙ was.4,
    )
