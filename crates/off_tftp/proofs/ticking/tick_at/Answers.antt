use Rattle.std.proofs.Common.{arith}
use Rattle.off_tftp.proofs.TickedLemmas.{resent_at}
use Rattle.off_tftp.proofs.ticking.tick_at.Goals as goal

pub returns-clause-items : goal.returns-clause-items
returns-clause-items c =
    λ entry is. resent_at c.args.now.0 c.args.entries.now.items c.args.place c.index.result.now c.index-2.result.now c.index_mut.result.now entry c.is_due.result c.has_resend.result c.send_again.new.self
    (omega (arith, c.requires, c.args.entries.now.ok.0)) c.index.ensures c.index-2.ensures c.index_mut.ensures.value is c.is_due.ensures c.if-not-is_due.false c.has_resend.ensures c.if-not-has_resend.false
    c.send_again.ensures
