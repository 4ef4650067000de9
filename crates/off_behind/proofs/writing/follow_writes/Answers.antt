use Rattle.std.proofs.Common.{sym, ◌∙◌}
use Rattle.off_behind.proofs.DropLemmas.{undropped, dropped}
use Rattle.off_behind.proofs.writing.follow_writes.Goals as goal

pub returns-in_default-clause-stands : goal.returns-in_default-clause-stands
returns-in_default-clause-stands c = λ t stands. undropped t c.args.writes.now c.args.buckets.now.items (sym c.has_puts.ensures ∙ c.if-has_puts.false) c.in_default.ensures stands

pub returns-clause-stands : goal.returns-clause-stands
returns-clause-stands c = λ t stands.
    dropped t c.args.writes.now c.in-Some.ends c.args.buckets.now.items c.forget_dropped.new.buckets.items (sym c.has_puts.ensures ∙ c.if-has_puts.false) c.in-Some.ensures c.forget_dropped.ensures.left stands
