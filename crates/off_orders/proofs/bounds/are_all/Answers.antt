use Rattle.std.proofs.Common.{sym, ◌∙◌}
use Rattle.off_orders.specs.Sound.{is_row_of}
use Rattle.off_orders.proofs.ImportLemmas.{all_more, one_fails}
use Rattle.off_orders.proofs.bounds.are_all.Goals as goal

pub returns-then-not-is_of : goal.returns-then-not-is_of
returns-then-not-is_of c =
    sym (one_fails (is_row_of c.args.kind) c.args.rows.now c.loop-place.place c.get.result.now c.get.ensures (sym c.is_of.ensures ∙ c.if-not-is_of.true))

pub loop-place-preserved : goal.loop-place-preserved
loop-place-preserved c =
    all_more (is_row_of c.args.kind) c.args.rows.now c.loop-place.place c.get.result.now c.get.ensures c.loop-place.invariant (sym c.is_of.ensures ∙ c.if-not-is_of.false)
