use Rattle.std.proofs.Common.{sym, ◌∙◌}
use Rattle.off_behind.specs.Drops.{puts}
use Rattle.off_behind.proofs.WriteLemmas.{any_there, none_more}
use Rattle.off_behind.proofs.changes.has_puts.Goals as goal

pub returns-then-is_put : goal.returns-then-is_put
returns-then-is_put c = sym (any_there puts c.args.writes.now c.loop-place.place c.get.result.now c.get.ensures (sym c.is_put.ensures ∙ c.if-is_put.true))

pub loop-place-preserved : goal.loop-place-preserved
loop-place-preserved c = none_more puts c.args.writes.now c.loop-place.place c.get.result.now c.get.ensures c.loop-place.invariant (sym c.is_put.ensures ∙ c.if-is_put.false)
