use Rattle.std.proofs.Common.{sym, ◌∙◌}
use Rattle.off_behind.specs.Drops.{changes}
use Rattle.off_behind.proofs.WriteLemmas.{any_there, none_more}
use Rattle.off_behind.proofs.changes.has_change.Goals as goal

pub returns-then-is_change : goal.returns-then-is_change
returns-then-is_change c = sym (any_there (changes c.args.address) c.args.writes.now c.loop-place.place c.get.result.now c.get.ensures (sym c.is_change.ensures ∙ c.if-is_change.true))

pub loop-place-preserved : goal.loop-place-preserved
loop-place-preserved c = none_more (changes c.args.address) c.args.writes.now c.loop-place.place c.get.result.now c.get.ensures c.loop-place.invariant (sym c.is_change.ensures ∙ c.if-is_change.false)
