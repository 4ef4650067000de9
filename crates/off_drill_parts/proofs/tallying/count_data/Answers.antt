use Rattle.std.proofs.Common.{ap, ◌∙◌, List, arith}
use Rattle.std.proofs.lemmas.List.{take_all}
use Rattle.off_defs.specs.declared.results.Sent.{Sent}
use Rattle.off_drill_parts.specs.Tallying.{raised_by, data_tally}
use Rattle.off_drill_parts.proofs.TallyLemmas.{counted_none, counted_more}
use Rattle.off_drill_parts.proofs.tallying.count_data.Goals as goal

pub loop-i-init : goal.loop-i-init
loop-i-init c = (counted_none _, c.len-i-end.ensures)

pub loop-i-preserved : goal.loop-i-preserved
loop-i-preserved c = (
  counted_more _ _ _ c.args.said.now.items c.loop-i.i c.get.result.now (omega (arith, c.loop-i-test.true, c.len-i-end.ensures)) c.get.ensures c.loop-i.invariant.0
      c.count_item-sum.ensures,
  c.loop-i.invariant.1,
)

pub returns : goal.returns
returns c =
    let items = c.args.said.now.items in
    c.loop-i.invariant.0 ∙ ap (λ (xs : List Sent). raised_by c.args.tally (data_tally xs)) (take_all c.loop-i.i items (omega (arith, c.loop-i-test.false, c.len-i-end.ensures)))
