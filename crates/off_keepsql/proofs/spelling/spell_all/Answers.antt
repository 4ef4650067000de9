use Rattle.std.proofs.Common.{◌∙◌}
use Rattle.std.proofs.lemmas.Result.{err_from_is_err_and}
use Rattle.off_spelled.proofs.SpellLemmas.{spelled_more}
use Rattle.off_keepsql.proofs.SpellLemmas.{not_spelled, cells_more}
use Rattle.off_keepsql.proofs.spelling.spell_all.Goals as goal

pub returns-in_err-write : goal.returns-in_err-write
returns-in_err-write c =
    let p = err_from_is_err_and c.from_residual.result c.from_residual.ensures.1 in
    rw (p.1, p.2) (not_spelled c.args.writes.now c.loop-i.i c.get.result.now _ c.args.own.now c.loop-i.own c.spell.new.own c.get.ensures c.loop-i.invariant.own c.in_err-write.ensures)

pub loop-i-preserved : goal.loop-i-preserved
loop-i-preserved c = record {
  cells = c.in_ok-push.ensures.ok ∙ cells_more _ _ _ _ _ c.get.ensures c.loop-i.invariant.cells c.in_ok-write.ensures.1;
  spelled = spelled_more _ _ _ c.get.ensures c.loop-i.invariant.spelled c.in_ok-write.ensures.0;
  own = c.in_ok-write.ensures.2 ∙ c.loop-i.invariant.own;
}
