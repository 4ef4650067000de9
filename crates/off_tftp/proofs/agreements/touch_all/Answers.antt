use Rattle.std.proofs.Common.{rules, ap, sym, ◌∙◌}
use Rattle.off_defs.specs.Tables.{key_written}
use Rattle.off_tftp.specs.Agreements.{touches_all}
use Rattle.off_tftp.proofs.AgreementLemmas.{none_more, one_found}
use Rattle.off_tftp.proofs.agreements.touch_all.Goals as goal

pub returns-then-touches_all : goal.returns-then-touches_all
returns-then-touches_all c =
    sym
    (one_found (λ write. touches_all (key_written write)) c.args.writes.now c.loop-place.place c.get.result.now c.get.ensures
    (ap touches_all (sym c.key_of.ensures) ∙ sym c.touches_all.ensures ∙ c.if-touches_all.true))

pub loop-place-preserved : goal.loop-place-preserved
loop-place-preserved c = (
  none_more (λ write. touches_all (key_written write)) c.args.writes.now c.loop-place.place c.get.result.now c.get.ensures (search rules)
      (ap touches_all (sym c.key_of.ensures) ∙ sym c.touches_all.ensures ∙ c.if-touches_all.false),
  c.len-place-end.ensures,
)
