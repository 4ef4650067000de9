use Rattle.std.proofs.Common.{rules, ap, sym, ◌∙◌}
use Rattle.off_kept.specs.Entries.{stands_in}
use Rattle.off_defs.specs.Tables.{key_written}
use Rattle.off_kept.proofs.ListLemmas.{none_more, one_found}
use Rattle.off_kept.proofs.forgetting.is_written.Goals as goal

pub returns-then-stands_in : goal.returns-then-stands_in
returns-then-stands_in c =
    sym (one_found (λ write. stands_in (key_written write) (c.args.modem, c.args.kept.now)) c.args.writes.now c.loop-i.i c.get.result.now c.get.ensures
    (ap (λ key. stands_in key (c.args.modem, c.args.kept.now)) (sym c.key_of.ensures) ∙ sym c.stands_in.ensures ∙ c.if-stands_in.true))

pub loop-i-preserved : goal.loop-i-preserved
loop-i-preserved c = (
  none_more (λ write. stands_in (key_written write) (c.args.modem, c.args.kept.now)) c.args.writes.now c.loop-i.i c.get.result.now c.get.ensures (search rules)
      (ap (λ key. stands_in key (c.args.modem, c.args.kept.now)) (sym c.key_of.ensures) ∙ sym c.stands_in.ensures ∙ c.if-stands_in.false),
  c.len-i-end.ensures,
)
