use Rattle.std.proofs.Common.{ap, sym, ◌∙◌}
use Rattle.off_defs.specs.Tables.{key_written}
use Rattle.off_tftp.specs.Agreements.{without_row}
use Rattle.off_defs.specs.declared.keys.Key.{Key}
use Rattle.off_tftp.proofs.AgreementLemmas.{rows_more}
use Rattle.off_tftp.proofs.agreements.forget_leases.Goals as goal

pub loop-place-preserved : goal.loop-place-preserved
loop-place-preserved c = record {
  rows =
      c.forget_row.ensures.row ∙ ap (λ (k : Key). without_row k c.loop-place.slots.items) c.key_of.ensures
      ∙ ap (without_row (key_written c.get.result.now)) c.loop-place.invariant.rows
      ∙ sym (rows_more c.args.writes.now c.loop-place.place c.get.result.now c.args.slots.now.items c.get.ensures);
  len = c.forget_row.ensures.len;
  end = c.loop-place.invariant.end;
}
