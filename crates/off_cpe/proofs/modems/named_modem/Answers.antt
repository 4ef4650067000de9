use Rattle.std.proofs.Common.{sym, ◌∙◌}
use Rattle.off_outside.proofs.KeeperLemmas.{reads_as}
use Rattle.off_cpe.proofs.RowLemmas.{named_found, named_read}
use Rattle.off_cpe.proofs.modems.named_modem.Goals as goal

pub returns-clause-told : goal.returns-clause-told
returns-clause-told g c =
    reads_as c.in_ok-row.ensures.told (λ t read.
    named_found t c.args.m.now c.args.remote c.in_ok-row.row c.on_record.result (sym c.is_another.ensures ∙ c.if-not-is_another.false) read c.on_record.ensures)

pub returns-clause-read : goal.returns-clause-read
returns-clause-read g c = named_read c.args.remote c.in_ok-row.row c.on_record.result c.on_record.ensures
