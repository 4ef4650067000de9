use Rattle.off_tlv.specs.declared.faults.ReadFault.TheVariants.{NoEnd}
use Rattle.off_rows.proofs.FieldLemmas.{no_end_settings, settings_by_fault}
use Rattle.off_rows.proofs.fields.is_spelling.Goals as goal

pub returns-in-Ok : goal.returns-in-Ok
returns-in-Ok c = λ s. let e = c.in-Ok.ensures.first NoEnd (no_end_settings c.args.bytes.now s) in cc

pub returns-in-Err : goal.returns-in-Err
returns-in-Err c = settings_by_fault c.args.bytes.now c.in-Err.fault c.is_no_end.result c.in-Err.ensures.found c.in-Err.ensures.first c.is_no_end.ensures
