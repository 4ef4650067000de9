use Rattle.off_commands.proofs.ImportLemmas.{finished_read}
use Rattle.off_commands.proofs.importing.import.Goals as goal

pub returns-in-Ok-clause-told : goal.returns-in-Ok-clause-told
returns-in-Ok-clause-told g c =
    finished_read c.args.counts.now c.args.number c.args.batch.now c.args.rows.now c.in_ok-old.field-0 c.in-Ok.so_far c.in_ok-so_far.field-0 c.finish.result c.requires.counted c.in_default.is c.in-Ok.is
    c.in_ok-so_far.ensures.stands c.in_ok-old.ensures.told c.in_ok-so_far.ensures.told c.finish.ensures
