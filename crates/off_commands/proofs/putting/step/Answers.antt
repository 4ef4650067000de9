use Rattle.off_commands.proofs.RowsLemmas.{step_read}
use Rattle.off_commands.proofs.putting.step.Goals as goal

pub returns-in_ok-put_row-in-Ok-clause-told : goal.returns-in_ok-put_row-in-Ok-clause-told
returns-in_ok-put_row-in-Ok-clause-told g c =
    step_read c.args.row.now c.args.so_far.now c.put_row.new.so_far c.in_ok-counts.field-0 c.in-Ok.counts c.in-Ok.is c.in_ok-counts.ensures.told c.in_ok-put_row-in-Ok.ensures.put c.in_ok-put_row-in-Ok.ensures.counts
