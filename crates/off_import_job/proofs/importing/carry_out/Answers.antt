use Rattle.off_import_job.proofs.ImportLemmas.{did_command}
use Rattle.off_import_job.proofs.importing.carry_out.Goals as goal

pub returns-in-Ok : goal.returns-in-Ok
returns-in-Ok g c =
    did_command _ c.in-Ok.reply _ _ c.command.new.self _ _ c.in-Ok.ensures.held c.requires.fresh c.in-Ok.ensures.told c.in-Ok.ensures.rows c.rows_in.ensures
