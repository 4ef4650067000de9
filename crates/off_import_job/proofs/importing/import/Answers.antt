use Rattle.off_import_job.proofs.ImportLemmas.{ends_given, ends_unread}
use Rattle.off_import_job.proofs.importing.import.Goals as goal

pub returns-in-Ok-read_command : goal.returns-in-Ok-read_command
returns-in-Ok-read_command g c =
    ends_given c.carry_out.result _ _ c.in-Ok-read_command.command _ _ _ _ _ _ (g.met.K.Keeper.rests c.args.keeper.now) c.in-Ok.ensures.told c.in-Ok-read_command.ensures.read
    c.in-Ok-read_command.ensures.sound c.carry_out.ensures

pub returns-in-Ok : goal.returns-in-Ok
returns-in-Ok g c = ends_unread c.in-Err-read_command.ended _ _ c.in-Ok.office _ _ _ _ c.in-Ok.ensures.told c.in-Err-read_command.ensures.read
