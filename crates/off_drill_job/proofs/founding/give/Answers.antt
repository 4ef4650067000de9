use Rattle.off_drill_job.proofs.FoundingLemmas.{gave_done, gave_refused, begun_now, come_to}
use Rattle.off_drill_job.proofs.founding.give.Goals as goal

pub returns-in-Ok-clause-told : goal.returns-in-Ok-clause-told
returns-in-Ok-clause-told g c =
    gave_done _ _ c.command.new.self _ _ c.requires.sound c.requires.fits (g.met.K.Keeper.rests c.args.keeper.now) (g.met.K.Keeper.rests c.command.new.keeper)
    (begun_now _ (come_to _ _ c.in-Ok.ensures.held c.requires.ready)) c.in-Ok.ensures.held _ c.in-Ok.ensures.told

pub returns-in-Err-clause-told : goal.returns-in-Err-clause-told
returns-in-Err-clause-told g c =
    gave_refused _ _ c.command.new.self _ _ c.requires.sound c.requires.fits (g.met.K.Keeper.rests c.args.keeper.now) (g.met.K.Keeper.rests c.command.new.keeper)
    (begun_now _ (come_to _ _ c.in-Err.ensures.held c.requires.ready)) c.in-Err.ensures.held c.in-Err.err c.pass_over.result
    (record { counts = c.in-Err.ensures.counts; kept = c.in-Err.ensures.kept; agreements = c.in-Err.ensures.agreements; pools = c.in-Err.ensures.pools; device_pools = c.in-Err.ensures.device_pools; users = c.in-Err.ensures.users; devices = c.in-Err.ensures.devices }) c.in-Err.ensures.told c.pass_over.ensures
