use Rattle.std.proofs.Common.{◌∷◌, []}
use Rattle.std.proofs.lemmas.Result.{err_from_is_err_and}
use Rattle.off_drill_rules.specs.Rows.{with_site, with_class}
use Rattle.off_drill_parts.specs.Commands.{put_class}
use Rattle.off_drill_parts.proofs.CommandLemmas.{class_step}
use Rattle.off_drill_job.proofs.FoundingLemmas.{ends_as, ends_builds, halts_at_once}
use Rattle.off_drill_job.proofs.founding.give_class.Goals as goal

pub returns-in_err-command-clause-told : goal.returns-in_err-command-clause-told
returns-in_err-command-clause-told g c =
    let p = err_from_is_err_and c.from_residual.result c.from_residual.ensures.1 in
    rw (p.1, p.2) (halts_at_once (put_class ∷ []) _ _ (g.met.K.Keeper.rests c.args.keeper.now))

pub returns-clause-told : goal.returns-clause-told
returns-clause-told g c =
    ends_builds c.give.result put_class with_site with_class _ _ _ _ class_step (ends_as c.give.result c.in_ok-command.command put_class _ _ _ _ c.in_ok-command.ensures c.give.ensures.told)
