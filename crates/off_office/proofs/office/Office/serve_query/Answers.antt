use Rattle.std.proofs.Common.{◌≡◌, subst}
use Rattle.off_query_rules.specs.Answers.{query_step}
use Rattle.off_outside.specs.KeeperCalls.{Reads}
use Rattle.off_outside.proofs.KeeperLemmas.{reads_as}
use Rattle.off_office.specs.Desk.{Desk}
use Rattle.off_office.specs.Conditions.{Mirrors}
use Rattle.off_office.proofs.QueryLemmas.{said_answers}
use Rattle.off_office.proofs.office.Office.serve_query.Goals as goal

pub returns-in-Ok-clause-told : goal.returns-in-Ok-clause-told
returns-in-Ok-clause-told g c =
    said_answers c.say_answer.result _ _ c.in-Ok.step _ _ _
    (subst (λ (d : Desk). Reads (λ t. Mirrors d t → c.in-Ok.step ≡ query_step t d.held.now c.args.query.now) (g.K.Keeper.seen c.args.keeper.now) (g.K.Keeper.seen c.reply_by.new.keeper)) c.self.view_is
    (reads_as c.in-Ok.ensures.told (λ t says mirrors. says mirrors.pools)))
    c.say_answer.ensures
