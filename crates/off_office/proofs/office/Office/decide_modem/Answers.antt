use Rattle.std.proofs.Common.{◌≡◌, subst}
use Rattle.off_lease_rules.specs.Steps.{lease_step}
use Rattle.off_readers.proofs.LooksLemmas.{looks_as}
use Rattle.off_outside.specs.KeeperCalls.{Looks}
use Rattle.off_office.specs.Conditions.{Mirrors}
use Rattle.off_office.specs.Desk.{Desk}
use Rattle.off_office.proofs.office.Office.decide_modem.Goals as goal

pub returns-clause-told : goal.returns-clause-told
returns-clause-told g c =
    subst (λ (d : Desk). Looks c.answer.result (g.K.Keeper.seen c.args.keeper.now) (g.K.Keeper.seen c.answer.new.keeper) (λ step t. Mirrors d t → step ≡ lease_step t d.held.now c.args.m.now)) c.self.view_is
    (looks_as _ _ c.answer.result _ _ c.answer.ensures.told (λ step t says mirrors. says (record { moment = c.self.invariant.0; keeps = mirrors.pools })))
