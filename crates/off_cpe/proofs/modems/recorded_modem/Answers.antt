use Rattle.std.proofs.Common.{option_and_then, sym, ap, ◌∙◌}
use Rattle.off_base.specs.declared.macs.Mac.{Mac}
use Rattle.off_outside.proofs.KeeperLemmas.{reads_as}
use Rattle.off_cpe_rules.specs.Behind.{modem_for, recorded_modem}
use Rattle.off_cpe.proofs.RowLemmas.{recorded, unread_found}
use Rattle.off_cpe.proofs.modems.recorded_modem.Goals as goal

pub returns-clause-told : goal.returns-clause-told
returns-clause-told g c =
    reads_as c.in_ok-lease.ensures.told (λ t read.
    unread_found t c.modem_for.result c.unread.result (recorded_modem t c.args.m.now) c.unread.ensures
    (c.modem_for.ensures
    ∙ ap (λ (device : Mac). option_and_then (modem_for device) c.in_ok-lease.lease) c.client.ensures
    ∙ recorded t c.args.m.now c.ciaddr.result c.in_ok-lease.lease (sym c.is_of_a_lease.ensures ∙ c.if-not-is_of_a_lease.false) c.ciaddr.ensures read))
