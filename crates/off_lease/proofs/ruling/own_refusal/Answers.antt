use Rattle.std.proofs.Common.{not, ap, ◌∙◌}
use Rattle.off_lease.proofs.CaseLemmas.{own_five}
use Rattle.off_lease.proofs.ruling.own_refusal.Goals as goal

pub returns : goal.returns
returns c =
    c.first_broken.ensures
    ∙ own_five c.args.m.now (not c.is_served.result) c.has_no_form.result c.has_cut_part.result c.relays_another.result c.is_no_modem.result (ap not c.is_served.ensures)
    c.has_no_form.ensures c.has_cut_part.ensures c.relays_another.ensures c.is_no_modem.ensures
