use Rattle.std.proofs.Common.{Option, sym, ap, ◌∙◌}
use Rattle.std.specs.Option.{option_or}
use Rattle.off_base.specs.declared.addresses.Ip4.{Ip4}
use Rattle.off_runs.specs.Leases.{ground}
use Rattle.off_lease_rules.specs.Free.{least_free}
use Rattle.off_lease.proofs.ChoiceLemmas.{least_is}
use Rattle.off_lease.proofs.choosing.choice_of_free.Goals as goal

pub returns-in-None : goal.returns-in-None
returns-in-None c = λ t b.
    let now = c.args.runs.now.at in
    let pool = c.args.pool.now in
    least_is t now pool c.least_behind.result (c.least_behind.ensures (ground t) pool b.keeps b.found)
    ∙ ap (λ (o : Option Ip4). option_or o (least_free t now pool)) (sym c.in-None.is ∙ c.only_free.ensures t c.args.relay b)
