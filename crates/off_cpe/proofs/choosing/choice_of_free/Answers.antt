use Rattle.std.proofs.Common.{Option, sym, ap, ◌∙◌}
use Rattle.std.specs.Option.{option_or}
use Rattle.off_base.specs.declared.addresses.Ip4.{Ip4}
use Rattle.off_asking.specs.Choice.{least_of}
use Rattle.off_cpe_rules.specs.Behind.{is_free}
use Rattle.off_device_runs.specs.Ground.{device_ground}
use Rattle.off_cpe.proofs.ChoiceLemmas.{least_is}
use Rattle.off_cpe.proofs.choosing.choice_of_free.Goals as goal

pub returns-in-None : goal.returns-in-None
returns-in-None c = λ t b.
    let now = c.args.pools.now.at in
    let pool = c.args.pool.now in
    least_is t now pool c.least_behind.result (c.least_behind.ensures (device_ground t) pool b.keeps b.found)
    ∙ ap (λ (o : Option Ip4). option_or o (least_of (is_free t now pool) pool)) (sym c.in-None.is ∙ c.only_free.ensures t c.args.relay b)
