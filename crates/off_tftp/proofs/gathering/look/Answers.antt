use Rattle.std.proofs.Common.{◌≡◌, option_and_then}
use Rattle.off_account_rules.specs.Rows.{hub_in, lease_in}
use Rattle.off_outside.proofs.KeeperLemmas.{reads_then}
use Rattle.off_tftp.proofs.ReadLemmas.{look_is}
use Rattle.off_tftp.proofs.gathering.look.Goals as goal

pub returns-clause-told : goal.returns-clause-told
returns-clause-told g c =
    reads_then
    (reads_then {R = λ t. (c.in_ok-site.site ≡ option_and_then (hub_in t) c.args.hub) × (c.in_ok-lease.lease ≡ lease_in t c.args.ip)} c.in_ok-site.ensures.told c.in_ok-lease.ensures.told (λ t s l. (s, l)))
    c.in_ok-modem.ensures.told
    (λ t both m. look_is t c.args.hub c.args.ip c.in_ok-site.site c.in_ok-lease.lease c.owner_by.result _ both.0 both.1 c.owner_by.ensures m)
