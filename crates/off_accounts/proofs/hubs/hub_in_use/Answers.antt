use Rattle.std.proofs.Common.{◌∙◌}
use Rattle.off_outside.proofs.KeeperLemmas.{reads_as}
use Rattle.off_accounts.proofs.HubLemmas.{hub_found}
use Rattle.off_accounts.proofs.hubs.hub_in_use.Goals as goal

pub returns-clause-told : goal.returns-clause-told
returns-clause-told g c = reads_as c.in_ok-found.ensures.told (λ t is. c.hub_rule.ensures ∙ hub_found c.args.hub c.in_ok-found.found t is)
