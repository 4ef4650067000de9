use Rattle.std.proofs.Common.{◌∙◌}
use Rattle.off_outside.proofs.KeeperLemmas.{reads_as}
use Rattle.off_accounts.proofs.FoundLemmas.{found_is}
use Rattle.off_accounts.proofs.testing.what_is_found.Goals as goal

pub returns-clause-told : goal.returns-clause-told
returns-clause-told g c = reads_as c.in_ok-found.ensures.told (λ t says. c.found_rule.ensures ∙ found_is c.args.sought.now c.in_ok-found.found t says)
