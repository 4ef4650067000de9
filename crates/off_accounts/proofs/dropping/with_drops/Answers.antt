use Rattle.off_outside.proofs.KeeperLemmas.{reads_none}
use Rattle.off_accounts.proofs.DropLemmas.{nothing_lost}
use Rattle.off_accounts.proofs.dropping.with_drops.Goals as goal

pub returns-in_default-clause-told : goal.returns-in_default-clause-told
returns-in_default-clause-told g c = reads_none (λ t. nothing_lost c.args.whose c.args.old c.args.new c.args.first t c.in_default.is)
