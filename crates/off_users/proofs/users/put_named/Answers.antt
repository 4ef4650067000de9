use Rattle.std.proofs.Common.{cond}
use Rattle.std.proofs.lemmas.Map.Entries.{sum_by_puts_entry}
use Rattle.off_users.specs.declared.named.Named.{Named}
use Rattle.off_base.specs.Macs.{is_same_mac}
use Rattle.off_users.proofs.users.put_named.Goals as goal

pub returns-clause-counts : goal.returns-clause-counts
returns-clause-counts c = λ p. sum_by_puts_entry (λ (x : Named). cond (p x) 1 0) is_same_mac c.args.modems.now c.insert.new.self c.args.modem c.args.named c.in-Ok.before c.in-Ok.ensures.old c.in-Ok.ensures.entries
