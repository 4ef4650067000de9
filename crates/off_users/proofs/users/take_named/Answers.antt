use Rattle.std.proofs.Common.{cond, ap, arith, Option}
use Rattle.std.proofs.lemmas.Map.Entries.{sum_by_values_permutation, sum_by-remove_entry}
use Rattle.off_users.specs.declared.named.Named.{Named}
use Rattle.off_base.specs.Macs.{is_same_mac}
use Rattle.off_users.specs.Users.{weighs}
use Rattle.off_users.proofs.users.take_named.Goals as goal

pub returns-clause-counts : goal.returns-clause-counts
returns-clause-counts c = λ p.
    let weight = λ (x : Named). cond (p x) 1 0 in
    let same = sum_by_values_permutation weight _ _ c.remove.ensures.entries in
    let gone = sum_by-remove_entry weight (is_same_mac c.args.modem) c.args.modems.now.entries in
    let is = ap (λ (o : Option Named). weighs p o) c.remove.ensures.value in
    omega (arith, same, gone, is)
