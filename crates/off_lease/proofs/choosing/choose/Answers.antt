use Rattle.std.proofs.Common.{◌≡◌, ◌==◌, ℕ, true, cond, Option, option_map, option_and_then, sym, ap, ◌∙◌}
use Rattle.std.specs.List.{find}
use Rattle.off_base.specs.declared.addresses.Ip4.{Ip4}
use Rattle.off_account_rules.specs.Rows.{pools}
use Rattle.off_defs.specs.declared.tables.Pool.{Pool}
use Rattle.off_asking.specs.Asking.{is_discover, at_address, named_address, claimed}
use Rattle.off_lease_rules.specs.Free.{choice}
use Rattle.off_lease.specs.Stages.{IsBehind}
use Rattle.off_asking.proofs.PoolLemmas.{discovered}
use Rattle.off_lease.proofs.choosing.choose.Goals as goal

pub returns-in-Some-clause-is : goal.returns-in-Some-clause-is
returns-in-Some-clause-is c = λ t keeps served.
    let m = c.args.m.now in
    let now = c.args.runs.now.at in
    let case = c.args.case.now in
    let pool = c.in-Some.pool in
    let d : is_discover m ≡ true = sym c.is_discover.ensures ∙ c.if-not-is_discover.false in
    let behind : IsBehind c.args.runs.now.pools c.giaddr.result pool t = record {
      keeps = keeps;
      found = ap (λ (n : ℕ). option_map (λ (e : ℕ × Pool). e.1) (find (λ (e : ℕ × Pool). e.1.relay.0 == n) (pools t))) c.giaddr.ensures
          ∙ discovered m (pools t) pool d (sym c.in-Some.is ∙ served d);
    } in
    c.choice.ensures t behind
    ∙ ap (λ (asked : Option Ip4). choice t now pool case.held asked) (c.at_address.ensures ∙ ap at_address c.address.ensures)
    ∙ ap (option_and_then (λ (p : Pool). choice t now p case.held (at_address (named_address m)))) (sym c.in-Some.is)
    ∙ ap (λ b. cond b (option_and_then (λ (p : Pool). choice t now p case.held (at_address (named_address m))) case.pool) (claimed m)) (sym d)
