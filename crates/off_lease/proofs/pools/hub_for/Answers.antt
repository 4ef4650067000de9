use Rattle.std.proofs.Common.{ℕ, cond, option_map, option_and_then, ap, ◌∙◌}
use Rattle.off_defs.specs.declared.tables.Pool.{Pool}
use Rattle.off_account_rules.specs.Rows.{pool_hub_in, hub_of}
use Rattle.off_runs.specs.Leases.{ground}
use Rattle.off_asking.specs.Asking.{claimed}
use Rattle.off_lease_rules.specs.Free.{numbered_pool_for}
use Rattle.off_lease.proofs.pools.hub_for.Goals as goal

pub returns-in-Some : goal.returns-in-Some
returns-in-Some c = λ t keeps.
    let m = c.args.m.now in
    c.hub_around.ensures (ground t) keeps
    ∙ ap (option_and_then (hub_of t)) c.in-Some.ensures
    ∙ ap (λ b. cond b (option_map (λ (e : ℕ × Pool). pool_hub_in t e.0) (numbered_pool_for t m)) (option_and_then (hub_of t) (claimed m))) c.if-asks.ensures
