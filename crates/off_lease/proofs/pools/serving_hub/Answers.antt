use Rattle.std.proofs.Common.{◌==◌, ℕ, option_map, sym, ap, ◌∙◌}
use Rattle.std.specs.List.{find}
use Rattle.off_defs.specs.declared.tables.Pool.{Pool}
use Rattle.off_account_rules.specs.Rows.{pools, pool_hub_in}
use Rattle.off_runs.specs.Runs.{in_pool}
use Rattle.off_runs.specs.Leases.{ground}
use Rattle.off_asking.proofs.PoolLemmas.{relay_pool, renewed_pool, no_pool, not_zero, zero_too}
use Rattle.off_lease.proofs.pools.serving_hub.Goals as goal

pub returns-then-relay-ne0 : goal.returns-then-relay-ne0
returns-then-relay-ne0 c = λ t keeps.
    c.hub_behind.ensures (ground t) keeps
    ∙ ap (λ (n : ℕ). option_map (λ (e : ℕ × Pool). pool_hub_in t e.0) (find (λ (e : ℕ × Pool). e.1.relay.0 == n) (pools t))) c.giaddr-relay.ensures
    ∙ ap (option_map (λ (e : ℕ × Pool). pool_hub_in t e.0)) (sym (relay_pool c.args.m.now (pools t) (not_zero c.giaddr-relay.result.0 c.args.m.now.giaddr c.giaddr-relay.ensures c.if-relay-ne0.true)))

pub returns-then-is_renewal : goal.returns-then-is_renewal
returns-then-is_renewal c = λ t keeps.
    c.hub_around.ensures (ground t) keeps
    ∙ ap (λ (n : ℕ). option_map (λ (e : ℕ × Pool). pool_hub_in t e.0) (find (λ (e : ℕ × Pool). in_pool e.1 n) (pools t))) c.ciaddr.ensures
    ∙ ap (option_map (λ (e : ℕ × Pool). pool_hub_in t e.0)) (sym (renewed_pool c.args.m.now (pools t) (zero_too c.giaddr-relay.result.0 c.args.m.now.giaddr c.giaddr-relay.ensures c.if-relay-ne0.false) (sym c.if-is_renewal.ensures)))

pub returns : goal.returns
returns c = λ t keeps.
    ap (option_map (λ (e : ℕ × Pool). pool_hub_in t e.0)) (sym (no_pool c.args.m.now (pools t) (zero_too c.giaddr-relay.result.0 c.args.m.now.giaddr c.giaddr-relay.ensures c.if-relay-ne0.false) (sym c.if-is_renewal.ensures)))
