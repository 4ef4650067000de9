use Rattle.std.proofs.Common.{◌==◌, ℕ, option_map, sym, ap, ◌∙◌}
use Rattle.std.specs.List.{find}
use Rattle.off_defs.specs.declared.tables.Pool.{Pool}
use Rattle.off_account_rules.specs.Rows.{pools}
use Rattle.off_runs.specs.Runs.{in_pool}
use Rattle.off_runs.specs.Leases.{ground}
use Rattle.off_asking.proofs.PoolLemmas.{relay_pool, renewed_pool, no_pool, not_zero, zero_too}
use Rattle.off_lease.proofs.pools.pool_for.Goals as goal

pub returns-then-relay-ne0-clause-is : goal.returns-then-relay-ne0-clause-is
returns-then-relay-ne0-clause-is c = λ t keeps.
    c.pool_behind.ensures.is (ground t) keeps
    ∙ ap (λ (n : ℕ). option_map (λ (e : ℕ × Pool). e.1) (find (λ (e : ℕ × Pool). e.1.relay.0 == n) (pools t))) c.giaddr-relay.ensures
    ∙ ap (option_map (λ (e : ℕ × Pool). e.1)) (sym (relay_pool c.args.m.now (pools t) (not_zero c.giaddr-relay.result.0 c.args.m.now.giaddr c.giaddr-relay.ensures c.if-relay-ne0.true)))

pub returns-then-is_renewal-clause-is : goal.returns-then-is_renewal-clause-is
returns-then-is_renewal-clause-is c = λ t keeps.
    c.pool_around.ensures.is (ground t) keeps
    ∙ ap (λ (n : ℕ). option_map (λ (e : ℕ × Pool). e.1) (find (λ (e : ℕ × Pool). in_pool e.1 n) (pools t))) c.ciaddr.ensures
    ∙ ap (option_map (λ (e : ℕ × Pool). e.1)) (sym (renewed_pool c.args.m.now (pools t) (zero_too c.giaddr-relay.result.0 c.args.m.now.giaddr c.giaddr-relay.ensures c.if-relay-ne0.false) (sym c.if-is_renewal.ensures)))

pub returns-clause-is : goal.returns-clause-is
returns-clause-is c = λ t keeps.
    ap (option_map (λ (e : ℕ × Pool). e.1)) (sym (no_pool c.args.m.now (pools t) (zero_too c.giaddr-relay.result.0 c.args.m.now.giaddr c.giaddr-relay.ensures c.if-relay-ne0.false) (sym c.if-is_renewal.ensures)))
