-- Codes of what is kept, by which a proof tells two such values apart. Nothing here says what the
-- office does.
use Rattle.std.specs.Prelude.{ℕ, List, refl}
use Rattle.std.specs.Coded.{Coded, code_by, coded×, coded_ℕ, coded_list}
use Rattle.off_defs.specs.declared.tables.Pool.{Pool}
use Rattle.off_runs.specs.Held.{PoolHeld, RunsHeld}

abbrev pool_code : Coded Pool
pool_code =
    code_by ((ℕ × ℕ) × (ℕ × (ℕ × ℕ)))
    (coded× (coded× coded_ℕ coded_ℕ) (coded× coded_ℕ (coded× coded_ℕ coded_ℕ)))
    (λ pool. ((pool.first.0, pool.last.0), (pool.prefix, (pool.router.0, pool.relay.0))))
    (λ p. record {
      first = record { 0 = p.0.0 };
      last = record { 0 = p.0.1 };
      prefix = p.1.0;
      router = record { 0 = p.1.1.0 };
      relay = record { 0 = p.1.1.1 };
    })
    (λ _. refl)

abbrev pub pool_held_code : Coded PoolHeld
pool_held_code =
    code_by ((ℕ × Pool) × (ℕ × List ℕ))
    (coded× (coded× coded_ℕ pool_code) (coded× coded_ℕ (coded_list coded_ℕ)))
    (λ p. ((p.number, p.pool), (p.hub, p.expiries)))
    (λ p. record { number = p.0.0; pool = p.0.1; hub = p.1.0; expiries = p.1.1 }) (λ _. refl)

abbrev pub runs_code : Coded RunsHeld
runs_code =
    code_by (ℕ × (List PoolHeld × ℕ)) (coded× coded_ℕ (coded× (coded_list pool_held_code) coded_ℕ))
    (λ h. (h.at, (h.pools, h.spare))) (λ p. record { at = p.0; pools = p.1.0; spare = p.1.1 })
    (λ _. refl)
