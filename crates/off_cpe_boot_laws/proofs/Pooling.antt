-- The pool for devices that is found for a message is the one of its relay, or of the address that it renews: good tables have no other.
use Rattle.std.proofs.Common.{◌≡◌, ℕ, true, false, cond, not, ◌&&◌, eqb, List, Option, Some, None, option_map, inl, inr, refl, sym, ap, subst, ◌∙◌}
use Rattle.std.proofs.lemmas.Bool.{or_cases, and_parts, not-true, eqb-true, eq-eqb}
use Rattle.std.specs.List.{find}
use Rattle.off_defs.specs.declared.tables.Pool.{Pool}
use Rattle.off_defs.specs.State.{Tables}
use Rattle.off_dhcp.specs.Datagram.{Received}
use Rattle.off_account_rules.specs.Rows.{device_pools, device_pool_in, has_address, overlaps}
use Rattle.off_account_rules.specs.Good.{Good}
use Rattle.off_table_laws.proofs.GoodRows.{GoodRows}
use Rattle.off_table_laws.proofs.Judging.{good_rows, device_pool_in_raw, raw_in_device_pool}
use Rattle.off_table_laws.proofs.ListLemmas.{In, none_found, found_passes}
use Rattle.off_table_laws.proofs.PoolLemmas.{share}
use Rattle.off_table_laws.proofs.Reading.{device_pool_row, row_device_pool, device_pools_raw}
use Rattle.off_defs.specs.Tables.{row_at}
use Rattle.off_asking.specs.Asking.{ip}
use Rattle.off_asking.specs.Choice.{is_renewal, serves, numbered_among, pool_among}
use Rattle.off_boot_laws.specs.Known.{IsPoolOf}
use Rattle.off_boot_laws.proofs.Pooling.{served_by}

module _ (t : Tables) (good : Good t) (m : Received) (n : ℕ) (pool : Pool) (there : device_pool_in t n ≡ Some pool) (serving : serves m pool ≡ true) where
  g : GoodRows (row_at t)
  g = good_rows t good.opens

  listed : In (n, pool) (device_pools t)
  listed = subst (In (n, pool)) (sym (device_pools_raw t g.possible)) (device_pool_in_raw t n pool (device_pool_row t n pool there))

  -- two that serve one message have a relay or an address in common
  one_number : (k : ℕ) (other : Pool) → device_pool_in t k ≡ Some other → serves m other ≡ true → n ≡ k
  one_number k other is other_serves =
      elim (or_cases (eqb k n) (not (overlaps pool other) && not (eqb other.relay.0 pool.relay.0)) (g.devices.apart n pool k other (device_pool_row t n pool there) (device_pool_row t k other is))) as (λ c. n ≡ k) [
        | inl same ↦ sym (eqb-true k n same)
        | inr apart ↦
            let parts = and_parts (not (overlaps pool other)) (not (eqb other.relay.0 pool.relay.0)) apart in
            elim (eqb m.giaddr 0) as (λ b. cond b (is_renewal m && has_address pool (ip m.ciaddr)) (eqb pool.relay.0 m.giaddr) ≡ true
            → cond b (is_renewal m && has_address other (ip m.ciaddr)) (eqb other.relay.0 m.giaddr) ≡ true → n ≡ k) [
              | true ↦ λ p q.
                  let isnt = not-true (overlaps pool other) parts.0 in
                  let is = share pool other (ip m.ciaddr) (and_parts (is_renewal m) (has_address pool (ip m.ciaddr)) p).1 (and_parts (is_renewal m) (has_address other (ip m.ciaddr)) q).1 in
                  cc
              | false ↦ λ p q.
                  let differ = not-true (eqb other.relay.0 pool.relay.0) parts.1 in
                  let same = eq-eqb other.relay.0 pool.relay.0 (eqb-true other.relay.0 m.giaddr q ∙ sym (eqb-true pool.relay.0 m.giaddr p)) in
                  cc
            ] serving other_serves
      ]

  same_pool : (k : ℕ) (other : Pool) → device_pool_in t k ≡ Some other → n ≡ k → other ≡ pool
  same_pool k other is same =
      let both : Some other ≡ Some pool = sym is ∙ ap (λ i. device_pool_in t i) (sym same) ∙ there in
      let e : other ≡ pool = cc in
      e

  pool_by : (o : Option (ℕ × Pool)) → find (λ (entry : ℕ × Pool). serves m entry.1) (device_pools t) ≡ o → option_map (λ (entry : ℕ × Pool). entry.1) o ≡ Some pool
  pool_by None e =
      let none = none_found (λ (entry : ℕ × Pool). serves m entry.1) (device_pools t) e (n, pool) listed in
      let f : true ≡ false = sym serving ∙ none in
      cc
  pool_by (Some entry) e =
      let is = found_passes (λ (entry : ℕ × Pool). serves m entry.1) (device_pools t) entry e in
      let raw = raw_in_device_pool t entry.0 entry.1 (subst (λ (pools : List (ℕ × Pool)). In entry pools) (device_pools_raw t g.possible) is.0) in
      let read = row_device_pool t g.possible entry.0 entry.1 raw in
      ap Some (same_pool entry.0 entry.1 read (one_number entry.0 entry.1 read is.1))

  found_pool : pool_among (device_pools t) m ≡ Some pool
  found_pool = pool_by (numbered_among (device_pools t) m) refl

pub pool_is_found : (t : Tables) (m : Received) (n : ℕ) (pool : Pool) → Good t → device_pool_in t n ≡ Some pool → IsPoolOf m pool → pool_among (device_pools t) m ≡ Some pool
pool_is_found t m n pool good there is = found_pool t good m n pool there (served_by m pool is)
