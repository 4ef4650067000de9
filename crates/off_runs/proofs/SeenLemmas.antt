-- The pools of the tables are a map by number, and it's the one that is read.
use Rattle.std.proofs.Common.{◌≡◌, ℕ, ◌<◌, ◌==◌, true, false, cond, T, Option, Some, None, is_some, option_and_then, refl, sym, ap, ◌∙◌, arith}
use Rattle.std.specs.List.{list_any}
use Rattle.std.specs.FinMap as map
use Rattle.std.specs.FinMap.Entries as list
use Rattle.std.specs.Ordering.{nat_cmp}
use Rattle.off_defs.proofs.ListingLemmas.{listed_sorted}
use Rattle.off_defs.specs.declared.keys.Key.{Key}
use Rattle.off_defs.specs.declared.keys.Key.TheVariants as key
use Rattle.off_defs.specs.declared.tables.Row.{Row}
use Rattle.off_defs.specs.declared.tables.Row.TheVariants as row
use Rattle.off_defs.specs.declared.tables.Pool.{Pool}
use Rattle.off_defs.specs.Keys.{key_cmp}
use Rattle.off_defs.specs.State.{Tables}
use Rattle.off_account_rules.specs.Rows.{is_possible, possible, as_pool, pool_fits, pool_of, pools, pool_in, pool_hub_in, lease_in, fitting_pool}
use Rattle.std.proofs.lemmas.Cmp.{nat_cmp_total}
use Rattle.std.proofs.lemmas.Bool.{eq-eqb}
use Rattle.std.specs.FinMap.{nat_cmp-IsAntisymmetric}
use Rattle.off_defs.specs.declared.tables.Lease.{Lease}
use Rattle.off_defs.specs.Tables.{row_at, write_all}
use Rattle.off_account_rules.specs.Good.{Opens}
use Rattle.off_table_laws.proofs.ListLemmas.{made_in, in_made, in_any}
use Rattle.off_table_laws.proofs.EntryRows.{row_in, in_row, found_in, in_found}
use Rattle.off_table_laws.proofs.Judging.{good_rows}
use Rattle.off_table_laws.proofs.Reading.{pool_row, row_pool, lease_row}
use Rattle.off_runs.specs.Runs.{address, in_pool}
use Rattle.off_runs.specs.Leases.{expiry_of, LeasesMove}
use Rattle.off_runs.proofs.WriteLemmas.{read_hub, pools_written, expiries_written, hubs_written}

abbrev pub number_or : ℕ → Option (ℕ × Pool) → ℕ
number_or d None = d
number_or d (Some e) = e.0

abbrev pub pool_or : Pool → Option (ℕ × Pool) → Pool
pool_or d None = d
pool_or d (Some e) = e.1

-- a pool's entry has its number
number_of : (k : Key) (held : Row) (n : ℕ) (pool : Pool) → pool_of (k, held) ≡ Some (n, pool) → k ≡ key.Pool n
number_of (key.Pool m) (row.Pool p) n pool e =
    elim (pool_fits p) as (λ b. fitting_pool b m p ≡ Some (n, pool) → key.Pool m ≡ key.Pool n) [ true ↦ λ f. let same : m ≡ n = ap (number_or m) f in ap key.Pool same | false ↦ λ f. cc ] e
number_of k held n pool e = cc

pub pools_sorted : (t : Tables) → T (list.is_sorted nat_cmp (pools t))
pools_sorted t = listed_sorted key_cmp pool_of key.Pool (λ e n pool is. number_of e.0 e.1 n pool is) (map.entries t) (map.entries_sorted t)

abbrev read_pool : ℕ → Option Row → Option Pool
read_pool n o = option_and_then as_pool (possible (key.Pool n) o)

read_fits : (n : ℕ) (pool : Pool) → read_pool n (Some (row.Pool pool)) ≡ Some pool → pool_fits pool ≡ true
read_fits n pool e = elim (pool_fits pool) as (λ b. option_and_then as_pool (cond b (Some (row.Pool pool)) None) ≡ Some pool → b ≡ true) [ true ↦ λ f. refl | false ↦ λ f. cc ] e

made_reads : (k : Key) (held : Row) (n : ℕ) (pool : Pool) → pool_of (k, held) ≡ Some (n, pool) → read_pool n (Some held) ≡ Some pool
made_reads (key.Pool m) (row.Pool p) n pool e =
    elim (pool_fits p) as (λ b. fitting_pool b m p ≡ Some (n, pool) → option_and_then as_pool (cond b (Some (row.Pool p)) None) ≡ Some pool) [
      | true ↦ λ f. let same : p ≡ pool = ap (pool_or p) f in ap Some same
      | false ↦ λ f. cc
    ] e
made_reads k held n pool e = cc

pub pool_seen : (t : Tables) (n : ℕ) → list.find nat_cmp n (pools t) ≡ pool_in t n
pool_seen t n = go (pool_in t n) refl (list.find nat_cmp n (pools t)) refl
  where
    go : (o : Option Pool) → pool_in t n ≡ o → (f : Option Pool) → list.find nat_cmp n (pools t) ≡ f → f ≡ o
    go (Some pool) is f e =
        let r = pool_row t n pool is in
        let fits : pool_fits pool ≡ true = read_fits n pool (ap (read_pool n) (sym r) ∙ is) in
        let made : pool_of (key.Pool n, row.Pool pool) ≡ Some (n, pool) = ap (λ b. fitting_pool b n pool) fits in
        let inside = in_made pool_of (map.entries t) (key.Pool n, row.Pool pool) (n, pool) (row_in t (key.Pool n) (row.Pool pool) r) made in
        sym e ∙ in_found nat_cmp nat_cmp_total (pools t) (pools_sorted t) n pool inside
    go None is None e = refl
    go None is (Some pool) e =
        let m = made_in pool_of (map.entries t) (n, pool) (found_in nat_cmp nat_cmp-IsAntisymmetric (pools t) n pool e) in
        let there : row_at t (key.Pool n) ≡ Some (m.0).1 = ap (row_at t) (sym (number_of (m.0).0 (m.0).1 n pool m.2)) ∙ in_row t (m.0).0 (m.0).1 m.1 in
        let read : pool_in t n ≡ Some pool = ap (read_pool n) there ∙ made_reads (m.0).0 (m.0).1 n pool m.2 in
        cc

-- in tables that open a lease that has an expiry lies in a pool
lies_around : (t : Tables) (a : ℕ) → Opens t → (o : Option Lease) → lease_in t (address a) ≡ o → 0 < expiry_of o → list_any (λ e. in_pool e.1 a) (pools t) ≡ true
lies_around t a opens None is h = absurd (omega (arith, h))
lies_around t a opens (Some lease) is h =
    let g = good_rows t opens in
    let one = g.one_pool (address a) lease (lease_row t (address a) lease is) in
    let inside = found_in nat_cmp nat_cmp-IsAntisymmetric (pools t) one.number one.pool (pool_seen t one.number ∙ row_pool t g.possible one.number one.pool one.there) in
    in_any (λ e. in_pool e.1 a) (pools t) (one.number, one.pool) inside one.within

-- and a number that has a hub is a pool's
hub_row : (n : ℕ) (o : Option Row) → 0 < read_hub n o → (hub : ℕ) × (o ≡ Some (row.PoolHub hub))
hub_row n None h = absurd (omega (arith, h))
hub_row n (Some (row.PoolHub hub)) h = (hub, refl)
hub_row n (Some held) h = absurd (omega (arith, h))

pool_there : (n : ℕ) (o : Option Row) → ((held : Row) → o ≡ Some held → is_possible (key.Pool n) held ≡ true) → is_some o ≡ true → (pool : Pool) × (o ≡ Some (row.Pool pool))
pool_there n None possible there = cc
pool_there n (Some (row.Pool pool)) possible there = (pool, refl)
pool_there n (Some held) possible there = let fits = possible held refl in cc

is_homed : (t : Tables) (n : ℕ) → Opens t → 0 < pool_hub_in t n → list_any (λ e. e.0 == n) (pools t) ≡ true
is_homed t n opens h =
    let g = good_rows t opens in
    let hub = hub_row n (row_at t (key.PoolHub n)) h in
    let pool = pool_there n (row_at t (key.Pool n)) (g.possible (key.Pool n)) (g.pool_hub n hub.0 hub.1).0 in
    let inside = found_in nat_cmp nat_cmp-IsAntisymmetric (pools t) n pool.0 (pool_seen t n ∙ row_pool t g.possible n pool.0 pool.1) in
    in_any (λ e. e.0 == n) (pools t) (n, pool.0) inside (eq-eqb n n refl)

pub moves : LeasesMove
moves t opens writes = record {
  before_sorted = pools_sorted t;
  before = pool_seen t;
  around = λ a h. lies_around t a opens (lease_in t (address a)) refl h;
  homed = λ n h. is_homed t n opens h;
  after_sorted = pools_sorted (write_all t writes);
  after = λ n. pool_seen (write_all t writes) n ∙ sym (pools_written t writes n);
  expiries = expiries_written t writes;
  hubs = hubs_written t writes;
}
