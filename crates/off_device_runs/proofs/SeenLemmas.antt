-- The pools for devices of the tables are a map by number, and it's the one that is read.
use Rattle.std.proofs.Common.{◌≡◌, ℕ, ◌<◌, true, false, cond, T, Option, Some, None, option_and_then, refl, sym, ap, ◌∙◌, arith}
use Rattle.std.proofs.lemmas.Cmp.{nat_cmp_total}
use Rattle.std.specs.List.{list_any}
use Rattle.std.specs.FinMap as map
use Rattle.std.specs.FinMap.{nat_cmp-IsAntisymmetric}
use Rattle.std.specs.FinMap.Entries as list
use Rattle.std.specs.Ordering.{nat_cmp}
use Rattle.off_defs.specs.declared.keys.Key.{Key}
use Rattle.off_defs.specs.declared.keys.Key.TheVariants as key
use Rattle.off_defs.specs.declared.tables.Row.{Row}
use Rattle.off_defs.specs.declared.tables.Row.TheVariants as row
use Rattle.off_defs.specs.declared.tables.Pool.{Pool}
use Rattle.off_defs.specs.declared.tables.DeviceLease.{DeviceLease}
use Rattle.off_defs.specs.Keys.{key_cmp}
use Rattle.off_defs.specs.State.{Tables}
use Rattle.off_defs.specs.Tables.{row_at, write_all}
use Rattle.off_account_rules.specs.Good.{Opens}
use Rattle.off_account_rules.specs.Rows.{as_pool, pool_fits, fitting_pool, device_pool_of, device_pools, device_pool_in, device_in}
use Rattle.off_table_laws.proofs.ListLemmas.{made_in, in_made, in_any}
use Rattle.off_table_laws.proofs.EntryRows.{row_in, in_row, found_in, in_found}
use Rattle.off_table_laws.proofs.Judging.{good_rows}
use Rattle.off_table_laws.proofs.Reading.{device_pool_row, row_device_pool, device_row}
use Rattle.off_runs.specs.Runs.{address, in_pool}
use Rattle.off_runs.proofs.SeenLemmas.{number_or, pool_or}
use Rattle.off_device_runs.specs.Ground.{expiry_of, DevicesMove}
use Rattle.off_defs.proofs.ListingLemmas.{listed_sorted}
use Rattle.off_device_runs.proofs.WriteLemmas.{read_pool, pools_written, expiries_written, no_hubs}

-- a pool's entry has its number
number_of : (k : Key) (held : Row) (n : ℕ) (pool : Pool) → device_pool_of (k, held) ≡ Some (n, pool) → k ≡ key.DevicePool n
number_of (key.DevicePool m) (row.Pool p) n pool e =
    elim (pool_fits p) as (λ b. fitting_pool b m p ≡ Some (n, pool) → key.DevicePool m ≡ key.DevicePool n) [
      | true ↦ λ f. let same : m ≡ n = ap (number_or m) f in ap key.DevicePool same
      | false ↦ λ f. cc
    ] e
number_of k held n pool e = cc

pub pools_sorted : (t : Tables) → T (list.is_sorted nat_cmp (device_pools t))
pools_sorted t = listed_sorted key_cmp device_pool_of key.DevicePool (λ e n pool is. number_of e.0 e.1 n pool is) (map.entries t) (map.entries_sorted t)

read_fits : (n : ℕ) (pool : Pool) → read_pool n (Some (row.Pool pool)) ≡ Some pool → pool_fits pool ≡ true
read_fits n pool e = elim (pool_fits pool) as (λ b. option_and_then as_pool (cond b (Some (row.Pool pool)) None) ≡ Some pool → b ≡ true) [ true ↦ λ f. refl | false ↦ λ f. cc ] e

made_reads : (k : Key) (held : Row) (n : ℕ) (pool : Pool) → device_pool_of (k, held) ≡ Some (n, pool) → read_pool n (Some held) ≡ Some pool
made_reads (key.DevicePool m) (row.Pool p) n pool e =
    elim (pool_fits p) as (λ b. fitting_pool b m p ≡ Some (n, pool) → option_and_then as_pool (cond b (Some (row.Pool p)) None) ≡ Some pool) [
      | true ↦ λ f. let same : p ≡ pool = ap (pool_or p) f in ap Some same
      | false ↦ λ f. cc
    ] e
made_reads k held n pool e = cc

pub pool_seen : (t : Tables) (n : ℕ) → list.find nat_cmp n (device_pools t) ≡ device_pool_in t n
pool_seen t n = go (device_pool_in t n) refl (list.find nat_cmp n (device_pools t)) refl
  where
    go : (o : Option Pool) → device_pool_in t n ≡ o → (f : Option Pool) → list.find nat_cmp n (device_pools t) ≡ f → f ≡ o
    go (Some pool) is f e =
        let r = device_pool_row t n pool is in
        let fits : pool_fits pool ≡ true = read_fits n pool (ap (read_pool n) (sym r) ∙ is) in
        let made : device_pool_of (key.DevicePool n, row.Pool pool) ≡ Some (n, pool) = ap (λ b. fitting_pool b n pool) fits in
        let inside = in_made device_pool_of (map.entries t) (key.DevicePool n, row.Pool pool) (n, pool) (row_in t (key.DevicePool n) (row.Pool pool) r) made in
        sym e ∙ in_found nat_cmp nat_cmp_total (device_pools t) (pools_sorted t) n pool inside
    go None is None e = refl
    go None is (Some pool) e =
        let m = made_in device_pool_of (map.entries t) (n, pool) (found_in nat_cmp nat_cmp-IsAntisymmetric (device_pools t) n pool e) in
        let there : row_at t (key.DevicePool n) ≡ Some (m.0).1 = ap (row_at t) (sym (number_of (m.0).0 (m.0).1 n pool m.2)) ∙ in_row t (m.0).0 (m.0).1 m.1 in
        let read : device_pool_in t n ≡ Some pool = ap (read_pool n) there ∙ made_reads (m.0).0 (m.0).1 n pool m.2 in
        cc

-- in tables that open a lease that has an expiry lies in a pool
lies_around : (t : Tables) (a : ℕ) → Opens t → (o : Option DeviceLease) → device_in t (address a) ≡ o → 0 < expiry_of o → list_any (λ e. in_pool e.1 a) (device_pools t) ≡ true
lies_around t a opens None is h = absurd (omega (arith, h))
lies_around t a opens (Some lease) is h =
    let g = good_rows t opens in
    let one = g.devices.one_pool (address a) lease (device_row t (address a) lease is) in
    let inside =
    found_in nat_cmp nat_cmp-IsAntisymmetric (device_pools t) one.number one.pool (pool_seen t one.number ∙ row_device_pool t g.possible one.number one.pool one.there) in
    in_any (λ e. in_pool e.1 a) (device_pools t) (one.number, one.pool) inside one.within

pub moves : DevicesMove
moves t opens writes = record {
  before_sorted = pools_sorted t;
  before = pool_seen t;
  around = λ a h. lies_around t a opens (device_in t (address a)) refl h;
  homed = λ n h. absurd (omega (arith, h));
  after_sorted = pools_sorted (write_all t writes);
  after = λ n. pool_seen (write_all t writes) n ∙ sym (pools_written t writes n);
  expiries = expiries_written t writes;
  hubs = λ n. ap (λ (h : ℕ → ℕ). h n) (no_hubs (λ m. 0) writes);
}
