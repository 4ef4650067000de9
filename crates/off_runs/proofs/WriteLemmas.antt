-- What writes make of the tables' pools, leases and hubs.
use Rattle.std.proofs.Common.{◌≡◌, ℕ, ◌==◌, Bool, true, false, cond, not, List, [], ◌∷◌, Option, Some, None, option_and_then, refl, sym, ap, ◌∙◌, arith}
use Rattle.std.proofs.lemmas.Bool.Decides.{nat_tests}
use Rattle.std.proofs.lemmas.Cmp.{nat_cmp_total}
use Rattle.std.specs.Cmp.{tied_itself}
use Rattle.std.specs.FinMap.{nat_cmp-IsAntisymmetric}
use Rattle.std.specs.Ordering.{nat_cmp, is_eq, eq_by_cmp}
use Rattle.off_defs.proofs.EntryLemmas.{is_equal}
use Rattle.off_defs.proofs.TableLemmas.{row_with, row_without}
use Rattle.off_defs.specs.declared.keys.Key.TheVariants as key
use Rattle.off_defs.specs.declared.tables.Row.{Row}
use Rattle.off_defs.specs.declared.tables.Row.TheVariants as row
use Rattle.off_defs.specs.declared.tables.Pool.{Pool}
use Rattle.off_defs.specs.declared.writes.Write.{Write}
use Rattle.off_defs.specs.declared.writes.Write.TheVariants.{Put, Drop}
use Rattle.off_defs.specs.State.{Tables}
use Rattle.off_defs.specs.Tables.{row_at, written, write_all}
use Rattle.off_account_rules.specs.Rows.{possible, as_pool, as_lease, as_pool_hub, number_or_0, pool_fits, pool_in, pool_hub_in}
use Rattle.off_runs.specs.Runs.{address}
use Rattle.off_runs.specs.Leases.{expiry_of, expiry_in, expiry_held, hub_held, fitting, pool_write, lease_write, hub_write, pools_by, pools_after, numbers_by, expiries_after, hubs_after}

-- two numbers are equal by their order as by the test
-- what is read of one row or another
pub read_if : {V : Type 0} (read : Option Row → V) (b : Bool) (o : Option Row) (v : V) (was : Option Row) → read o ≡ v → read (cond b o was) ≡ cond b v (read was)
read_if read true o v was is = is
read_if read false o v was is = refl

pub same_number : (a b : ℕ) → eq_by_cmp nat_cmp a b ≡ (a == b)
same_number a b =
    elim (eq_by_cmp nat_cmp a b) as (λ t. eq_by_cmp nat_cmp a b ≡ t → t ≡ (a == b)) [
      | true ↦ λ e. let same : a ≡ b = nat_cmp-IsAntisymmetric a b (is_equal (nat_cmp a b) e) in grind (arith, nat_tests)
      | false ↦ λ e. apart (a == b) refl e
    ] refl
  where
    apart : (t : Bool) → (a == b) ≡ t → eq_by_cmp nat_cmp a b ≡ false → false ≡ t
    apart true e f =
        let same : a ≡ b = grind (arith, nat_tests) in
        let tied : eq_by_cmp nat_cmp a b ≡ true = ap (λ x. eq_by_cmp nat_cmp a x) (sym same) ∙ ap is_eq (tied_itself nat_cmp_total a) in
        cc
    apart false e f = refl

-- ---- pools

abbrev pub read_pool : ℕ → Option Row → Option Pool
read_pool n o = option_and_then as_pool (possible (key.Pool n) o)

pub put_pool : (n : ℕ) (held : Row) → read_pool n (Some held) ≡ fitting held
put_pool n (row.Pool pool) = elim (pool_fits pool) as (λ b. option_and_then as_pool (cond b (Some (row.Pool pool)) None) ≡ cond b (Some pool) None) [ true ↦ refl | false ↦ refl ]
put_pool n held = refl

pub pool_written : (t : Tables) (w : Write) (n : ℕ) → pool_in (written t w) n ≡ pools_by (pool_write w) (pool_in t) n
pool_written t (Put (key.Pool m) held) n =
    ap (read_pool n) (row_with t (key.Pool m) held (key.Pool n)) ∙ read_if (read_pool n) (eq_by_cmp nat_cmp n m) (Some held) (fitting held) (row_at t (key.Pool n)) (put_pool n held)
pool_written t (Drop (key.Pool m)) n =
    ap (read_pool n) (row_without t (key.Pool m) (key.Pool n)) ∙ read_if (read_pool n) (eq_by_cmp nat_cmp n m) None None (row_at t (key.Pool n)) refl
pool_written t (Put k held) n = ap (read_pool n) (row_with t k held (key.Pool n))
pool_written t (Drop k) n = ap (read_pool n) (row_without t k (key.Pool n))

pub pools_written : (t : Tables) (ws : List Write) (n : ℕ) → pools_after (pool_in t) ws n ≡ pool_in (write_all t ws) n
pools_written t [] n = refl
pools_written t (w ∷ ws) n = ap (λ (by : ℕ → Option Pool). pools_after by ws n) (λ i q. sym (pool_written t w q) i) ∙ pools_written (written t w) ws n

-- ---- leases

abbrev pub read_expiry : ℕ → Option Row → ℕ
read_expiry a o = expiry_of (option_and_then as_lease (possible (key.Lease (address a)) o))

pub put_expiry : (a : ℕ) (held : Row) → read_expiry a (Some held) ≡ expiry_held held
put_expiry a (row.Lease lease) = refl
put_expiry a held = refl

pub expiry_written : (t : Tables) (w : Write) (n : ℕ) → expiry_in (written t w) n ≡ numbers_by (lease_write w) (expiry_in t) n
expiry_written t (Put (key.Lease m) held) n =
    ap (read_expiry n) (row_with t (key.Lease m) held (key.Lease (address n)))
    ∙ read_if (read_expiry n) (eq_by_cmp nat_cmp n m.0) (Some held) (expiry_held held) (row_at t (key.Lease (address n))) (put_expiry n held)
    ∙ ap (λ b. cond b (expiry_held held) (expiry_in t n)) (same_number n m.0)
expiry_written t (Drop (key.Lease m)) n =
    ap (read_expiry n) (row_without t (key.Lease m) (key.Lease (address n)))
    ∙ read_if (read_expiry n) (eq_by_cmp nat_cmp n m.0) None 0 (row_at t (key.Lease (address n))) refl
    ∙ ap (λ b. cond b 0 (expiry_in t n)) (same_number n m.0)
expiry_written t (Put k held) n = ap (read_expiry n) (row_with t k held (key.Lease (address n)))
expiry_written t (Drop k) n = ap (read_expiry n) (row_without t k (key.Lease (address n)))

pub expiries_written : (t : Tables) (ws : List Write) (n : ℕ) → expiries_after (expiry_in t) ws n ≡ expiry_in (write_all t ws) n
expiries_written t [] n = refl
expiries_written t (w ∷ ws) n = ap (λ (e : ℕ → ℕ). expiries_after e ws n) (λ i q. sym (expiry_written t w q) i) ∙ expiries_written (written t w) ws n

-- ---- hubs

abbrev pub read_hub : ℕ → Option Row → ℕ
read_hub n o = number_or_0 (option_and_then as_pool_hub (possible (key.PoolHub n) o))

-- the hub 0 isn't named, and none is the hub 0
named_hub : (hub : ℕ) (b : Bool) → (hub == 0) ≡ b → number_or_0 (option_and_then as_pool_hub (cond (not b) (Some (row.PoolHub hub)) None)) ≡ hub
named_hub hub true e = grind (arith, nat_tests)
named_hub hub false e = refl

pub put_hub : (n : ℕ) (held : Row) → read_hub n (Some held) ≡ hub_held held
put_hub n (row.PoolHub hub) = named_hub hub (hub == 0) refl
put_hub n held = refl

pub hub_written : (t : Tables) (w : Write) (n : ℕ) → pool_hub_in (written t w) n ≡ numbers_by (hub_write w) (pool_hub_in t) n
hub_written t (Put (key.PoolHub m) held) n =
    ap (read_hub n) (row_with t (key.PoolHub m) held (key.PoolHub n))
    ∙ read_if (read_hub n) (eq_by_cmp nat_cmp n m) (Some held) (hub_held held) (row_at t (key.PoolHub n)) (put_hub n held)
    ∙ ap (λ b. cond b (hub_held held) (pool_hub_in t n)) (same_number n m)
hub_written t (Drop (key.PoolHub m)) n =
    ap (read_hub n) (row_without t (key.PoolHub m) (key.PoolHub n))
    ∙ read_if (read_hub n) (eq_by_cmp nat_cmp n m) None 0 (row_at t (key.PoolHub n)) refl
    ∙ ap (λ b. cond b 0 (pool_hub_in t n)) (same_number n m)
hub_written t (Put k held) n = ap (read_hub n) (row_with t k held (key.PoolHub n))
hub_written t (Drop k) n = ap (read_hub n) (row_without t k (key.PoolHub n))

pub hubs_written : (t : Tables) (ws : List Write) (n : ℕ) → hubs_after (pool_hub_in t) ws n ≡ pool_hub_in (write_all t ws) n
hubs_written t [] n = refl
hubs_written t (w ∷ ws) n = ap (λ (h : ℕ → ℕ). hubs_after h ws n) (λ i q. sym (hub_written t w q) i) ∙ hubs_written (written t w) ws n
