-- What writes make of the tables' pools for devices and of the leases of devices, by what is taken for them.
use Rattle.std.proofs.Common.{◌≡◌, ℕ, true, false, cond, List, [], ◌∷◌, Option, Some, None, option_and_then, refl, sym, ap, ◌∙◌}
use Rattle.std.specs.List.{cons_option}
use Rattle.std.specs.Ordering.{nat_cmp, eq_by_cmp}
use Rattle.off_defs.proofs.TableLemmas.{row_with, row_without}
use Rattle.off_defs.specs.declared.keys.Key.TheVariants as key
use Rattle.off_defs.specs.declared.tables.Row.{Row}
use Rattle.off_defs.specs.declared.tables.Row.TheVariants as row
use Rattle.off_defs.specs.declared.tables.Pool.{Pool}
use Rattle.off_defs.specs.declared.writes.Write.{Write}
use Rattle.off_defs.specs.declared.writes.Write.TheVariants.{Put, Drop}
use Rattle.off_defs.specs.State.{Tables}
use Rattle.off_defs.specs.Tables.{row_at, written, write_all}
use Rattle.off_account_rules.specs.Rows.{possible, as_pool, as_device, pool_fits, device_pool_in}
use Rattle.off_runs.specs.Runs.{address}
use Rattle.off_runs.specs.Leases.{fitting, pool_write, lease_write, pools_by, pools_after, numbers_by, expiries_after, hubs_after}
use Rattle.off_runs.proofs.WriteLemmas.{same_number, read_if}
use Rattle.off_device_runs.specs.Ground.{expiry_of, expiry_in, end_held, taken_for, taken_all}

-- ---- pools

abbrev pub read_pool : ℕ → Option Row → Option Pool
read_pool n o = option_and_then as_pool (possible (key.DevicePool n) o)

pub put_pool : (n : ℕ) (held : Row) → read_pool n (Some held) ≡ fitting held
put_pool n (row.Pool pool) = elim (pool_fits pool) as (λ b. option_and_then as_pool (cond b (Some (row.Pool pool)) None) ≡ cond b (Some pool) None) [ true ↦ refl | false ↦ refl ]
put_pool n held = refl

abbrev pools_taken : Option Write → (ℕ → Option Pool) → ℕ → Option Pool
pools_taken None by = by
pools_taken (Some w) by = pools_by (pool_write w) by

pools_then : (o : Option Write) (by : ℕ → Option Pool) (ws : List Write) → pools_after by (cons_option o ws) ≡ pools_after (pools_taken o by) ws
pools_then None by ws = refl
pools_then (Some w) by ws = refl

pool_written : (t : Tables) (w : Write) (n : ℕ) → device_pool_in (written t w) n ≡ pools_taken (taken_for w) (device_pool_in t) n
pool_written t (Put (key.DevicePool m) held) n =
    ap (read_pool n) (row_with t (key.DevicePool m) held (key.DevicePool n))
    ∙ read_if (read_pool n) (eq_by_cmp nat_cmp n m) (Some held) (fitting held) (row_at t (key.DevicePool n)) (put_pool n held)
pool_written t (Drop (key.DevicePool m)) n =
    ap (read_pool n) (row_without t (key.DevicePool m) (key.DevicePool n)) ∙ read_if (read_pool n) (eq_by_cmp nat_cmp n m) None None (row_at t (key.DevicePool n)) refl
pool_written t (Put k held) n = ap (read_pool n) (row_with t k held (key.DevicePool n))
pool_written t (Drop k) n = ap (read_pool n) (row_without t k (key.DevicePool n))

pub pools_written : (t : Tables) (ws : List Write) (n : ℕ) → pools_after (device_pool_in t) (taken_all ws) n ≡ device_pool_in (write_all t ws) n
pools_written t [] n = refl
pools_written t (w ∷ ws) n =
    ap (λ (by : ℕ → Option Pool). by n) (pools_then (taken_for w) (device_pool_in t) (taken_all ws))
    ∙ ap (λ (by : ℕ → Option Pool). pools_after by (taken_all ws) n) (λ i q. sym (pool_written t w q) i)
    ∙ pools_written (written t w) ws n

-- ---- leases

abbrev pub read_expiry : ℕ → Option Row → ℕ
read_expiry a o = expiry_of (option_and_then as_device (possible (key.Device (address a)) o))

pub put_expiry : (a : ℕ) (held : Row) → read_expiry a (Some held) ≡ end_held held
put_expiry a (row.Device lease) = refl
put_expiry a held = refl

abbrev expiries_taken : Option Write → (ℕ → ℕ) → ℕ → ℕ
expiries_taken None was = was
expiries_taken (Some w) was = numbers_by (lease_write w) was

expiries_then : (o : Option Write) (was : ℕ → ℕ) (ws : List Write) → expiries_after was (cons_option o ws) ≡ expiries_after (expiries_taken o was) ws
expiries_then None was ws = refl
expiries_then (Some w) was ws = refl

expiry_written : (t : Tables) (w : Write) (n : ℕ) → expiry_in (written t w) n ≡ expiries_taken (taken_for w) (expiry_in t) n
expiry_written t (Put (key.Device m) held) n =
    ap (read_expiry n) (row_with t (key.Device m) held (key.Device (address n)))
    ∙ read_if (read_expiry n) (eq_by_cmp nat_cmp n m.0) (Some held) (end_held held) (row_at t (key.Device (address n))) (put_expiry n held)
    ∙ ap (λ b. cond b (end_held held) (expiry_in t n)) (same_number n m.0)
expiry_written t (Drop (key.Device m)) n =
    ap (read_expiry n) (row_without t (key.Device m) (key.Device (address n)))
    ∙ read_if (read_expiry n) (eq_by_cmp nat_cmp n m.0) None 0 (row_at t (key.Device (address n))) refl
    ∙ ap (λ b. cond b 0 (expiry_in t n)) (same_number n m.0)
expiry_written t (Put k held) n = ap (read_expiry n) (row_with t k held (key.Device (address n)))
expiry_written t (Drop k) n = ap (read_expiry n) (row_without t k (key.Device (address n)))

pub expiries_written : (t : Tables) (ws : List Write) (n : ℕ) → expiries_after (expiry_in t) (taken_all ws) n ≡ expiry_in (write_all t ws) n
expiries_written t [] n = refl
expiries_written t (w ∷ ws) n =
    ap (λ (e : ℕ → ℕ). e n) (expiries_then (taken_for w) (expiry_in t) (taken_all ws))
    ∙ ap (λ (e : ℕ → ℕ). expiries_after e (taken_all ws) n) (λ i q. sym (expiry_written t w q) i)
    ∙ expiries_written (written t w) ws n

-- ---- hubs: nothing that is taken is of one

no_hub : (w : Write) (was : ℕ → ℕ) (ws : List Write) → hubs_after was (cons_option (taken_for w) ws) ≡ hubs_after was ws
no_hub (Put (key.DevicePool m) held) was ws = refl
no_hub (Drop (key.DevicePool m)) was ws = refl
no_hub (Put k held) was ws = refl
no_hub (Drop k) was ws = refl

pub no_hubs : (was : ℕ → ℕ) (ws : List Write) → hubs_after was (taken_all ws) ≡ was
no_hubs was [] = refl
no_hubs was (w ∷ ws) = no_hub w was (taken_all ws) ∙ no_hubs was ws
