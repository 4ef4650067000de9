-- Rows as whoever reads them takes them: they stand in the tables, and in good tables each row is taken.
use Rattle.std.proofs.Common.{◌≡◌, ℕ, true, false, cond, Option, Some, None, is_some, is_none, option_and_then, refl, ap, ◌∙◌}
use Rattle.std.specs.FinMap as map
use Rattle.off_base.specs.declared.addresses.Ip4.{Ip4}
use Rattle.off_base.specs.declared.macs.Mac.{Mac}
use Rattle.off_defs.specs.declared.keys.Key.{Key}
use Rattle.off_defs.specs.declared.keys.Key.TheVariants as key
use Rattle.off_defs.specs.declared.tables.Row.{Row}
use Rattle.off_defs.specs.declared.tables.Row.TheVariants as row
use Rattle.off_defs.specs.declared.tables.Modem.{Modem}
use Rattle.off_defs.specs.declared.tables.Pool.{Pool}
use Rattle.off_defs.specs.declared.tables.Lease.{Lease}
use Rattle.off_defs.specs.declared.tables.DeviceLease.{DeviceLease}
use Rattle.off_defs.specs.State.{Tables}
use Rattle.off_defs.specs.Tables.{row_at}
use Rattle.off_account_rules.specs.Rows.{is_possible, possible, seen_at, as_modem, as_pool, as_lease, as_held, as_device, modem_in, pool_in, lease_in, held_in, device_in, device_pool_in, fitting_pool, pool_of, pools, device_pool_of, device_pools, modem_of, modems}
use Rattle.off_account_rules.specs.Good.{raw_pool_of, raw_pools, raw_device_pool_of, raw_device_pools}
use Rattle.off_table_laws.proofs.ListLemmas.{In, in_made, made_same}
use Rattle.off_table_laws.proofs.EntryRows.{row_in, in_row}
use Rattle.off_table_laws.proofs.GoodRows.{Has, Possible}

-- in good tables a row is taken as it stands
taken : (q : Key) (o : Option Row) → ((held : Row) → o ≡ Some held → is_possible q held ≡ true) → possible q o ≡ o
taken q None h = refl
taken q (Some held) h = ap (λ b. cond b (Some held) None) (h held refl)

pub seen_row : (t : Tables) → Possible (row_at t) → (q : Key) → seen_at t q ≡ row_at t q
seen_row t p q = taken q (row_at t q) (p q)

-- what is read stands there
read_modem : (mac : Mac) (o : Option Row) (modem : Modem) → option_and_then as_modem (possible (key.Modem mac) o) ≡ Some modem → o ≡ Some (row.Modem modem)
read_modem mac (Some (row.Modem other)) modem e = ap (λ (m : Modem). Some (row.Modem m)) (let f : other ≡ modem = cc in f)
read_modem mac o modem e = cc

read_lease : (address : Ip4) (o : Option Row) (lease : Lease) → option_and_then as_lease (possible (key.Lease address) o) ≡ Some lease → o ≡ Some (row.Lease lease)
read_lease address (Some (row.Lease other)) lease e = ap (λ (l : Lease). Some (row.Lease l)) (let f : other ≡ lease = cc in f)
read_lease address o lease e = cc

read_held : (mac : Mac) (o : Option Row) (address : Ip4) → option_and_then as_held (possible (key.Held mac) o) ≡ Some address → o ≡ Some (row.Held address)
read_held mac (Some (row.Held other)) address e = ap (λ (a : Ip4). Some (row.Held a)) (let f : other ≡ address = cc in f)
read_held mac o address e = cc

read_pool : (q : Key) (o : Option Row) (pool : Pool) → option_and_then as_pool (possible q o) ≡ Some pool → o ≡ Some (row.Pool pool)
read_pool q (Some (row.Pool other)) pool e =
    elim (is_possible q (row.Pool other)) as (λ b. option_and_then as_pool (cond b (Some (row.Pool other)) None) ≡ Some pool → Some (row.Pool other) ≡ Some (row.Pool pool)) [
      | true ↦ λ f. ap (λ (p : Pool). Some (row.Pool p)) (let g : other ≡ pool = cc in g)
      | false ↦ λ f. cc
    ] e
read_pool q (Some held) pool e =
    elim (is_possible q held) as (λ b. option_and_then as_pool (cond b (Some held) None) ≡ Some pool → Some held ≡ Some (row.Pool pool)) [ true ↦ λ f. cc | false ↦ λ f. cc ] e
read_pool q None pool e = cc

pub modem_row : (t : Tables) (mac : Mac) (modem : Modem) → modem_in t mac ≡ Some modem → row_at t (key.Modem mac) ≡ Some (row.Modem modem)
modem_row t mac modem e = read_modem mac (row_at t (key.Modem mac)) modem e

pub lease_row : (t : Tables) (address : Ip4) (lease : Lease) → lease_in t address ≡ Some lease → row_at t (key.Lease address) ≡ Some (row.Lease lease)
lease_row t address lease e = read_lease address (row_at t (key.Lease address)) lease e

pub held_row : (t : Tables) (mac : Mac) (address : Ip4) → held_in t mac ≡ Some address → row_at t (key.Held mac) ≡ Some (row.Held address)
held_row t mac address e = read_held mac (row_at t (key.Held mac)) address e

pub pool_row : (t : Tables) (n : ℕ) (pool : Pool) → pool_in t n ≡ Some pool → row_at t (key.Pool n) ≡ Some (row.Pool pool)
pool_row t n pool e = read_pool (key.Pool n) (row_at t (key.Pool n)) pool e

pub device_pool_row : (t : Tables) (n : ℕ) (pool : Pool) → device_pool_in t n ≡ Some pool → row_at t (key.DevicePool n) ≡ Some (row.Pool pool)
device_pool_row t n pool e = read_pool (key.DevicePool n) (row_at t (key.DevicePool n)) pool e

read_device : (address : Ip4) (o : Option Row) (lease : DeviceLease) → option_and_then as_device (possible (key.Device address) o) ≡ Some lease → o ≡ Some (row.Device lease)
read_device address (Some (row.Device other)) lease e = ap (λ (l : DeviceLease). Some (row.Device l)) (let f : other ≡ lease = cc in f)
read_device address o lease e = cc

pub device_row : (t : Tables) (address : Ip4) (lease : DeviceLease) → device_in t address ≡ Some lease → row_at t (key.Device address) ≡ Some (row.Device lease)
device_row t address lease e = read_device address (row_at t (key.Device address)) lease e

-- what is read of a key that has a row stands on that row
there : (q : Key) {A : Type 0} (f : Row → Option A) (o : Option Row) → is_none (option_and_then f (possible q o)) ≡ false → is_some o ≡ true
there q f None h = cc
there q f (Some held) h = refl

pub has_read : (t : Tables) (q : Key) {A : Type 0} (f : Row → Option A) → is_none (option_and_then f (seen_at t q)) ≡ false → Has (row_at t) q
has_read t q f h = there q f (row_at t q) h

-- in good tables what stands there is read
pub row_lease : (t : Tables) (address : Ip4) (lease : Lease) → row_at t (key.Lease address) ≡ Some (row.Lease lease) → lease_in t address ≡ Some lease
row_lease t address lease e = ap (λ o. option_and_then as_lease (possible (key.Lease address) o)) e

pub row_held : (t : Tables) (mac : Mac) (address : Ip4) → row_at t (key.Held mac) ≡ Some (row.Held address) → held_in t mac ≡ Some address
row_held t mac address e = ap (λ o. option_and_then as_held (possible (key.Held mac) o)) e

pub row_pool : (t : Tables) → Possible (row_at t) → (n : ℕ) (pool : Pool) → row_at t (key.Pool n) ≡ Some (row.Pool pool) → pool_in t n ≡ Some pool
row_pool t p n pool e = ap (option_and_then as_pool) (seen_row t p (key.Pool n) ∙ e)

pub row_device : (t : Tables) (address : Ip4) (lease : DeviceLease) → row_at t (key.Device address) ≡ Some (row.Device lease) → device_in t address ≡ Some lease
row_device t address lease e = ap (λ o. option_and_then as_device (possible (key.Device address) o)) e

pub row_device_pool : (t : Tables) → Possible (row_at t) → (n : ℕ) (pool : Pool) → row_at t (key.DevicePool n) ≡ Some (row.Pool pool) → device_pool_in t n ≡ Some pool
row_device_pool t p n pool e = ap (option_and_then as_pool) (seen_row t p (key.DevicePool n) ∙ e)

-- and the pools that are read are all
pool_taken : (q : Key) (held : Row) → is_possible q held ≡ true → pool_of (q, held) ≡ raw_pool_of (q, held)
pool_taken (key.Pool n) (row.Pool pool) h = ap (λ b. fitting_pool b n pool) h
pool_taken q held h = refl

pub pools_raw : (t : Tables) → Possible (row_at t) → pools t ≡ raw_pools t
pools_raw t p = made_same pool_of raw_pool_of (map.entries t) (λ e i. pool_taken e.0 e.1 (p e.0 e.1 (in_row t e.0 e.1 i)))

device_pool_taken : (q : Key) (held : Row) → is_possible q held ≡ true → device_pool_of (q, held) ≡ raw_device_pool_of (q, held)
device_pool_taken (key.DevicePool n) (row.Pool pool) h = ap (λ b. fitting_pool b n pool) h
device_pool_taken q held h = refl

pub device_pools_raw : (t : Tables) → Possible (row_at t) → device_pools t ≡ raw_device_pools t
device_pools_raw t p = made_same device_pool_of raw_device_pool_of (map.entries t) (λ e i. device_pool_taken e.0 e.1 (p e.0 e.1 (in_row t e.0 e.1 i)))

pub modem_in_all : (t : Tables) (mac : Mac) (modem : Modem) → row_at t (key.Modem mac) ≡ Some (row.Modem modem) → In (mac, modem) (modems t)
modem_in_all t mac modem e = in_made modem_of (map.entries t) (key.Modem mac, row.Modem modem) (mac, modem) (row_in t (key.Modem mac) (row.Modem modem) e) refl
