-- What a write makes of the leases of devices, and which of them a list of entries has.
use Rattle.std.proofs.Common.{◌≡◌, ◌≤◌, Bool, true, false, cond, not, Option, Some, None, option_and_then, refl, ap, ◌∙◌, arith}
use Rattle.std.proofs.lemmas.Bool.{false_from_ne_true}
use Rattle.std.specs.Ordering.{eq_by_cmp}
use Rattle.std.specs.List.{count_by}
use Rattle.std.specs.FinMap as map
use Rattle.std.specs.FinMap.Entries as list
use Rattle.off_base.specs.declared.addresses.Ip4.{Ip4}
use Rattle.off_defs.specs.declared.keys.Key.{Key}
use Rattle.off_defs.specs.declared.keys.Key.TheVariants as key
use Rattle.off_defs.specs.declared.tables.Row.{Row}
use Rattle.off_defs.specs.declared.tables.Row.TheVariants as row
use Rattle.off_defs.specs.declared.tables.DeviceLease.{DeviceLease}
use Rattle.off_defs.specs.Keys.{key_cmp}
use Rattle.off_defs.specs.State.{Tables}
use Rattle.off_defs.specs.Tables.{row_at, with_row, without}
use Rattle.off_defs.proofs.KeyLemmas.{key_exact}
use Rattle.off_defs.proofs.TableLemmas.{same_key, own_key, row_with, row_without, entries_with, entries_without}
use Rattle.off_account_rules.specs.Rows.{passes, possible, as_device, device_in, device_of, devices}
use Rattle.off_table_laws.proofs.ListLemmas.{In, Distinct}
use Rattle.off_table_laws.proofs.Judging.{row_listed, listed_row, distinct_listed, raw_device_made}
use Rattle.off_table_laws.proofs.Reading.{device_row, row_device}
use Rattle.off_cpe_laws.proofs.CountLemmas.{count_made, count_put, count_kept}

abbrev pub device_read : Ip4 → Option Row → Option DeviceLease
device_read address o = option_and_then as_device (possible (key.Device address) o)

-- the test of addresses
abbrev pub is_ip : Ip4 → Ip4 → Bool
is_ip address other = eq_by_cmp key_cmp (key.Device other) (key.Device address)

pub same_ip : (address other : Ip4) → is_ip address other ≡ true → other ≡ address
same_ip address other e = let k = same_key (key.Device other) (key.Device address) e in cc

pub own_ip : (address : Ip4) → is_ip address address ≡ true
own_ip address = own_key (key.Device address)

pub other_ip : (address other : Ip4) → (other ≡ address → ⊥) → is_ip address other ≡ false
other_ip address other apart = false_from_ne_true (is_ip address other) (λ e. apart (same_ip address other e))

pub device_with : (t : Tables) (address : Ip4) (lease : DeviceLease) (other : Ip4)
    → device_in (with_row t (key.Device address) (row.Device lease)) other ≡ cond (is_ip address other) (Some lease) (device_in t other)
device_with t address lease other =
    ap (device_read other) (row_with t (key.Device address) (row.Device lease) (key.Device other))
    ∙ elim (is_ip address other) as (λ b. device_read other (cond b (Some (row.Device lease)) (row_at t (key.Device other))) ≡ cond b (Some lease) (device_in t other)) [
      | true ↦ refl
      | false ↦ refl
    ]

pub device_without : (t : Tables) (address other : Ip4) → device_in (without t (key.Device address)) other ≡ cond (is_ip address other) None (device_in t other)
device_without t address other =
    ap (device_read other) (row_without t (key.Device address) (key.Device other))
    ∙ elim (is_ip address other) as (λ b. device_read other (cond b None (row_at t (key.Device other))) ≡ cond b None (device_in t other)) [
      | true ↦ refl
      | false ↦ refl
    ]

-- leases of the list are those that are read
pub device_listed : (t : Tables) (address : Ip4) (lease : DeviceLease) → device_in t address ≡ Some lease → In (address, lease) (devices t)
device_listed t address lease e = row_listed device_of key.Device row.Device (λ a l. refl) raw_device_made t address lease (device_row t address lease e)

pub listed_device : (t : Tables) (address : Ip4) (lease : DeviceLease) → In (address, lease) (devices t) → device_in t address ≡ Some lease
listed_device t address lease i = row_device t address lease (listed_row device_of key.Device row.Device (λ a l. refl) raw_device_made t address lease i)

pub distinct_devices : (t : Tables) → Distinct (devices t)
distinct_devices t = distinct_listed device_of key.Device row.Device (λ a l. refl) raw_device_made t

-- a lease that doesn't count is put, or one is dropped: no more count
module _ (p : Ip4 × DeviceLease → Bool) where
  abbrev counts : Key × Row → Bool
  counts e = passes p (device_of e)

  counted : (t : Tables) → count_by p (devices t) ≡ count_by counts (map.entries t)
  counted t = count_made device_of p (map.entries t)

  pub count_with : (t : Tables) (address : Ip4) (lease : DeviceLease) → p (address, lease) ≡ false
      → count_by p (devices (with_row t (key.Device address) (row.Device lease))) ≤ count_by p (devices t)
  count_with t address lease never =
      let u = with_row t (key.Device address) (row.Device lease) in
      let put = count_put key_cmp counts (key.Device address) (row.Device lease) never key_exact (map.entries t) in
      let after : count_by p (devices u) ≡ count_by counts (map.entries u) = counted u in
      let entries : count_by counts (map.entries u) ≡ count_by counts (list.put key_cmp (key.Device address) (row.Device lease) (map.entries t)) = ap (count_by counts) (entries_with t (key.Device address) (row.Device lease)) in
      omega (arith, put, after, entries, counted t)

  pub count_without : (t : Tables) (address : Ip4) → count_by p (devices (without t (key.Device address))) ≤ count_by p (devices t)
  count_without t address =
      let u = without t (key.Device address) in
      let kept = count_kept counts (λ (e : Key × Row). not (eq_by_cmp key_cmp (key.Device address) e.0)) (map.entries t) in
      let after : count_by p (devices u) ≡ count_by counts (map.entries u) = counted u in
      let entries = ap (count_by counts) (entries_without t (key.Device address)) in
      omega (arith, kept, after, entries, counted t)
