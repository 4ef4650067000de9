-- Good rows stay good where a pool for devices is put or removed, and the leases that lose their pool by it are dropped.
use Rattle.std.proofs.Common.{◌≡◌, ℕ, Bool, true, false, cond, Option, Some, None, option_map, List, [], ◌∷◌, map, refl, sym, ap, ◌∙◌}
use Rattle.std.proofs.lemmas.Bool.{false_from_ne_true}
use Rattle.std.specs.List.{list_any}
use Rattle.std.specs.Ordering.{eq_by_cmp}
use Rattle.off_base.specs.declared.addresses.Ip4.{Ip4}
use Rattle.off_defs.specs.declared.keys.Key.{Key}
use Rattle.off_defs.specs.declared.keys.Key.TheVariants as key
use Rattle.off_defs.specs.declared.tables.Row.{Row}
use Rattle.off_defs.specs.declared.tables.Row.TheVariants as row
use Rattle.off_defs.specs.declared.tables.Pool.{Pool}
use Rattle.off_defs.specs.declared.tables.DeviceLease.{DeviceLease}
use Rattle.off_defs.specs.Keys.{key_cmp}
use Rattle.off_defs.specs.State.{Tables}
use Rattle.off_defs.specs.Tables.{row_at}
use Rattle.off_defs.proofs.TableLemmas.{same_key, own_key}
use Rattle.off_account_rules.specs.Rows.{is_possible, overlaps, pool_fits, devices, device_pool_in}
use Rattle.off_account_rules.specs.Changes.{gives_up}
use Rattle.off_orders.specs.Clerk.{lost_devices, device_drop}
use Rattle.off_table_laws.proofs.ListLemmas.{in_any, any_none, kept_in, in_kept}
use Rattle.off_table_laws.proofs.Rows.{Rows, drop_row, rows_after}
use Rattle.off_table_laws.proofs.GoodRows.{GoodRows}
use Rattle.off_table_laws.proofs.Judging.{device_in_raw}
use Rattle.off_table_laws.proofs.PoolLemmas.{set_row, kept, set_case, pool_mapped, pool_same, turned, IsApartOf, IsClearOf, apart_set, one_pool_set, device_pool_numbered}
use Rattle.off_order_laws.proofs.LostLeases.{or_none, none_either}

-- the rows where a pool for devices is put, or removed, and the rows without the leases of lost addresses
abbrev pub set_device_pool : Rows → ℕ → Option Pool → Rows
set_device_pool rows n new = set_row rows (key.DevicePool n) (option_map row.Pool new)

abbrev pub without_devices : (Ip4 → Bool) → Rows → Rows
without_devices lost rows (key.Device address) = cond (lost address) None (rows (key.Device address))
without_devices lost rows q = rows q

left_lost : (lost : Ip4 → Bool) (rows : Rows) (q : Key) (held : Row) → without_devices lost rows q ≡ Some held → rows q ≡ Some held
left_lost lost rows (key.Device address) held e = (kept (lost address) (rows (key.Device address)) held e).0
left_lost lost rows q held e = e

module _ (rows : Rows) (g : GoodRows rows) (n : ℕ) (old new : Option Pool) where
  pub device_pool_changed : ((pool : Pool) → rows (key.DevicePool n) ≡ Some (row.Pool pool) → old ≡ Some pool)
      → ((pool : Pool) → new ≡ Some pool → pool_fits pool ≡ true)
      → ((pool : Pool) → new ≡ Some pool → IsApartOf key.DevicePool rows n pool)
      → ((pool : Pool) → new ≡ Some pool → IsClearOf key.Pool rows pool)
      → GoodRows (without_devices (gives_up old new) (set_device_pool rows n new))
  device_pool_changed was fits apart clear =
      let lost : Ip4 → Bool = gives_up old new in
      record {
        possible = λ q held e.
            set_case rows (key.DevicePool n) (option_map row.Pool new) q held (is_possible q held ≡ true) (left_lost lost (set_device_pool rows n new) q held e)
            (λ is f. let p = pool_mapped new held f in ap (λ k. is_possible k held) is ∙ ap (is_possible (key.DevicePool n)) (sym p.2) ∙ fits p.0 p.1)
            (λ _ f. g.possible q held f);
        add_on = g.add_on;
        subscriber = g.subscriber;
        class = g.class;
        apart = g.apart;
        site_alone = g.site_alone;
        pool_hub = g.pool_hub;
        lease_hub = g.lease_hub;
        one_pool = g.one_pool;
        holder = g.holder;
        owner = g.owner;
        devices = record {
          disjoint = λ k pool m other e f. set_case rows (key.DevicePool n) (option_map row.Pool new) (key.DevicePool m) (row.Pool other) (overlaps pool other ≡ false) f
              (λ is h. turned other pool (clear other (pool_same new other h) k pool e))
              (λ _ h. g.devices.disjoint k pool m other e h);
          apart = apart_set key.DevicePool device_pool_numbered rows n new apart g.devices.apart;
          one_pool = λ address lease e.
              let k = kept (lost address) (rows (key.Device address)) (row.Device lease) e in
              one_pool_set key.DevicePool device_pool_numbered rows n new old was apart address k.1 (g.devices.one_pool address lease k.0);
          one_address = λ one other lease left owner e f own also.
              g.devices.one_address one other lease left owner (kept (lost one) (rows (key.Device one)) (row.Device lease) e).0 (kept (lost other) (rows (key.Device other)) (row.Device left) f).0 own also;
        };
      }

-- what the drops of leases leave of a key
is_of : Ip4 → Ip4 × DeviceLease → Bool
is_of address entry = eq_by_cmp key_cmp (key.Device address) (key.Device entry.0)

unfoldable pub is_no_device : Key → Bool
is_no_device (key.Device address) = false
is_no_device q = true

pub drop_aside : (rows : Rows) (address : Ip4) (q : Key) → is_no_device q ≡ true → drop_row rows (key.Device address) q ≡ rows q
unfolding is_no_device
drop_aside rows address (key.Device other) h = cc
drop_aside rows address q h = refl

pub drops_aside : (rows : Rows) (es : List (Ip4 × DeviceLease)) (q : Key) → is_no_device q ≡ true → rows_after rows (map device_drop es) q ≡ rows q
drops_aside rows [] q h = refl
drops_aside rows (e ∷ es) q h = drops_aside (drop_row rows (key.Device e.0)) es q h ∙ drop_aside rows e.0 q h

drops_device : (rows : Rows) (es : List (Ip4 × DeviceLease)) (address : Ip4)
    → rows_after rows (map device_drop es) (key.Device address) ≡ cond (list_any (is_of address) es) None (rows (key.Device address))
unfolding is_of
drops_device rows [] address = refl
drops_device rows (e ∷ es) address =
    drops_device (drop_row rows (key.Device e.0)) es address ∙ or_none (is_of address e) (list_any (is_of address) es) (rows (key.Device address))

is_of_same : (address : Ip4) (entry : Ip4 × DeviceLease) → is_of address entry ≡ true → address ≡ entry.0
unfolding is_of
is_of_same address entry e = let k = same_key (key.Device address) (key.Device entry.0) e in cc

is_of_own : (address : Ip4) (lease : DeviceLease) → is_of address (address, lease) ≡ true
unfolding is_of
is_of_own address lease = own_key (key.Device address)

module _ (t : Tables) (g : GoodRows (row_at t)) (n : ℕ) (new : Option Pool) where
  abbrev is_lost : Ip4 × DeviceLease → Bool
  is_lost entry = gives_up (device_pool_in t n) new entry.0

  lost_device : (address : Ip4) (lease : DeviceLease) → row_at t (key.Device address) ≡ Some (row.Device lease)
      → list_any (is_of address) (lost_devices t n new) ≡ gives_up (device_pool_in t n) new address
  lost_device address lease there =
      elim (gives_up (device_pool_in t n) new address) as (λ b. gives_up (device_pool_in t n) new address ≡ b → list_any (is_of address) (lost_devices t n new) ≡ b) [
        | true ↦ λ h. in_any (is_of address) (lost_devices t n new) (address, lease) (in_kept is_lost (devices t) (address, lease) (device_in_raw t address lease there) h) (is_of_own address lease)
        | false ↦ λ h. any_none (is_of address) (lost_devices t n new) (λ x i. false_from_ne_true (is_of address x) (λ is.
            let l = (kept_in is_lost (devices t) x i).1 in
            let m : gives_up (device_pool_in t n) new address ≡ true = ap (gives_up (device_pool_in t n) new) (is_of_same address x is) ∙ l in
            cc))
      ] refl

  device_left : (address : Ip4) (o : Option Row) → row_at t (key.Device address) ≡ o
      → cond (list_any (is_of address) (lost_devices t n new)) None o ≡ cond (gives_up (device_pool_in t n) new address) None o
  device_left address None e = none_either (list_any (is_of address) (lost_devices t n new)) ∙ sym (none_either (gives_up (device_pool_in t n) new address))
  device_left address (Some (row.Device lease)) e = ap (λ b. cond b None (Some (row.Device lease))) (lost_device address lease e)
  device_left address (Some held) e = let p = g.possible (key.Device address) held e in cc

  each_left : (q : Key) → rows_after (set_device_pool (row_at t) n new) (map device_drop (lost_devices t n new)) q
      ≡ without_devices (gives_up (device_pool_in t n) new) (set_device_pool (row_at t) n new) q
  unfolding is_no_device
  each_left (key.Device address) = drops_device (set_device_pool (row_at t) n new) (lost_devices t n new) address ∙ device_left address (row_at t (key.Device address)) refl
  each_left q = drops_aside (set_device_pool (row_at t) n new) (lost_devices t n new) q refl

  pub devices_left : rows_after (set_device_pool (row_at t) n new) (map device_drop (lost_devices t n new)) ≡ without_devices (gives_up (device_pool_in t n) new) (set_device_pool (row_at t) n new)
  devices_left = λ i q. each_left q i
