-- Good rows stay good where a row is put that is possible and whose own line holds, but for pools: those are in `PoolLemmas`.
use Rattle.std.proofs.Common.{◌≡◌, ℕ, true, false, cond, ◌&&◌, ◌||◌, eqb, Some, None, is_some, refl, subst}
use Rattle.std.specs.Ordering.{eq_by_cmp}
use Rattle.off_defs.specs.Keys.{key_cmp}
use Rattle.off_base.specs.Tree.{Tree}
use Rattle.std.proofs.Common.{List}
use Rattle.off_base.specs.declared.addresses.Ip4.{Ip4}
use Rattle.off_base.specs.declared.macs.Mac.{Mac}
use Rattle.off_defs.specs.declared.keys.Key.TheVariants as key
use Rattle.off_defs.specs.declared.tables.Row.TheVariants as row
use Rattle.off_defs.specs.declared.tables.Site.{Site}
use Rattle.off_defs.specs.declared.tables.Subscriber.{Subscriber}
use Rattle.off_defs.specs.declared.tables.Modem.{Modem}
use Rattle.off_defs.specs.declared.tables.Class.{Class}
use Rattle.off_defs.specs.declared.tables.Batch.{Batch}
use Rattle.off_defs.specs.declared.tables.DeviceLease.{DeviceLease}
use Rattle.off_account_rules.specs.Rows.{is_possible}
use Rattle.off_table_laws.proofs.Rows.{Rows, put_row}
use Rattle.off_table_laws.proofs.GoodRows.{Has, OnePoolOf, OwnedOnce, hub_there, hub_at, GoodRows}
use Rattle.off_table_laws.proofs.RowChanges.{put_case, has_put, possible_put}

module _ (rows : Rows) (g : GoodRows rows) where
  hub_put : (n : ℕ) (site : Site) (h : ℕ) → hub_there rows h ≡ true → hub_there (put_row rows (key.Hub n) (row.Site site)) h ≡ true
  hub_put n site h there =
      elim (eq_by_cmp key_cmp (key.Hub h) (key.Hub n)) as (λ b. is_some (cond b (Some (row.Site site)) (rows (key.Hub h))) || (eqb h 0 && is_some (rows key.Site)) ≡ true) [
        | true ↦ refl
        | false ↦ there
      ]

  pub put_hub : (n : ℕ) (site : Site) → is_possible (key.Hub n) (row.Site site) ≡ true → rows key.Site ≡ None → GoodRows (put_row rows (key.Hub n) (row.Site site))
  put_hub n site fits none = record {
    possible = possible_put rows (key.Hub n) (row.Site site) g.possible fits;
    add_on = g.add_on;
    subscriber = g.subscriber;
    class = g.class;
    apart = g.apart;
    site_alone = λ held e m. let f : rows key.Site ≡ Some held = e in cc;
    pool_hub = λ m hub e. let p = g.pool_hub m hub e in (p.0, hub_put n site hub p.1);
    lease_hub = λ address lease e m pool f w. hub_put n site (hub_at rows m) (g.lease_hub address lease e m pool f w);
    one_pool = g.one_pool;
    holder = g.holder;
    owner = g.owner;
    devices = g.devices;
  }

  pub put_subscriber : (n : ℕ) (subscriber : Subscriber) → is_possible (key.Subscriber n) (row.Subscriber subscriber) ≡ true
      → GoodRows (put_row rows (key.Subscriber n) (row.Subscriber subscriber))
  put_subscriber n subscriber fits =
      let more = has_put rows (key.Subscriber n) (row.Subscriber subscriber) in
      record {
        possible = possible_put rows (key.Subscriber n) (row.Subscriber subscriber) g.possible fits;
        add_on = λ m k held e. more (key.Subscriber m) (g.add_on m k held e);
        subscriber = λ mac modem e. more (key.Subscriber modem.subscriber) (g.subscriber mac modem e);
        class = g.class;
        apart = g.apart;
        site_alone = g.site_alone;
        pool_hub = g.pool_hub;
        lease_hub = g.lease_hub;
        one_pool = g.one_pool;
        holder = g.holder;
        owner = g.owner;
        devices = g.devices;
      }

  pub put_add_on : (n k : ℕ) (settings : List Tree) → is_possible (key.AddOn n k) (row.AddOn settings) ≡ true → Has rows (key.Subscriber n)
      → GoodRows (put_row rows (key.AddOn n k) (row.AddOn settings))
  put_add_on n k settings fits there = record {
    possible = possible_put rows (key.AddOn n k) (row.AddOn settings) g.possible fits;
    add_on = λ m j held e. put_case rows (key.AddOn n k) (row.AddOn settings) (key.AddOn m j) held (Has rows (key.Subscriber m)) e
        (λ is same. subst (λ x. Has rows (key.Subscriber x)) (let e : n ≡ m = cc in e) there) (g.add_on m j held);
    subscriber = g.subscriber;
    class = g.class;
    apart = g.apart;
    site_alone = g.site_alone;
    pool_hub = g.pool_hub;
    lease_hub = g.lease_hub;
    one_pool = g.one_pool;
    holder = g.holder;
    owner = g.owner;
    devices = g.devices;
  }

  pub put_modem : (mac : Mac) (modem : Modem) → Has rows (key.Subscriber modem.subscriber) → Has rows (key.Class modem.class)
      → GoodRows (put_row rows (key.Modem mac) (row.Modem modem))
  put_modem mac modem owner class = record {
    possible = possible_put rows (key.Modem mac) (row.Modem modem) g.possible refl;
    add_on = g.add_on;
    subscriber = λ other held e. put_case rows (key.Modem mac) (row.Modem modem) (key.Modem other) (row.Modem held) (Has rows (key.Subscriber held.subscriber)) e
        (λ is same. subst (λ (m : Modem). Has rows (key.Subscriber m.subscriber)) (let e : modem ≡ held = cc in e) owner) (g.subscriber other held);
    class = λ other held e. put_case rows (key.Modem mac) (row.Modem modem) (key.Modem other) (row.Modem held) (Has rows (key.Class held.class)) e
        (λ is same. subst (λ (m : Modem). Has rows (key.Class m.class)) (let e : modem ≡ held = cc in e) class) (g.class other held);
    apart = g.apart;
    site_alone = g.site_alone;
    pool_hub = g.pool_hub;
    lease_hub = g.lease_hub;
    one_pool = g.one_pool;
    holder = g.holder;
    owner = g.owner;
    devices = g.devices;
  }

  pub put_class : (n : ℕ) (class : Class) → is_possible (key.Class n) (row.Class class) ≡ true → GoodRows (put_row rows (key.Class n) (row.Class class))
  put_class n class fits = record {
    possible = possible_put rows (key.Class n) (row.Class class) g.possible fits;
    add_on = g.add_on;
    subscriber = g.subscriber;
    class = λ mac modem e. has_put rows (key.Class n) (row.Class class) (key.Class modem.class) (g.class mac modem e);
    apart = g.apart;
    site_alone = g.site_alone;
    pool_hub = g.pool_hub;
    lease_hub = g.lease_hub;
    one_pool = g.one_pool;
    holder = g.holder;
    owner = g.owner;
    devices = g.devices;
  }

  pub put_batch : (n : ℕ) (batch : Batch) → GoodRows (put_row rows (key.Batch n) (row.Batch batch))
  put_batch n batch = record {
    possible = possible_put rows (key.Batch n) (row.Batch batch) g.possible refl;
    add_on = g.add_on;
    subscriber = g.subscriber;
    class = g.class;
    apart = g.apart;
    site_alone = g.site_alone;
    pool_hub = g.pool_hub;
    lease_hub = g.lease_hub;
    one_pool = g.one_pool;
    holder = g.holder;
    owner = g.owner;
    devices = g.devices;
  }

  -- a device's address lies in one pool for devices, and its owner has no other
  pub put_device : (address : Ip4) (lease : DeviceLease) → OnePoolOf key.DevicePool rows address → OwnedOnce (put_row rows (key.Device address) (row.Device lease))
      → GoodRows (put_row rows (key.Device address) (row.Device lease))
  put_device address lease one once = record {
    possible = possible_put rows (key.Device address) (row.Device lease) g.possible refl;
    add_on = g.add_on;
    subscriber = g.subscriber;
    class = g.class;
    apart = g.apart;
    site_alone = g.site_alone;
    pool_hub = g.pool_hub;
    lease_hub = g.lease_hub;
    one_pool = g.one_pool;
    holder = g.holder;
    owner = g.owner;
    devices = record {
      disjoint = g.devices.disjoint;
      apart = g.devices.apart;
      one_pool = λ other left e. put_case rows (key.Device address) (row.Device lease) (key.Device other) (row.Device left) (OnePoolOf key.DevicePool rows other) e
          (λ is same. subst (OnePoolOf key.DevicePool rows) (let e : address ≡ other = cc in e) one)
          (g.devices.one_pool other left);
      one_address = once;
    };
  }
