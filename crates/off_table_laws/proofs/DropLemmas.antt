-- Good rows stay good where rows are removed on which no other stands, but for pools: those are in `PoolLemmas`.
use Rattle.std.proofs.Common.{◌≡◌, ℕ, zero, suc, ◌≤◌, true, Some, ◌∷◌, map, false, cond, ◌&&◌, ◌||◌, eqb, Option, None, is_some, leb, inl, inr, refl, sym, ap, subst, ◌∙◌, arith}
use Rattle.std.specs.Ordering.{eq_by_cmp}
use Rattle.off_defs.specs.declared.keys.Key.{Key}
use Rattle.off_defs.specs.declared.tables.Pool.{Pool}
use Rattle.off_defs.specs.Keys.{key_cmp}
use Rattle.off_defs.proofs.TableLemmas.{same_key}
use Rattle.std.proofs.lemmas.Bool.{leb-true, and_parts}
use Rattle.off_base.specs.declared.addresses.Ip4.{Ip4}
use Rattle.off_base.specs.declared.macs.Mac.{Mac}
use Rattle.off_defs.specs.declared.keys.Key.TheVariants as key
use Rattle.off_defs.specs.declared.tables.Row.{Row}
use Rattle.off_defs.specs.declared.tables.Row.TheVariants as row
use Rattle.off_defs.specs.declared.tables.Modem.{Modem}
use Rattle.off_defs.specs.declared.writes.Write.TheVariants.{Drop}
use Rattle.off_account_rules.specs.Rows.{is_possible, add_on_is_good}
use Rattle.off_account_rules.specs.Changes.{add_on_keys}
use Rattle.off_table_laws.proofs.ListLemmas.{In}
use Rattle.off_table_laws.proofs.Rows.{Rows, drop_row, rows_after}
use Rattle.off_table_laws.proofs.GoodRows.{hub_there, hub_in_row, hub_at, GoodRows}
use Rattle.off_table_laws.proofs.RowChanges.{left_drop, has_drop, possible_drop, left_drops, dropped}

-- an add-on that is possible has one of the keys of its subscriber's add-ons
eight : (n k : ℕ) → k ≤ 7 → In (key.AddOn n k) (add_on_keys n)
eight n zero h = inl refl
eight n (suc zero) h = inr (inl refl)
eight n (suc (suc zero)) h = inr (inr (inl refl))
eight n (suc (suc (suc zero))) h = inr (inr (inr (inl refl)))
eight n (suc (suc (suc (suc zero)))) h = inr (inr (inr (inr (inl refl))))
eight n (suc (suc (suc (suc (suc zero))))) h = inr (inr (inr (inr (inr (inl refl)))))
eight n (suc (suc (suc (suc (suc (suc zero)))))) h = inr (inr (inr (inr (inr (inr (inl refl))))))
eight n (suc (suc (suc (suc (suc (suc (suc zero))))))) h = inr (inr (inr (inr (inr (inr (inr (inl refl)))))))
eight n (suc (suc (suc (suc (suc (suc (suc (suc k)))))))) h = absurd (omega arith)

add_on_number : (n k : ℕ) (held : Row) → is_possible (key.AddOn n k) held ≡ true → k ≤ 7
add_on_number n k (row.AddOn settings) h = leb-true k 7 (and_parts (leb k 7) (add_on_is_good settings) h).0
add_on_number n k held h = cc

none_left : (rows : Rows) (k q : Key) → rows q ≡ None → drop_row rows k q ≡ None
none_left rows k q e = elim (eq_by_cmp key_cmp q k) as (λ b. ◌≡◌ {A = Option Row} (cond b None (rows q)) None) [ true ↦ refl | false ↦ e ]

-- a pool that has a row has one of a pool
pool_row_of : (n : ℕ) (o : Option Row) → is_some o ≡ true → ((held : Row) → o ≡ Some held → is_possible (key.Pool n) held ≡ true) → (pool : Pool) × (o ≡ Some (row.Pool pool))
pool_row_of n None there fits = cc
pool_row_of n (Some (row.Pool pool)) there fits = (pool, refl)
pool_row_of n (Some held) there fits = let f = fits held refl in cc

has_pool : (rows : Rows) → GoodRows rows → (n : ℕ) → is_some (rows (key.Pool n)) ≡ true → (pool : Pool) × (rows (key.Pool n) ≡ Some (row.Pool pool))
has_pool rows g n there = pool_row_of n (rows (key.Pool n)) there (g.possible (key.Pool n))

module _ (rows : Rows) (g : GoodRows rows) where
  pub drop_add_on : (n k : ℕ) → GoodRows (drop_row rows (key.AddOn n k))
  drop_add_on n k = record {
    possible = possible_drop rows (key.AddOn n k) g.possible;
    add_on = λ m j held e. g.add_on m j held (left_drop rows (key.AddOn n k) (key.AddOn m j) held e);
    subscriber = g.subscriber;
    class = g.class;
    apart = g.apart;
    site_alone = g.site_alone;
    pool_hub = g.pool_hub;
    lease_hub = g.lease_hub;
    one_pool = g.one_pool;
    holder = g.holder;
    owner = g.owner;
    devices = g.devices;
  }

  pub drop_modem : (mac : Mac) → GoodRows (drop_row rows (key.Modem mac))
  drop_modem mac = record {
    possible = possible_drop rows (key.Modem mac) g.possible;
    add_on = g.add_on;
    subscriber = λ other held e. g.subscriber other held (left_drop rows (key.Modem mac) (key.Modem other) (row.Modem held) e);
    class = λ other held e. g.class other held (left_drop rows (key.Modem mac) (key.Modem other) (row.Modem held) e);
    apart = g.apart;
    site_alone = g.site_alone;
    pool_hub = g.pool_hub;
    lease_hub = g.lease_hub;
    one_pool = g.one_pool;
    holder = g.holder;
    owner = g.owner;
    devices = g.devices;
  }

  pub drop_class : (n : ℕ) → ((mac : Mac) (modem : Modem) → rows (key.Modem mac) ≡ Some (row.Modem modem) → modem.class ≡ n → ⊥)
      → GoodRows (drop_row rows (key.Class n))
  drop_class n unused = record {
    possible = possible_drop rows (key.Class n) g.possible;
    add_on = g.add_on;
    subscriber = g.subscriber;
    class = λ mac modem e. has_drop rows (key.Class n) (key.Class modem.class) (λ is. unused mac modem e cc) (g.class mac modem e);
    apart = g.apart;
    site_alone = g.site_alone;
    pool_hub = g.pool_hub;
    lease_hub = g.lease_hub;
    one_pool = g.one_pool;
    holder = g.holder;
    owner = g.owner;
    devices = g.devices;
  }

  hub_drop : (n h : ℕ) → (h ≡ n → ⊥) → hub_there rows h ≡ true → hub_there (drop_row rows (key.Hub n)) h ≡ true
  hub_drop n h away there =
      elim (eq_by_cmp key_cmp (key.Hub h) (key.Hub n)) as (λ b. eq_by_cmp key_cmp (key.Hub h) (key.Hub n) ≡ b → is_some (cond b None (rows (key.Hub h))) || (eqb h 0 && is_some (rows key.Site)) ≡ true) [
        | true ↦ λ e. absurd (away (let k = same_key (key.Hub h) (key.Hub n) e in cc))
        | false ↦ λ e. there
      ] refl

  pub drop_hub : (n : ℕ) → ((m : ℕ) (pool : Pool) → rows (key.Pool m) ≡ Some (row.Pool pool) → hub_at rows m ≡ n → ⊥)
      → GoodRows (drop_row rows (key.Hub n))
  drop_hub n unused = record {
    possible = possible_drop rows (key.Hub n) g.possible;
    add_on = g.add_on;
    subscriber = g.subscriber;
    class = g.class;
    apart = g.apart;
    site_alone = λ held e m. let alone = g.site_alone held e m in (none_left rows (key.Hub n) (key.Hub m) alone.0, alone.1);
    pool_hub = λ m hub e.
        let p = g.pool_hub m hub e in
        let pool = has_pool rows g m p.0 in
        (p.0, hub_drop n hub (λ is. unused m pool.0 pool.1 (ap hub_in_row e ∙ is)) p.1);
    lease_hub = λ address lease e m pool f w. hub_drop n (hub_at rows m) (unused m pool f) (g.lease_hub address lease e m pool f w);
    one_pool = g.one_pool;
    holder = g.holder;
    owner = g.owner;
    devices = g.devices;
  }

  pub drop_subscriber : (n : ℕ) → ((mac : Mac) (modem : Modem) → rows (key.Modem mac) ≡ Some (row.Modem modem) → modem.subscriber ≡ n → ⊥)
      → GoodRows (rows_after rows (Drop (key.Subscriber n) ∷ map Drop (add_on_keys n)))
  drop_subscriber n unused =
      let first : Rows = drop_row rows (key.Subscriber n) in
      let left = left_drops first (add_on_keys n) in
      record {
        possible = λ q held e. g.possible q held (left_drop rows (key.Subscriber n) q held (left q held e));
        add_on = λ m k held e.
            let there : rows (key.AddOn m k) ≡ Some held = left (key.AddOn m k) held e in
            has_drop rows (key.Subscriber n) (key.Subscriber m) (λ is.
            let same : m ≡ n = cc in
            dropped first (add_on_keys n) (key.AddOn m k) held
            (subst (λ x. In (key.AddOn x k) (add_on_keys n)) (sym same) (eight n k (add_on_number m k held (g.possible (key.AddOn m k) held there)))) e)
            (g.add_on m k held there);
        subscriber = λ mac modem e. has_drop rows (key.Subscriber n) (key.Subscriber modem.subscriber) (λ is. unused mac modem e cc) (g.subscriber mac modem e);
        class = g.class;
        apart = g.apart;
        site_alone = g.site_alone;
        pool_hub = g.pool_hub;
        lease_hub = g.lease_hub;
        one_pool = g.one_pool;
        holder = g.holder;
        owner = g.owner;
        devices = g.devices;
      }

  pub drop_device : (address : Ip4) → GoodRows (drop_row rows (key.Device address))
  drop_device address = record {
    possible = possible_drop rows (key.Device address) g.possible;
    add_on = g.add_on;
    subscriber = g.subscriber;
    class = g.class;
    apart = g.apart;
    site_alone = g.site_alone;
    pool_hub = g.pool_hub;
    lease_hub = g.lease_hub;
    one_pool = g.one_pool;
    holder = g.holder;
    owner = g.owner;
    devices = record {
      disjoint = g.devices.disjoint;
      apart = g.devices.apart;
      one_pool = λ other lease e. g.devices.one_pool other lease (left_drop rows (key.Device address) (key.Device other) (row.Device lease) e);
      one_address = λ one other lease left owner e f own also.
          g.devices.one_address one other lease left owner (left_drop rows (key.Device address) (key.Device one) (row.Device lease) e)
          (left_drop rows (key.Device address) (key.Device other) (row.Device left) f) own also;
    };
  }
