-- Tables that open are good once the site of earlier days is the hub 0, and all but these two rows is as it was.
use Rattle.std.proofs.Common.{◌≡◌, ℕ, true, false, cond, Option, Some, None, option_map, option_and_then, find, refl, sym, ap, subst, ◌∙◌}
use Rattle.std.specs.Ordering.{eq_by_cmp}
use Rattle.off_base.specs.declared.addresses.Ip4.{Ip4}
use Rattle.off_defs.specs.declared.keys.Key.{Key}
use Rattle.off_defs.specs.declared.keys.Key.TheVariants as key
use Rattle.off_defs.specs.declared.tables.Row.{Row}
use Rattle.off_defs.specs.declared.tables.Pool.{Pool}
use Rattle.off_defs.specs.Keys.{key_cmp}
use Rattle.off_defs.specs.State.{Tables}
use Rattle.off_defs.specs.Tables.{row_at, write_all, with_row}
use Rattle.off_defs.proofs.TableLemmas.{own_key, row_without, row_with}
use Rattle.off_account_rules.specs.Rows.{possible, pools, number_or_0, hub_of, as_pool_hub, pool_hub_in, as_lease, as_held, pool_of, pool_with, has_address, device_pool_of, device_pools, device_of, devices}
use Rattle.off_account_rules.specs.Good.{Opens, Good}
use Rattle.off_account_rules.specs.Migration.{migration_of, migrated}
use Rattle.off_table_laws.specs.Laws.{MigratedAreGood, GoodStay, MigrationKeepsLeases}
use Rattle.off_table_laws.proofs.Rows.{Rows, put_row, drop_row, all_written}
use Rattle.off_table_laws.proofs.GoodRows.{hub_there, hub_in_row, GoodRows}
use Rattle.off_table_laws.proofs.RowChanges.{possible_put, possible_drop}
use Rattle.off_table_laws.proofs.MadeLemmas.{made_with, made_without}
use Rattle.off_table_laws.proofs.Judging.{good_rows, good_tables}

-- the rows where the site has moved
abbrev pub moved : Rows → Row → Rows
moved rows held = drop_row (put_row rows (key.Hub 0) held) key.Site

module _ (rows : Rows) (g : GoodRows rows) (held : Row) (there : rows key.Site ≡ Some held) where
  hub_0_there : hub_there (moved rows held) 0 ≡ true
  hub_0_there = ap (λ b. hub_there (λ q. cond (eq_by_cmp key_cmp q key.Site) None (cond b (Some held) (rows q))) 0) (own_key (key.Hub 0))

  pub moved_good : GoodRows (moved rows held)
  moved_good = record {
    possible = possible_drop (put_row rows (key.Hub 0) held) key.Site (possible_put rows (key.Hub 0) held g.possible (g.possible key.Site held there));
    add_on = g.add_on;
    subscriber = g.subscriber;
    class = g.class;
    apart = g.apart;
    site_alone = λ other e n. cc;
    pool_hub = λ n hub e. let none = (g.site_alone held there n).1 in cc;
    lease_hub = λ address lease e n pool f w.
        ap (λ o. hub_there (moved rows held) (hub_in_row o)) (g.site_alone held there n).1 ∙ hub_0_there;
    one_pool = g.one_pool;
    holder = g.holder;
    owner = g.owner;
    devices = g.devices;
  }

good_if : (t : Tables) (o : Option Row) → row_at t key.Site ≡ o → Opens t → Good (write_all t (migration_of o))
good_if t None e opens = record { opens = opens; no_site = e }
good_if t (Some held) e opens =
    let after = all_written t (migration_of (Some held)) in
    record {
      opens = good_tables (write_all t (migration_of (Some held))) (subst (λ (rows : Rows). GoodRows rows) (sym after) (moved_good (row_at t) (good_rows t opens) held e));
      no_site = ap (λ (rows : Rows). rows key.Site) after;
    }

pub migrated_are_good : MigratedAreGood
unfolding migrated
migrated_are_good t opens = good_if t (row_at t key.Site) refl opens

pub good_stay : GoodStay
unfolding migrated
good_stay t good = ap (λ o. write_all t (migration_of o)) good.no_site

-- what stands for the tables stands for the migrated ones: pools, their hubs, and leases, of devices too

-- a row of another key stays
row_if : (t : Tables) (o : Option Row) (q : Key) → eq_by_cmp key_cmp q (key.Hub 0) ≡ false → eq_by_cmp key_cmp q key.Site ≡ false → row_at (write_all t (migration_of o)) q ≡ row_at t q
row_if t None q a b = refl
row_if t (Some held) q a b =
    row_without (with_row t (key.Hub 0) held) key.Site q ∙ ap (λ x. cond x None (row_at (with_row t (key.Hub 0) held) q)) b
    ∙ row_with t (key.Hub 0) held q ∙ ap (λ x. cond x (Some held) (row_at t q)) a

pub row_stays : (t : Tables) (q : Key) → eq_by_cmp key_cmp q (key.Hub 0) ≡ false → eq_by_cmp key_cmp q key.Site ≡ false → row_at (migrated t) q ≡ row_at t q
unfolding migrated
row_stays t q a b = row_if t (row_at t key.Site) q a b

pools_if : (t : Tables) (o : Option Row) → pools (write_all t (migration_of o)) ≡ pools t
pools_if t None = refl
pools_if t (Some held) = made_without pool_of key.Site (λ r. refl) (with_row t (key.Hub 0) held) ∙ made_with pool_of (key.Hub 0) (λ r. refl) t held

device_pools_if : (t : Tables) (o : Option Row) → device_pools (write_all t (migration_of o)) ≡ device_pools t
device_pools_if t None = refl
device_pools_if t (Some held) = made_without device_pool_of key.Site (λ r. refl) (with_row t (key.Hub 0) held) ∙ made_with device_pool_of (key.Hub 0) (λ r. refl) t held

devices_if : (t : Tables) (o : Option Row) → devices (write_all t (migration_of o)) ≡ devices t
devices_if t None = refl
devices_if t (Some held) = made_without device_of key.Site (λ r. refl) (with_row t (key.Hub 0) held) ∙ made_with device_of (key.Hub 0) (λ r. refl) t held

pub migration_keeps_leases : MigrationKeepsLeases
unfolding migrated
migration_keeps_leases t = record {
  pools = pools_if t (row_at t key.Site);
  hubs = λ n. ap (λ o. number_or_0 (option_and_then as_pool_hub (possible (key.PoolHub n) o))) (row_stays t (key.PoolHub n) refl refl);
  leases = λ address. ap (λ o. option_and_then as_lease (possible (key.Lease address) o)) (row_stays t (key.Lease address) refl refl);
  holders = λ mac. ap (λ o. option_and_then as_held (possible (key.Held mac) o)) (row_stays t (key.Held mac) refl refl);
  device_pools = device_pools_if t (row_at t key.Site);
  devices = devices_if t (row_at t key.Site);
}

pub same_hub_of : (t : Tables) (address : Ip4) → hub_of (migrated t) address ≡ hub_of t address
same_hub_of t address =
    let keeps = migration_keeps_leases t in
    ap (λ ps. option_map (λ (entry : ℕ × Pool). pool_hub_in (migrated t) entry.0) (find (λ (entry : ℕ × Pool). has_address entry.1 address) ps)) keeps.pools
    ∙ ap (λ (f : ℕ → ℕ). option_map (λ (entry : ℕ × Pool). f entry.0) (pool_with t address)) (λ i n. keeps.hubs n i)
