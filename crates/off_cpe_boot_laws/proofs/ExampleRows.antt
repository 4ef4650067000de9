-- The rows of the example's tables, which are good.
use Rattle.std.proofs.Common.{◌≡◌, ℕ, true, false, cond, not, ◌&&◌, eqb, Option, Some, None, refl, sym, ap, subst, ◌∙◌}
use Rattle.std.proofs.lemmas.Bool.{or_left, eq-eqb}
use Rattle.std.specs.FinMap as map
use Rattle.std.specs.Ordering.{eq_by_cmp}
use Rattle.off_base.specs.declared.addresses.Ip4.{Ip4}
use Rattle.off_base.specs.declared.macs.Mac.{Mac}
use Rattle.off_tree.specs.Table.{table_of}
use Rattle.off_defs.specs.declared.keys.Key.{Key}
use Rattle.off_defs.specs.declared.keys.Key.TheVariants as key
use Rattle.off_defs.specs.declared.tables.Row.{Row}
use Rattle.off_defs.specs.declared.tables.Row.TheVariants as row
use Rattle.off_defs.specs.declared.tables.Modem.{Modem}
use Rattle.off_defs.specs.declared.tables.Pool.{Pool}
use Rattle.off_defs.specs.declared.tables.Lease.{Lease}
use Rattle.off_defs.specs.Keys.{key_cmp}
use Rattle.off_defs.specs.State.{Tables}
use Rattle.off_defs.specs.Tables.{row_at, with_row}
use Rattle.off_defs.proofs.TableLemmas.{same_key, row_with}
use Rattle.off_account_rules.specs.Rows.{is_possible, class_is_good, has_address, overlaps}
use Rattle.off_account_rules.specs.Good.{owner_of, Good}
use Rattle.off_table_laws.proofs.Rows.{Rows, put_row}
use Rattle.off_table_laws.proofs.GoodRows.{Has, GoodRows}
use Rattle.off_table_laws.proofs.Judging.{good_tables}
use Rattle.off_cpe_boot_laws.specs.Example.{site, subscriber, class, modem, modem_row, modem_pool, device_pool, modem_address, modem_lease, tables}

-- ---- row by row

abbrev no_rows : Rows
no_rows q = None

abbrev pool_rows : Rows
pool_rows =
    put_row (put_row (put_row (put_row (put_row (put_row no_rows (key.Hub 0) (row.Site site)) (key.Subscriber 7) (row.Subscriber subscriber)) (key.Class 1) (row.Class class))
    (key.Modem modem) (row.Modem modem_row)) (key.Pool 1) (row.Pool modem_pool)) (key.DevicePool 1) (row.Pool device_pool)

abbrev pub all_rows : Rows
all_rows = put_row (put_row pool_rows (key.Lease modem_address) (row.Lease modem_lease)) (key.Held modem) (row.Held modem_address)

put_is : (t : Tables) (rows : Rows) (k : Key) (held : Row) → ((q : Key) → row_at t q ≡ rows q) → (q : Key) → row_at (with_row t k held) q ≡ put_row rows k held q
put_is t rows k held same q = row_with t k held q ∙ ap (λ o. cond (eq_by_cmp key_cmp q k) (Some held) o) (same q)

pub row_is : (q : Key) → row_at tables q ≡ all_rows q
unfolding tables
row_is =
    put_is _ _ (key.Held modem) (row.Held modem_address)
    (put_is _ _ (key.Lease modem_address) (row.Lease modem_lease)
    (put_is _ _ (key.DevicePool 1) (row.Pool device_pool)
    (put_is _ _ (key.Pool 1) (row.Pool modem_pool)
    (put_is _ _ (key.Modem modem) (row.Modem modem_row)
    (put_is _ _ (key.Class 1) (row.Class class)
    (put_is _ _ (key.Subscriber 7) (row.Subscriber subscriber)
    (put_is map.empty no_rows (key.Hub 0) (row.Site site) (λ q. map.get-empty key_cmp q))))))))

-- ---- each kind has one row, or none

one : (q k : Key) (held other : Row) → cond (eq_by_cmp key_cmp q k) (Some held) None ≡ Some other → (q ≡ k) × (held ≡ other)
one q k held other e =
    elim (eq_by_cmp key_cmp q k) as (λ b. eq_by_cmp key_cmp q k ≡ b → cond b (Some held) None ≡ Some other → (q ≡ k) × (held ≡ other)) [
      | true ↦ λ t f. (same_key q k t, cc)
      | false ↦ λ t f. cc
    ] refl e

none : {X : Type 0} (held : Row) → ◌≡◌ {A = Option Row} None (Some held) → X
none held e = cc

modem_is : (mac : Mac) (other : Modem) → all_rows (key.Modem mac) ≡ Some (row.Modem other) → modem_row ≡ other
modem_is mac other e =
    let rows : row.Modem modem_row ≡ row.Modem other = (one (key.Modem mac) (key.Modem modem) (row.Modem modem_row) (row.Modem other) e).1 in
    cc

pool_is : (n : ℕ) (other : Pool) → all_rows (key.Pool n) ≡ Some (row.Pool other) → (n ≡ 1) × (modem_pool ≡ other)
pool_is n other e =
    let both = one (key.Pool n) (key.Pool 1) (row.Pool modem_pool) (row.Pool other) e in
    let keys : key.Pool n ≡ key.Pool 1 = both.0 in
    let rows : row.Pool modem_pool ≡ row.Pool other = both.1 in
    (cc, cc)

device_pool_is : (n : ℕ) (other : Pool) → all_rows (key.DevicePool n) ≡ Some (row.Pool other) → (n ≡ 1) × (device_pool ≡ other)
device_pool_is n other e =
    let both = one (key.DevicePool n) (key.DevicePool 1) (row.Pool device_pool) (row.Pool other) e in
    let keys : key.DevicePool n ≡ key.DevicePool 1 = both.0 in
    let rows : row.Pool device_pool ≡ row.Pool other = both.1 in
    (cc, cc)

lease_is : (address : Ip4) (other : Lease) → all_rows (key.Lease address) ≡ Some (row.Lease other) → (address ≡ modem_address) × (modem_lease ≡ other)
lease_is address other e =
    let both = one (key.Lease address) (key.Lease modem_address) (row.Lease modem_lease) (row.Lease other) e in
    let keys : key.Lease address ≡ key.Lease modem_address = both.0 in
    let rows : row.Lease modem_lease ≡ row.Lease other = both.1 in
    (cc, cc)

held_is : (mac : Mac) (address : Ip4) → all_rows (key.Held mac) ≡ Some (row.Held address) → (mac ≡ modem) × (modem_address ≡ address)
held_is mac address e =
    let both = one (key.Held mac) (key.Held modem) (row.Held modem_address) (row.Held address) e in
    let keys : key.Held mac ≡ key.Held modem = both.0 in
    let rows : row.Held modem_address ≡ row.Held address = both.1 in
    (cc, cc)

-- ---- all are possible, and stand in the right relations

its_own : (q k : Key) (held other : Row) → is_possible q held ≡ true → cond (eq_by_cmp key_cmp q k) (Some held) None ≡ Some other → is_possible q other ≡ true
its_own q k held other may e = ap (is_possible q) (sym (one q k held other e).1) ∙ may

possible_rows : (q : Key) (held : Row) → all_rows q ≡ Some held → is_possible q held ≡ true
unfolding class_is_good table_of
possible_rows key.Site held e = none held e
possible_rows (key.Subscriber n) held e = its_own (key.Subscriber n) (key.Subscriber 7) (row.Subscriber subscriber) held refl e
possible_rows (key.AddOn n k) held e = none held e
possible_rows (key.Modem mac) held e = its_own (key.Modem mac) (key.Modem modem) (row.Modem modem_row) held refl e
possible_rows (key.Class n) held e = its_own (key.Class n) (key.Class 1) (row.Class class) held refl e
possible_rows (key.Pool n) held e = its_own (key.Pool n) (key.Pool 1) (row.Pool modem_pool) held refl e
possible_rows (key.Lease address) held e = its_own (key.Lease address) (key.Lease modem_address) (row.Lease modem_lease) held refl e
possible_rows (key.Held mac) held e = its_own (key.Held mac) (key.Held modem) (row.Held modem_address) held refl e
possible_rows (key.Batch n) held e = none held e
possible_rows (key.Hub n) held e = its_own (key.Hub n) (key.Hub 0) (row.Site site) held refl e
possible_rows (key.PoolHub n) held e = none held e
possible_rows (key.DevicePool n) held e = its_own (key.DevicePool n) (key.DevicePool 1) (row.Pool device_pool) held refl e
possible_rows (key.Device address) held e = none held e

good_all : GoodRows all_rows
good_all = record {
  possible = possible_rows;
  add_on = λ n k held e. none held e;
  subscriber = λ mac other e. subst (λ (m : Modem). Has all_rows (key.Subscriber m.subscriber)) (modem_is mac other e) refl;
  class = λ mac other e. subst (λ (m : Modem). Has all_rows (key.Class m.class)) (modem_is mac other e) refl;
  apart = λ n pool m other e f.
      or_left (eqb m n) (not (overlaps pool other) && not (eqb other.relay.0 pool.relay.0)) (eq-eqb m n ((pool_is m other f).0 ∙ sym (pool_is n pool e).0));
  site_alone = λ held e. none held e;
  pool_hub = λ n hub e. none (row.PoolHub hub) e;
  lease_hub = λ address lease e n pool f within. refl;
  one_pool = λ address lease e. record {
    number = 1;
    pool = modem_pool;
    there = refl;
    within = ap (has_address modem_pool) (lease_is address lease e).0;
    only = λ m other f within. (pool_is m other f).0;
  };
  holder = λ address lease mac e own.
      let l = lease_is address lease e in
      let macs : Some modem ≡ Some mac = subst (λ (x : Lease). owner_of x.hold ≡ Some mac) (sym l.1) own in
      let same : modem ≡ mac = cc in
      ap (λ (m : Mac). all_rows (key.Held m)) (sym same) ∙ ap (λ (a : Ip4). Some (row.Held a)) (sym l.0);
  owner = λ mac address e.
      let h = held_is mac address e in
      record { lease = modem_lease; there = ap (λ (a : Ip4). all_rows (key.Lease a)) (sym h.1); owner = ap Some (sym h.0) };
  devices = record {
    disjoint = λ n pool m other e f.
        ap (λ (p : Pool). overlaps p other) (sym (pool_is n pool e).1) ∙ ap (λ (p : Pool). overlaps modem_pool p) (sym (device_pool_is m other f).1);
    apart = λ n pool m other e f.
        or_left (eqb m n) (not (overlaps pool other) && not (eqb other.relay.0 pool.relay.0)) (eq-eqb m n ((device_pool_is m other f).0 ∙ sym (device_pool_is n pool e).0));
    one_pool = λ address lease e. none (row.Device lease) e;
    one_address = λ first second lease left owner e f own also. none (row.Device lease) e;
  };
}

rows_are : row_at tables ≡ all_rows
rows_are = λ i q. row_is q i

pub tables_are_good : Good tables
tables_are_good = record {
  opens = good_tables tables (subst (λ (rows : Rows). GoodRows rows) (sym rows_are) good_all);
  no_site = row_is key.Site;
}
