-- Tables open exactly where their rows are good.
use Rattle.std.proofs.Common.{◌≡◌, ℕ, true, false, not, ◌&&◌, ◌||◌, eqb, Option, Some, None, option_map, option_and_then, inl, inr, refl, sym, ap, subst, ◌∙◌}
use Rattle.std.proofs.lemmas.Bool.{and_parts, and_from, or_cases, or_left, or_right, not-true, not_from_false, eqb-true, eq-eqb}
use Rattle.std.specs.List.{filter_map, list_all, count_by}
use Rattle.std.specs.FinMap as map
use Rattle.off_base.specs.declared.addresses.Ip4.{Ip4}
use Rattle.off_base.specs.declared.macs.Mac.{Mac}
use Rattle.off_defs.specs.declared.keys.Key.{Key}
use Rattle.off_defs.specs.declared.keys.Key.TheVariants as key
use Rattle.off_defs.specs.declared.tables.Row.{Row}
use Rattle.off_defs.specs.declared.tables.Row.TheVariants as row
use Rattle.off_defs.specs.declared.tables.Modem.{Modem}
use Rattle.off_defs.specs.declared.tables.Pool.{Pool}
use Rattle.off_defs.specs.declared.tables.Lease.{Lease}
use Rattle.off_defs.specs.declared.tables.DeviceLease.{DeviceLease}
use Rattle.off_defs.specs.State.{Tables}
use Rattle.off_defs.specs.Tables.{row_at}
use Rattle.off_account_rules.specs.Rows.{passes, is_possible, has_address, overlaps, as_lease, as_held, device_of, devices}
use Rattle.off_account_rules.specs.Good.{is_address, is_there, raw_pool_of, raw_pools, raw_device_pool_of, raw_device_pools, is_apart, is_disjoint, pools_around, device_pools_around, owner_of, device_owner, is_same_owner, is_owned_apart, pool_stands, device_pool_stands, is_mac, holds, owner_holds, owns, is_of_hubs, names_hubs, is_hub_there, stored_hub, stored_hub_of, stands_right, Opens}
use Rattle.off_account_rules.proofs.OwnerLemmas.{mac_same, mac_own, owner_own, owner_found}
use Rattle.off_table_laws.proofs.ListLemmas.{In, Distinct, all_in, in_all, none_in, any_none, some_found, one_counted, counted_one, in_made, made_in, distinct_made}
use Rattle.off_table_laws.proofs.EntryRows.{row_in, in_row, distinct_entries}
use Rattle.off_table_laws.proofs.GoodRows.{OnePool, OnePoolOf, OwnedBy, DevicesStand, hub_at, GoodRows}
use Rattle.off_table_laws.proofs.PoolLemmas.{turned}

-- what is listed of one kind of rows is the rows of its keys
module _ {N Y : Type 0} (give : Key × Row → Option (N × Y)) (place : N → Key) (as_row : Y → Row) (gives : (n : N) (y : Y) → give (place n, as_row y) ≡ Some (n, y))
    (made : (q : Key) (held : Row) (n : N) (y : Y) → give (q, held) ≡ Some (n, y) → (q ≡ place n) × (held ≡ as_row y)) (t : Tables) where
  pub row_listed : (n : N) (y : Y) → row_at t (place n) ≡ Some (as_row y) → In (n, y) (filter_map give (map.entries t))
  row_listed n y e = in_made give (map.entries t) (place n, as_row y) (n, y) (row_in t (place n) (as_row y) e) (gives n y)

  pub listed_row : (n : N) (y : Y) → In (n, y) (filter_map give (map.entries t)) → row_at t (place n) ≡ Some (as_row y)
  listed_row n y i =
      let m = made_in give (map.entries t) (n, y) i in
      let parts = made m.0.0 m.0.1 n y m.2 in
      subst (λ (q : Key). row_at t q ≡ Some (as_row y)) parts.0 (in_row t m.0.0 m.0.1 m.1 ∙ ap Some parts.1)

  pub distinct_listed : Distinct (filter_map give (map.entries t))
  distinct_listed = distinct_made give (map.entries t) (λ a b y f g.
      let one = made a.0 a.1 y.0 y.1 f in
      let other = made b.0 b.1 y.0 y.1 g in
      λ i. ((one.0 ∙ sym other.0) i, (one.1 ∙ sym other.1) i)) (distinct_entries t)

raw_made : (q : Key) (held : Row) (n : ℕ) (pool : Pool) → raw_pool_of (q, held) ≡ Some (n, pool) → (q ≡ key.Pool n) × (held ≡ row.Pool pool)
raw_made (key.Pool m) (row.Pool other) n pool e =
    let pair : (m, other) ≡ (n, pool) = cc in
    (ap (λ (p : ℕ × Pool). key.Pool p.0) pair, ap (λ (p : ℕ × Pool). row.Pool p.1) pair)
raw_made q held n pool e = cc

raw_device_pool_made : (q : Key) (held : Row) (n : ℕ) (pool : Pool) → raw_device_pool_of (q, held) ≡ Some (n, pool) → (q ≡ key.DevicePool n) × (held ≡ row.Pool pool)
raw_device_pool_made (key.DevicePool m) (row.Pool other) n pool e =
    let pair : (m, other) ≡ (n, pool) = cc in
    (ap (λ (p : ℕ × Pool). key.DevicePool p.0) pair, ap (λ (p : ℕ × Pool). row.Pool p.1) pair)
raw_device_pool_made q held n pool e = cc

pub raw_device_made : (q : Key) (held : Row) (address : Ip4) (lease : DeviceLease) → device_of (q, held) ≡ Some (address, lease) → (q ≡ key.Device address) × (held ≡ row.Device lease)
raw_device_made (key.Device other) (row.Device own) address lease e =
    let pair : (other, own) ≡ (address, lease) = cc in
    (ap (λ (p : Ip4 × DeviceLease). key.Device p.0) pair, ap (λ (p : Ip4 × DeviceLease). row.Device p.1) pair)
raw_device_made q held address lease e = cc

pub pool_in_raw : (t : Tables) (n : ℕ) (pool : Pool) → row_at t (key.Pool n) ≡ Some (row.Pool pool) → In (n, pool) (raw_pools t)
pool_in_raw t = row_listed raw_pool_of key.Pool row.Pool (λ n pool. refl) raw_made t

pub raw_in_pool : (t : Tables) (n : ℕ) (pool : Pool) → In (n, pool) (raw_pools t) → row_at t (key.Pool n) ≡ Some (row.Pool pool)
raw_in_pool t = listed_row raw_pool_of key.Pool row.Pool (λ n pool. refl) raw_made t

pub device_pool_in_raw : (t : Tables) (n : ℕ) (pool : Pool) → row_at t (key.DevicePool n) ≡ Some (row.Pool pool) → In (n, pool) (raw_device_pools t)
device_pool_in_raw t = row_listed raw_device_pool_of key.DevicePool row.Pool (λ n pool. refl) raw_device_pool_made t

pub raw_in_device_pool : (t : Tables) (n : ℕ) (pool : Pool) → In (n, pool) (raw_device_pools t) → row_at t (key.DevicePool n) ≡ Some (row.Pool pool)
raw_in_device_pool t = listed_row raw_device_pool_of key.DevicePool row.Pool (λ n pool. refl) raw_device_pool_made t

pub device_in_raw : (t : Tables) (address : Ip4) (lease : DeviceLease) → row_at t (key.Device address) ≡ Some (row.Device lease) → In (address, lease) (devices t)
device_in_raw t = row_listed device_of key.Device row.Device (λ address lease. refl) raw_device_made t

pub raw_in_device : (t : Tables) (address : Ip4) (lease : DeviceLease) → In (address, lease) (devices t) → row_at t (key.Device address) ≡ Some (row.Device lease)
raw_in_device t = listed_row device_of key.Device row.Device (λ address lease. refl) raw_device_made t

-- one pool is around an address
module _ (give : Key × Row → Option (ℕ × Pool)) (place : ℕ → Key) (gives : (n : ℕ) (pool : Pool) → give (place n, row.Pool pool) ≡ Some (n, pool))
    (made : (q : Key) (held : Row) (n : ℕ) (pool : Pool) → give (q, held) ≡ Some (n, pool) → (q ≡ place n) × (held ≡ row.Pool pool)) (t : Tables) (address : Ip4) where
  abbrev around : ℕ
  around = count_by (λ (other : ℕ × Pool). has_address other.1 address) (filter_map give (map.entries t))

  around_once : around ≡ 1 → OnePoolOf place (row_at t) address
  around_once h =
      let one = one_counted (λ (other : ℕ × Pool). has_address other.1 address) (filter_map give (map.entries t)) h in
      record {
        number = one.0.0;
        pool = one.0.1;
        there = listed_row give place row.Pool gives made t one.0.0 one.0.1 one.1.inside;
        within = one.1.passes;
        only = λ m other e w. ap (λ (p : ℕ × Pool). p.0) (one.1.only (m, other) (row_listed give place row.Pool gives made t m other e) w);
      }

  once_around : OnePoolOf place (row_at t) address → around ≡ 1
  once_around one =
      counted_one (λ (other : ℕ × Pool). has_address other.1 address) (filter_map give (map.entries t)) (distinct_listed give place row.Pool gives made t) (one.number, one.pool) (record {
        inside = row_listed give place row.Pool gives made t one.number one.pool one.there;
        passes = one.within;
        only = λ y i w.
            let there = listed_row give place row.Pool gives made t y.0 y.1 i in
            let n = one.only y.0 y.1 there w in
            let same : Some (row.Pool y.1) ≡ Some (row.Pool one.pool) = sym there ∙ ap (λ m. row_at t (place m)) n ∙ one.there in
            let pool : y.1 ≡ one.pool = cc in
            λ j. (n j, pool j);
      })

around_one : (t : Tables) (address : Ip4) → pools_around t address ≡ 1 → OnePool (row_at t) address
around_one t address = around_once raw_pool_of key.Pool (λ n pool. refl) raw_made t address

one_around : (t : Tables) (address : Ip4) → OnePool (row_at t) address → pools_around t address ≡ 1
one_around t address = once_around raw_pool_of key.Pool (λ n pool. refl) raw_made t address

devices_around_one : (t : Tables) (address : Ip4) → device_pools_around t address ≡ 1 → OnePoolOf key.DevicePool (row_at t) address
devices_around_one t address = around_once raw_device_pool_of key.DevicePool (λ n pool. refl) raw_device_pool_made t address

one_around_devices : (t : Tables) (address : Ip4) → OnePoolOf key.DevicePool (row_at t) address → device_pools_around t address ≡ 1
one_around_devices t address = once_around raw_device_pool_of key.DevicePool (λ n pool. refl) raw_device_pool_made t address

-- leases that are owned apart and have one owner are at one address
one_apart : (address : Ip4) (other : Ip4 × DeviceLease) (owner : Mac × Mac) → is_owned_apart address (Some owner) other ≡ true → device_owner other.1.hold ≡ Some owner → address ≡ other.0
one_apart address other owner e also =
    elim (or_cases (eqb other.0.0 address.0) (not (passes (is_same_owner owner) (device_owner other.1.hold))) e) as (λ c. address ≡ other.0) [
      | inl same ↦ let n = eqb-true other.0.0 address.0 same in λ i. record { 0 = sym n i }
      | inr clear ↦
          let is : passes (is_same_owner owner) (device_owner other.1.hold) ≡ true = ap (passes (is_same_owner owner)) also ∙ owner_own owner in
          let isnt = not-true (passes (is_same_owner owner) (device_owner other.1.hold)) clear in
          cc
    ]

apart_one : (address : Ip4) (o : Option (Mac × Mac)) (other : Ip4 × DeviceLease) → ((owner : Mac × Mac) → o ≡ Some owner → device_owner other.1.hold ≡ Some owner → address ≡ other.0)
    → is_owned_apart address o other ≡ true
apart_one address None other h = refl
apart_one address (Some owner) other h =
    elim (passes (is_same_owner owner) (device_owner other.1.hold)) as (λ b. passes (is_same_owner owner) (device_owner other.1.hold) ≡ b → eqb other.0.0 address.0 || not b ≡ true) [
      | true ↦ λ e. or_left _ _ (eq-eqb other.0.0 address.0 (ap (λ (a : Ip4). a.0) (sym (h owner refl (owner_found (device_owner other.1.hold) owner e)))))
      | false ↦ λ e. or_right _ _ refl
    ] refl

-- who holds an address
held_same : (o : Option Row) (address : Ip4) → passes (is_address address) (option_and_then as_held o) ≡ true → o ≡ Some (row.Held address)
held_same (Some (row.Held held)) address e = let n = eqb-true held.0 address.0 e in λ i. Some (row.Held (record { 0 = n i }))
held_same o address e = cc

holds_row : (t : Tables) (address : Ip4) (mac : Mac) → holds t address mac ≡ true → row_at t (key.Held mac) ≡ Some (row.Held address)
holds_row t address mac e = held_same (row_at t (key.Held mac)) address e

row_holds : (t : Tables) (address : Ip4) (mac : Mac) → row_at t (key.Held mac) ≡ Some (row.Held address) → holds t address mac ≡ true
row_holds t address mac e =
    ap (λ (o : Option Row). passes (is_address address) (option_and_then as_held o)) e ∙ eq-eqb address.0 address.0 refl

-- who owns a lease
owned_same : (o : Option Row) (mac : Mac) → passes (is_mac mac) (option_and_then (λ (lease : Lease). owner_of lease.hold) (option_and_then as_lease o)) ≡ true
    → (lease : Lease) × (o ≡ Some (row.Lease lease)) × (owner_of lease.hold ≡ Some mac)
owned_same (Some (row.Lease lease)) mac e = (lease, refl, by_owner (owner_of lease.hold) e)
  where
    by_owner : (o : Option Mac) → passes (is_mac mac) o ≡ true → o ≡ Some mac
    by_owner None e = cc
    by_owner (Some other) e = ap Some (sym (mac_same mac other e))
owned_same o mac e = cc

owns_row : (t : Tables) (mac : Mac) (address : Ip4) → owns t mac address ≡ true → OwnedBy (row_at t) mac address
owns_row t mac address e = let o = owned_same (row_at t (key.Lease address)) mac e in record { lease = o.0; there = o.1; owner = o.2 }

row_owns : (t : Tables) (mac : Mac) (address : Ip4) → OwnedBy (row_at t) mac address → owns t mac address ≡ true
row_owns t mac address o =
    ap (λ (r : Option Row). passes (is_mac mac) (option_and_then (λ (lease : Lease). owner_of lease.hold) (option_and_then as_lease r))) o.there
    ∙ ap (λ (r : Option Mac). passes (is_mac mac) r) o.owner
    ∙ mac_own mac

-- the hub of an address is that of its one pool
pub hub_of_one : (t : Tables) (address : Ip4) (n : ℕ) (pool : Pool) → OnePool (row_at t) address → row_at t (key.Pool n) ≡ Some (row.Pool pool) → has_address pool address ≡ true
    → stored_hub_of t address ≡ Some (hub_at (row_at t) n)
hub_of_one t address n pool one there within =
    let f = some_found (λ (other : ℕ × Pool). has_address other.1 address) (raw_pools t) (n, pool) (pool_in_raw t n pool there) within in
    let first = one.only f.0.0 f.0.1 (raw_in_pool t f.0.0 f.0.1 f.2) f.3 in
    let second = one.only n pool there within in
    ap (option_map (λ (entry : ℕ × Pool). stored_hub t entry.0)) f.1 ∙ ap (λ m. Some (stored_hub t m)) (first ∙ sym second)

-- the site of earlier days stands alone
named_row : (t : Tables) (q : Key) (held : Row) → names_hubs t ≡ false → is_of_hubs q ≡ true → row_at t q ≡ Some held → ⊥
named_row t q held none names e = let no = none_in (λ (e : Key × Row). is_of_hubs e.0) (map.entries t) none (q, held) (row_in t q held e) in cc

no_row_at : (o : Option Row) → ((held : Row) → o ≡ Some held → ⊥) → o ≡ None
no_row_at None h = refl
no_row_at (Some held) h = absurd (h held refl)

not_named : (t : Tables) → ((n : ℕ) → (row_at t (key.Hub n) ≡ None) × (row_at t (key.PoolHub n) ≡ None)) → (q : Key) (held : Row) → In (q, held) (map.entries t) → is_of_hubs q ≡ false
not_named t alone (key.Hub n) held i = let there = in_row t (key.Hub n) held i in let none = (alone n).0 in cc
not_named t alone (key.PoolHub n) held i = let there = in_row t (key.PoolHub n) held i in let none = (alone n).1 in cc
not_named t alone q held i = refl

-- the parts of a lease's line
lease_line : (t : Tables) → Opens t → (address : Ip4) (lease : Lease) → row_at t (key.Lease address) ≡ Some (row.Lease lease)
    → (pools_around t address ≡ 1) × (passes (is_hub_there t) (stored_hub_of t address) ≡ true) × (owner_holds t address (owner_of lease.hold) ≡ true)
lease_line t g address lease e =
    let all = and_parts (eqb (pools_around t address) 1) (passes (is_hub_there t) (stored_hub_of t address) && owner_holds t address (owner_of lease.hold)) (g (key.Lease address) (row.Lease lease) e) in
    let rest = and_parts (passes (is_hub_there t) (stored_hub_of t address)) (owner_holds t address (owner_of lease.hold)) all.1 in
    (eqb-true (pools_around t address) 1 all.0, rest.0, rest.1)

modem_line : (t : Tables) → Opens t → (mac : Mac) (modem : Modem) → row_at t (key.Modem mac) ≡ Some (row.Modem modem)
    → (is_there t (key.Subscriber modem.subscriber) ≡ true) × (is_there t (key.Class modem.class) ≡ true)
modem_line t g mac modem e = and_parts (is_there t (key.Subscriber modem.subscriber)) (is_there t (key.Class modem.class)) (g (key.Modem mac) (row.Modem modem) e)

pool_line : (t : Tables) → Opens t → (n : ℕ) (pool : Pool) → row_at t (key.Pool n) ≡ Some (row.Pool pool)
    → (list_all (is_apart n pool) (raw_pools t) ≡ true) × (list_all (is_disjoint pool) (raw_device_pools t) ≡ true)
pool_line t g n pool e =
    and_parts (list_all (is_apart n pool) (raw_pools t)) (list_all (is_disjoint pool) (raw_device_pools t))
    (and_parts (is_possible (key.Pool n) (row.Pool pool)) (pool_stands t n pool) (g (key.Pool n) (row.Pool pool) e)).1

device_pool_line : (t : Tables) → Opens t → (n : ℕ) (pool : Pool) → row_at t (key.DevicePool n) ≡ Some (row.Pool pool) → list_all (is_apart n pool) (raw_device_pools t) ≡ true
device_pool_line t g n pool e =
    (and_parts (list_all (is_apart n pool) (raw_device_pools t)) (list_all (is_disjoint pool) (raw_pools t))
    (and_parts (is_possible (key.DevicePool n) (row.Pool pool)) (device_pool_stands t n pool) (g (key.DevicePool n) (row.Pool pool) e)).1).0

device_line : (t : Tables) → Opens t → (address : Ip4) (lease : DeviceLease) → row_at t (key.Device address) ≡ Some (row.Device lease)
    → (device_pools_around t address ≡ 1) × (list_all (is_owned_apart address (device_owner lease.hold)) (devices t) ≡ true)
device_line t g address lease e =
    let all = and_parts (eqb (device_pools_around t address) 1) (list_all (is_owned_apart address (device_owner lease.hold)) (devices t)) (g (key.Device address) (row.Device lease) e) in
    (eqb-true (device_pools_around t address) 1 all.0, all.1)

devices_stand : (t : Tables) → Opens t → DevicesStand (row_at t)
devices_stand t g = record {
  disjoint = λ n pool m other e f. not-true (overlaps pool other) (all_in (is_disjoint pool) (raw_device_pools t) (pool_line t g n pool e).1 (m, other) (device_pool_in_raw t m other f));
  apart = λ n pool m other e f. all_in (is_apart n pool) (raw_device_pools t) (device_pool_line t g n pool e) (m, other) (device_pool_in_raw t m other f);
  one_pool = λ address lease e. devices_around_one t address (device_line t g address lease e).0;
  one_address = λ one other lease left owner e f own also.
      let said = all_in (is_owned_apart one (device_owner lease.hold)) (devices t) (device_line t g one lease e).1 (other, left) (device_in_raw t other left f) in
      one_apart one (other, left) owner (ap (λ o. is_owned_apart one o (other, left)) (sym own) ∙ said) also;
}

pub good_rows : (t : Tables) → Opens t → GoodRows (row_at t)
good_rows t g = record {
  possible = λ q held e. (and_parts (is_possible q held) (stands_right t q held) (g q held e)).0;
  add_on = λ n k held e. (and_parts (is_possible (key.AddOn n k) held) (stands_right t (key.AddOn n k) held) (g (key.AddOn n k) held e)).1;
  subscriber = λ mac modem e. (modem_line t g mac modem e).0;
  class = λ mac modem e. (modem_line t g mac modem e).1;
  apart = λ n pool m other e f. all_in (is_apart n pool) (raw_pools t) (pool_line t g n pool e).0 (m, other) (pool_in_raw t m other f);
  site_alone = λ held e n.
      let none = not-true (names_hubs t) (and_parts (is_possible key.Site held) (stands_right t key.Site held) (g key.Site held e)).1 in
      (no_row_at (row_at t (key.Hub n)) (λ other f. named_row t (key.Hub n) other none refl f), no_row_at (row_at t (key.PoolHub n)) (λ other f. named_row t (key.PoolHub n) other none refl f));
  pool_hub = λ n hub e.
      let line = (and_parts (is_possible (key.PoolHub n) (row.PoolHub hub)) (stands_right t (key.PoolHub n) (row.PoolHub hub)) (g (key.PoolHub n) (row.PoolHub hub) e)).1 in
      and_parts (is_there t (key.Pool n)) (is_hub_there t hub) line;
  lease_hub = λ address lease e n pool there within.
      let line = lease_line t g address lease e in
      sym (ap (passes (is_hub_there t)) (hub_of_one t address n pool (around_one t address line.0) there within)) ∙ line.1;
  one_pool = λ address lease e. around_one t address (lease_line t g address lease e).0;
  holder = λ address lease mac e o. holds_row t address mac (ap (owner_holds t address) (sym o) ∙ (lease_line t g address lease e).2);
  owner = λ mac address e. owns_row t mac address (g (key.Held mac) (row.Held address) e);
  devices = devices_stand t g;
}

pub good_tables : (t : Tables) → GoodRows (row_at t) → Opens t
good_tables t g q held e = and_from (is_possible q held) (stands_right t q held) (g.possible q held e) (right q held e)
  where
    owner_right : (address : Ip4) (o : Option Mac) → ((mac : Mac) → o ≡ Some mac → row_at t (key.Held mac) ≡ Some (row.Held address)) → owner_holds t address o ≡ true
    owner_right address None h = refl
    owner_right address (Some mac) h = row_holds t address mac (h mac refl)

    right : (q : Key) (held : Row) → row_at t q ≡ Some held → stands_right t q held ≡ true
    right (key.AddOn n k) held e = g.add_on n k held e
    right (key.Modem mac) (row.Modem modem) e = and_from _ _ (g.subscriber mac modem e) (g.class mac modem e)
    right (key.Pool n) (row.Pool pool) e =
        and_from _ _ (in_all (is_apart n pool) (raw_pools t) (λ x i. g.apart n pool x.0 x.1 e (raw_in_pool t x.0 x.1 i)))
        (in_all (is_disjoint pool) (raw_device_pools t) (λ x i. not_from_false (overlaps pool x.1) (g.devices.disjoint n pool x.0 x.1 e (raw_in_device_pool t x.0 x.1 i))))
    right (key.DevicePool n) (row.Pool pool) e =
        and_from _ _ (in_all (is_apart n pool) (raw_device_pools t) (λ x i. g.devices.apart n pool x.0 x.1 e (raw_in_device_pool t x.0 x.1 i)))
        (in_all (is_disjoint pool) (raw_pools t) (λ x i. not_from_false (overlaps pool x.1) (turned x.1 pool (g.devices.disjoint x.0 x.1 n pool (raw_in_pool t x.0 x.1 i) e))))
    right (key.Device address) (row.Device lease) e =
        and_from _ _ (eq-eqb _ _ (one_around_devices t address (g.devices.one_pool address lease e)))
        (in_all (is_owned_apart address (device_owner lease.hold)) (devices t) (λ x i. apart_one address (device_owner lease.hold) x
        (λ owner own also. g.devices.one_address address x.0 lease x.1 owner e (raw_in_device t x.0 x.1 i) own also)))
    right (key.Lease address) (row.Lease lease) e =
        let one = g.one_pool address lease e in
        and_from _ _ (eq-eqb _ _ (one_around t address one))
        (and_from _ _ (ap (passes (is_hub_there t)) (hub_of_one t address one.number one.pool one one.there one.within) ∙ g.lease_hub address lease e one.number one.pool one.there one.within) (owner_right address (owner_of lease.hold) (λ mac o. g.holder address lease mac e o)))
    right (key.Held mac) (row.Held address) e = row_owns t mac address (g.owner mac address e)
    right (key.Modem mac) held e = let fits = g.possible (key.Modem mac) held e in cc
    right (key.Pool n) held e = let fits = g.possible (key.Pool n) held e in cc
    right (key.Lease address) held e = let fits = g.possible (key.Lease address) held e in cc
    right (key.Held mac) held e = let fits = g.possible (key.Held mac) held e in cc
    right (key.PoolHub n) (row.PoolHub hub) e = let p = g.pool_hub n hub e in and_from _ _ p.0 p.1
    right (key.PoolHub n) held e = let fits = g.possible (key.PoolHub n) held e in cc
    right key.Site held e = ap not (any_none (λ (e : Key × Row). is_of_hubs e.0) (map.entries t) (λ x i. not_named t (g.site_alone held e) x.0 x.1 i))
    right (key.Hub n) held e = refl
    right (key.Subscriber n) held e = refl
    right (key.Class n) held e = refl
    right (key.Batch n) held e = refl
    right (key.DevicePool n) held e = let fits = g.possible (key.DevicePool n) held e in cc
    right (key.Device a) held e = let fits = g.possible (key.Device a) held e in cc
