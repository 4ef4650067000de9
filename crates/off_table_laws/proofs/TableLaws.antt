-- What is known of good tables, and of what a test says of tables.
use Rattle.std.proofs.Common.{◌≡◌, ℕ, Bool, true, false, not, ◌&&◌, ◌||◌, eqb, List, Option, Some, None, is_some, option_map, option_and_then, inl, inr, refl, sym, ap, subst, ◌∙◌}
use Rattle.std.proofs.lemmas.Bool.{or_cases, and_parts, not-true, eqb-true}
use Rattle.std.specs.Ordering.{ordering_reverse}
use Rattle.std.specs.declared.cmp.Ordering.TheVariants.{Less, Equal, Greater}
use Rattle.off_base.specs.declared.addresses.Ip4.{Ip4}
use Rattle.off_base.specs.declared.macs.Mac.{Mac}
use Rattle.off_defs.specs.declared.keys.Key.{Key}
use Rattle.off_defs.specs.declared.keys.Key.TheVariants as key
use Rattle.off_defs.specs.declared.tables.Row.{Row}
use Rattle.off_defs.specs.declared.tables.Row.TheVariants as row
use Rattle.off_defs.specs.declared.tables.Lease.{Lease}
use Rattle.off_defs.specs.declared.tables.DeviceLease.{DeviceLease}
use Rattle.off_defs.specs.declared.tables.Pool.{Pool}
use Rattle.off_defs.specs.Keys.{key_cmp}
use Rattle.off_defs.specs.State.{Tables}
use Rattle.off_defs.specs.Tables.{row_at}
use Rattle.off_defs.proofs.KeyLemmas.{key_total, key_exact}
use Rattle.off_account_rules.specs.Rows.{is_possible, possible, overlaps, as_site, as_subscriber, as_add_on, as_class, hub_in, pool_hub_in, site_of, lease_in, device_in, has_address, pools}
use Rattle.off_account_rules.specs.Good.{owner_of, device_owner, Good, Keeps, IsLeastBad}
use Rattle.off_table_laws.specs.Laws.{owner_in, OneLeaseAModem, OwnersHold, PoolsAreApart, ModemsStand, AddOnsStand, HubOfPool, LeasesStand, OneAddressADevice, DevicesLieInAPool, PoolsHaveNoDevices, OpeningHaveNoBadKey, OneJudgement, SeenAsTheyStand}
use Rattle.off_table_laws.proofs.ListLemmas.{In, some_found}
use Rattle.off_table_laws.proofs.GoodRows.{Has, hub_in_row, hub_at, GoodRows}
use Rattle.off_table_laws.proofs.Judging.{good_rows, pool_in_raw, raw_in_pool}
use Rattle.off_table_laws.proofs.PoolLemmas.{share}
use Rattle.off_table_laws.proofs.Reading.{seen_row, modem_row, lease_row, held_row, pool_row, device_row, device_pool_row, row_lease, row_held, row_pool, row_device_pool, pools_raw, device_pools_raw}

-- who owns a lease
pub owned : (o : Option Lease) (mac : Mac) → option_and_then (λ (lease : Lease). owner_of lease.hold) o ≡ Some mac → (lease : Lease) × (o ≡ Some lease) × (owner_of lease.hold ≡ Some mac)
owned None mac e = cc
owned (Some lease) mac e = (lease, refl, e)

owner_held : (t : Tables) → GoodRows (row_at t) → (mac : Mac) (address : Ip4) → owner_in t address ≡ Some mac → row_at t (key.Held mac) ≡ Some (row.Held address)
owner_held t g mac address e = let o = owned (lease_in t address) mac e in g.holder address o.0 mac (lease_row t address o.0 o.1) o.2

pub one_lease_a_modem : OneLeaseAModem
one_lease_a_modem t good mac one other p q =
    let g = good_rows t good.opens in
    let a = owner_held t g mac one p in
    let b = owner_held t g mac other q in
    cc

held_owner : (t : Tables) → GoodRows (row_at t) → (mac : Mac) (address : Ip4) → row_at t (key.Held mac) ≡ Some (row.Held address) → owner_in t address ≡ Some mac
held_owner t g mac address e =
    let o = g.owner mac address e in
    ap (option_and_then (λ (lease : Lease). owner_of lease.hold)) (row_lease t address o.lease o.there) ∙ o.owner

pub owners_hold : OwnersHold
owners_hold t good mac address =
    let g = good_rows t good.opens in
    (λ e. row_held t mac address (owner_held t g mac address e), λ e. held_owner t g mac address (held_row t mac address e))

-- pools that have an address in common are one
pub pools_are_apart : PoolsAreApart
pools_are_apart t good address n m pool other p q v w =
    let g = good_rows t good.opens in
    elim (or_cases (eqb m n) (not (overlaps pool other) && not (eqb other.relay.0 pool.relay.0)) (g.apart n pool m other (pool_row t n pool p) (pool_row t m other q))) as (λ c. n ≡ m) [
      | inl same ↦ sym (eqb-true m n same)
      | inr apart ↦
          let no_share = not-true (overlaps pool other) (and_parts (not (overlaps pool other)) (not (eqb other.relay.0 pool.relay.0)) apart).0 in
          let shared = share pool other address v w in
          cc
    ]

-- a key that has a row in good tables is read as of its kind
subscriber_read : (n : ℕ) (held : Row) → is_possible (key.Subscriber n) held ≡ true → is_some (as_subscriber held) ≡ true
subscriber_read n (row.Subscriber subscriber) h = refl
subscriber_read n held h = cc

class_read : (n : ℕ) (held : Row) → is_possible (key.Class n) held ≡ true → is_some (as_class held) ≡ true
class_read n (row.Class class) h = refl
class_read n held h = cc

site_read : (n : ℕ) (held : Row) → is_possible (key.Hub n) held ≡ true → is_some (as_site held) ≡ true
site_read n (row.Site site) h = refl
site_read n held h = cc

read_there : {A : Type 0} (f : Row → Option A) (o : Option Row) → is_some o ≡ true → ((held : Row) → o ≡ Some held → is_some (f held) ≡ true) → is_some (option_and_then f o) ≡ true
read_there f None there h = cc
read_there f (Some held) there h = h held refl

read_of : (t : Tables) → GoodRows (row_at t) → (q : Key) {A : Type 0} (f : Row → Option A) → ((held : Row) → is_possible q held ≡ true → is_some (f held) ≡ true) → Has (row_at t) q
    → is_some (option_and_then f (possible q (row_at t q))) ≡ true
read_of t g q f kind there =
    ap (λ (o : Option Row). is_some (option_and_then f o)) (seen_row t g.possible q) ∙ read_there f (row_at t q) there (λ held e. kind held (g.possible q held e))

pub modems_stand : ModemsStand
modems_stand t good mac modem e =
    let g = good_rows t good.opens in
    let at_row = modem_row t mac modem e in (
      read_of t g (key.Subscriber modem.subscriber) as_subscriber (subscriber_read modem.subscriber) (g.subscriber mac modem at_row),
      read_of t g (key.Class modem.class) as_class (class_read modem.class) (g.class mac modem at_row),
    )

some_row : (q : Key) {A : Type 0} (f : Row → Option A) (o : Option Row) (x : A) → option_and_then f (possible q o) ≡ Some x → (held : Row) × (o ≡ Some held)
some_row q f None x e = cc
some_row q f (Some held) x e = (held, refl)

pub add_ons_stand : AddOnsStand
add_ons_stand t good n number settings e =
    let g = good_rows t good.opens in
    let at_row = some_row (key.AddOn n number) as_add_on (row_at t (key.AddOn n number)) settings e in
    read_of t g (key.Subscriber n) as_subscriber (subscriber_read n) (g.add_on n number at_row.0 at_row.1)

-- in good tables the hub of an address is that of its pool
pub hub_of_pool : HubOfPool
hub_of_pool t good address n pool e w =
    let g = good_rows t good.opens in
    let all = pools_raw t g.possible in
    let i = subst (λ (ps : List (ℕ × Pool)). In (n, pool) ps) (sym all) (pool_in_raw t n pool (pool_row t n pool e)) in
    let f = some_found (λ (entry : ℕ × Pool). has_address entry.1 address) (pools t) (n, pool) i w in
    let there = raw_in_pool t f.0.0 f.0.1 (subst (λ (ps : List (ℕ × Pool)). In f.0 ps) all f.2) in
    let same = pools_are_apart t good address f.0.0 n f.0.1 pool (row_pool t g.possible f.0.0 f.0.1 there) e f.3 w in
    ap (option_map (λ (entry : ℕ × Pool). pool_hub_in t entry.0)) f.1 ∙ ap (λ m. Some (pool_hub_in t m)) same

no_old_site : (b : Bool) (o : Option Row) → o ≡ None → b && is_some o ≡ false
no_old_site true o e = ap is_some e
no_old_site false o e = refl

hub_is_there : (o s : Bool) → s ≡ false → o || s ≡ true → o ≡ true
hub_is_there true s off h = refl
hub_is_there false s off h = let both = off in cc

-- the hub of a leased address is there
site_there : (t : Tables) → Good t → (address : Ip4) (lease : Lease) → row_at t (key.Lease address) ≡ Some (row.Lease lease) → is_some (site_of t address) ≡ true
site_there t good address lease e =
    let g = good_rows t good.opens in
    let one = g.one_pool address lease e in
    let hub = hub_of_pool t good address one.number one.pool (row_pool t g.possible one.number one.pool one.there) one.within in
    let line = g.lease_hub address lease e one.number one.pool one.there one.within in
    let n = ap hub_in_row (seen_row t g.possible (key.PoolHub one.number)) in
    let there = hub_is_there _ _ (no_old_site (eqb (hub_at (row_at t) one.number) 0) (row_at t key.Site) good.no_site) line in
    ap (λ (o : Option ℕ). is_some (option_and_then (hub_in t) o)) hub ∙ ap (λ m. is_some (hub_in t m)) n
    ∙ read_of t g (key.Hub (hub_at (row_at t) one.number)) as_site (site_read (hub_at (row_at t) one.number)) there

pub leases_stand : LeasesStand
leases_stand t good address lease e =
    let g = good_rows t good.opens in
    let at_row = lease_row t address lease e in
    let one = g.one_pool address lease at_row in (
      site_there t good address lease at_row,
      record {
        number = one.number;
        pool = one.pool;
        there = row_pool t g.possible one.number one.pool one.there;
        within = one.within;
        only = λ m other p w. one.only m other (pool_row t m other p) w;
      },
    )

-- what is known of devices' leases
pub device_owned : (o : Option DeviceLease) (owner : Mac × Mac) → option_and_then (λ (lease : DeviceLease). device_owner lease.hold) o ≡ Some owner
    → (lease : DeviceLease) × (o ≡ Some lease) × (device_owner lease.hold ≡ Some owner)
device_owned None owner e = cc
device_owned (Some lease) owner e = (lease, refl, e)

pub one_address_a_device : OneAddressADevice
one_address_a_device t good one other owner e f =
    let g = good_rows t good.opens in
    let a = device_owned (device_in t one) owner e in
    let b = device_owned (device_in t other) owner f in
    g.devices.one_address one other a.0 b.0 owner (device_row t one a.0 a.1) (device_row t other b.0 b.1) a.2 b.2

pub devices_lie_in_a_pool : DevicesLieInAPool
devices_lie_in_a_pool t good address lease e =
    let g = good_rows t good.opens in
    let one = g.devices.one_pool address lease (device_row t address lease e) in
    record {
      number = one.number;
      pool = one.pool;
      there = row_device_pool t g.possible one.number one.pool one.there;
      within = one.within;
      only = λ m other p w. one.only m other (device_pool_row t m other p) w;
    }

pub pools_have_no_devices : PoolsHaveNoDevices
pools_have_no_devices t good address n pool there within = none (device_in t address) refl
  where
    none : (o : Option DeviceLease) → device_in t address ≡ o → o ≡ None
    none None e = refl
    none (Some lease) e =
        let g = good_rows t good.opens in
        let one = g.devices.one_pool address lease (device_row t address lease e) in
        let clear = g.devices.disjoint n pool one.number one.pool (pool_row t n pool there) one.there in
        let shared = share pool one.pool address within one.within in
        cc

-- what a test says
pub opening_have_no_bad_key : OpeningHaveNoBadKey
opening_have_no_bad_key t bad opens least =
    let keep = opens bad least.held least.there in
    let broken = least.breaks in
    cc

least_same : (t : Tables) (one other : Key) → IsLeastBad t one → IsLeastBad t other → one ≡ other
least_same t one other p q =
    elim (key_cmp one other) as (λ r. key_cmp one other ≡ r → one ≡ other) [
      | Less ↦ λ r. absurd (broken_not_kept t one p (q.least one r))
      | Equal ↦ λ r. key_exact one other r
      | Greater ↦ λ r. absurd (broken_not_kept t other q (p.least other (key_total.antisymm other one ∙ ap ordering_reverse r)))
    ] refl
  where
    broken_not_kept : (t : Tables) (bad : Key) → IsLeastBad t bad → Keeps t bad → ⊥
    broken_not_kept t bad p kept = let keep = kept p.held p.there in let broken = p.breaks in cc

pub one_judgement : OneJudgement
one_judgement t None None p q = refl
one_judgement t None (Some bad) p q = absurd (opening_have_no_bad_key t bad p q)
one_judgement t (Some bad) None p q = absurd (opening_have_no_bad_key t bad q p)
one_judgement t (Some one) (Some other) p q = ap Some (least_same t one other p q)

pub seen_as_they_stand : SeenAsTheyStand
seen_as_they_stand t good = let g = good_rows t good.opens in (seen_row t g.possible, pools_raw t g.possible, device_pools_raw t g.possible)
