-- A message leaves good tables good.
use Rattle.std.proofs.Common.{◌≡◌, ℕ, true, false, ◌&&◌, ◌||◌, eqb, Option, Some, None, is_some, is_none, option_and_then, inl, inr, refl, sym, ap, subst, ◌∙◌, arith}
use Rattle.std.proofs.lemmas.Bool.{or_left}
use Rattle.off_base.specs.declared.addresses.Ip4.{Ip4}
use Rattle.off_base.specs.declared.macs.Mac.{Mac}
use Rattle.off_defs.specs.declared.keys.Key.{Key}
use Rattle.off_defs.specs.declared.keys.Key.TheVariants as key
use Rattle.off_defs.specs.declared.tables.Row.TheVariants as row
use Rattle.off_defs.specs.declared.tables.Pool.{Pool}
use Rattle.off_defs.specs.declared.tables.Lease.{Lease}
use Rattle.off_defs.specs.Kinds.{kind_of}
use Rattle.off_defs.specs.State.{Tables}
use Rattle.off_defs.specs.Tables.{row_at, write_all}
use Rattle.off_dhcp.specs.Datagram.{Received}
use Rattle.off_account_rules.specs.Rows.{as_site, hub_in, pool_hub_in, lease_in, held_in, has_address}
use Rattle.off_account_rules.specs.Good.{owner_of, Good}
use Rattle.off_table_laws.proofs.GoodRows.{Has, hub_there, HubThere, hub_in_row, hub_at, OnePool, OwnedBy, DevicesStand, GoodRows}
use Rattle.off_table_laws.proofs.Judging.{good_rows, good_tables}
use Rattle.off_table_laws.proofs.Reading.{seen_row, lease_row, held_row, pool_row, row_lease, row_held, row_pool, has_read}
use Rattle.off_table_laws.proofs.TableLaws.{owners_hold, pools_are_apart, owned}
use Rattle.off_asking.specs.Asking.{client}
use Rattle.off_lease_rules.specs.Steps.{lease_step}
use Rattle.off_lease_laws.specs.Moves.{HoldersAgree, LiesInAPool, Moved}
use Rattle.off_lease_laws.proofs.Tests.{ip_or, some_or}
use Rattle.off_lease_laws.proofs.AgreeLemmas.{changes_agree, messages_move}
use Rattle.off_lease_laws.proofs.KindLemmas.{others_stay, stays_possible}

pub good_agree : (t : Tables) → Good t → HoldersAgree t
good_agree t good mac address = owners_hold t good mac address

not_none : {A : Type 0} (o : Option A) → is_some o ≡ true → is_none o ≡ false
not_none None e = cc
not_none (Some x) e = refl

module _ (t : Tables) (now : ℕ) (m : Received) (good : Good t) (moved : Moved now (client m) t (write_all t (lease_step t now m).writes)) where
  abbrev u : Tables
  u = write_all t (lease_step t now m).writes

  g : GoodRows (row_at t)
  g = good_rows t good.opens

  agree : HoldersAgree u
  agree = changes_agree (client m) moved.address t u moved.changes (good_agree t good)

  other : (q : Key) → (kind_of q ≡ 7 → ⊥) → (kind_of q ≡ 8 → ⊥) → row_at u q ≡ row_at t q
  other q a b = others_stay t now m q a b

  has_other : (q : Key) → (kind_of q ≡ 7 → ⊥) → (kind_of q ≡ 8 → ⊥) → Has (row_at t) q → Has (row_at u) q
  has_other q a b h = ap is_some (other q a b) ∙ h

  -- the one pool of an address, before and after
  held_pool : held_in t (client m) ≡ Some moved.address → OnePool (row_at t) moved.address
  held_pool h =
      let o = owned (lease_in t moved.address) (client m) ((good_agree t good (client m) moved.address).1 h) in
      g.one_pool moved.address o.0 (lease_row t moved.address o.0 o.1)

  only_pool : (address : Ip4) → LiesInAPool t address → OnePool (row_at t) address
  only_pool address lies = record {
    number = lies.number;
    pool = lies.pool;
    there = pool_row t lies.number lies.pool lies.there;
    within = lies.within;
    only = λ n pool e w. pools_are_apart t good address n lies.number pool lies.pool (row_pool t g.possible n pool e) lies.there w lies.within;
  }

  here_pool : OnePool (row_at t) moved.address
  here_pool = elim moved.was_open as (λ s. OnePool (row_at t) moved.address) [ inl held ↦ held_pool held | inr open_ ↦ only_pool moved.address open_.1 ]

  -- a lease at another address stood there before
  before : (address : Ip4) (lease : Lease) → (address ≡ moved.address → ⊥) → lease_in u address ≡ Some lease → lease_in t address ≡ Some lease
  before address lease apart e =
      elim (some_or ip_or (held_in t (client m)) address) as (λ s. lease_in t address ≡ Some lease) [
        | inl held ↦ let none = moved.changes.left address apart held in cc
        | inr differs ↦ sym (moved.changes.other_leases address apart differs) ∙ e
      ]

  pool_before : (address : Ip4) (lease : Lease) → lease_in u address ≡ Some lease → OnePool (row_at t) address
  pool_before address lease e =
      elim (ip_or address moved.address) as (λ s. OnePool (row_at t) address) [
        | inl same ↦ subst (OnePool (row_at t)) (sym same) here_pool
        | inr apart ↦ g.one_pool address lease (lease_row t address lease (before address lease apart e))
      ]

  -- so has the hub of a leased address
  hub_after : (h : ℕ) → HubThere (row_at t) h → HubThere (row_at u) h
  hub_after h there =
      ap (λ o. is_some o || (eqb h 0 && is_some (row_at u key.Site))) (other (key.Hub h) (λ e. omega (arith, e)) (λ e. omega (arith, e)))
      ∙ ap (λ o. is_some (row_at t (key.Hub h)) || (eqb h 0 && is_some o)) (other key.Site (λ e. omega (arith, e)) (λ e. omega (arith, e)))
      ∙ there

  held_hub : (n : ℕ) (pool : Pool) → row_at t (key.Pool n) ≡ Some (row.Pool pool) → has_address pool moved.address ≡ true → held_in t (client m) ≡ Some moved.address → HubThere (row_at t) (hub_at (row_at t) n)
  held_hub n pool there w h =
      let o = owned (lease_in t moved.address) (client m) ((good_agree t good (client m) moved.address).1 h) in
      g.lease_hub moved.address o.0 (lease_row t moved.address o.0 o.1) n pool there w

  open_hub : (n : ℕ) (pool : Pool) → row_at t (key.Pool n) ≡ Some (row.Pool pool) → has_address pool moved.address ≡ true → LiesInAPool t moved.address → HubThere (row_at t) (hub_at (row_at t) n)
  open_hub n pool there w lies =
      let same : n ≡ lies.number = pools_are_apart t good moved.address n lies.number pool lies.pool (row_pool t g.possible n pool there) lies.there w lies.within in
      let read = ap hub_in_row (seen_row t g.possible (key.PoolHub lies.number)) in
      or_left _ _ (ap (λ k. is_some (row_at t (key.Hub (hub_at (row_at t) k)))) same ∙ ap (λ k. is_some (row_at t (key.Hub k))) (sym read)
      ∙ has_read t (key.Hub (pool_hub_in t lies.number)) as_site (not_none (hub_in t (pool_hub_in t lies.number)) lies.hub_is))

  here_hub : (n : ℕ) (pool : Pool) → row_at t (key.Pool n) ≡ Some (row.Pool pool) → has_address pool moved.address ≡ true → HubThere (row_at t) (hub_at (row_at t) n)
  here_hub n pool there w = elim moved.was_open as (λ s. HubThere (row_at t) (hub_at (row_at t) n)) [ inl held ↦ held_hub n pool there w held | inr open_ ↦ open_hub n pool there w open_.1 ]

  hub_before : (address : Ip4) (lease : Lease) → lease_in u address ≡ Some lease → (n : ℕ) (pool : Pool) → row_at t (key.Pool n) ≡ Some (row.Pool pool) → has_address pool address ≡ true
      → HubThere (row_at t) (hub_at (row_at t) n)
  hub_before address lease e n pool there w =
      elim (ip_or address moved.address) as (λ s. HubThere (row_at t) (hub_at (row_at t) n)) [
        | inl same ↦ here_hub n pool there (ap (has_address pool) (sym same) ∙ w)
        | inr apart ↦ g.lease_hub address lease (lease_row t address lease (before address lease apart e)) n pool there w
      ]

  pool_after : (address : Ip4) → OnePool (row_at t) address → OnePool (row_at u) address
  pool_after address p = record {
    number = p.number;
    pool = p.pool;
    there = other (key.Pool p.number) (λ e. omega (arith, e)) (λ e. omega (arith, e)) ∙ p.there;
    within = p.within;
    only = λ n pool e w. p.only n pool (sym (other (key.Pool n) (λ e. omega (arith, e)) (λ e. omega (arith, e))) ∙ e) w;
  }

  holder_after : (address : Ip4) (lease : Lease) (mac : Mac) → row_at u (key.Lease address) ≡ Some (row.Lease lease) → owner_of lease.hold ≡ Some mac → row_at u (key.Held mac) ≡ Some (row.Held address)
  holder_after address lease mac e o =
      held_row u mac address ((agree mac address).0 (ap (option_and_then (λ (l : Lease). owner_of l.hold)) (row_lease u address lease e) ∙ o))

  owner_after : (mac : Mac) (address : Ip4) → row_at u (key.Held mac) ≡ Some (row.Held address) → OwnedBy (row_at u) mac address
  owner_after mac address e =
      let o = owned (lease_in u address) mac ((agree mac address).1 (row_held u mac address e)) in
      record { lease = o.0; there = lease_row u address o.0 o.1; owner = o.2 }

  devices_after : DevicesStand (row_at u)
  devices_after = record {
    disjoint = λ n pool k another e f.
        g.devices.disjoint n pool k another (sym (other (key.Pool n) (λ e. omega (arith, e)) (λ e. omega (arith, e))) ∙ e)
        (sym (other (key.DevicePool k) (λ e. omega (arith, e)) (λ e. omega (arith, e))) ∙ f);
    apart = λ n pool k another e f.
        g.devices.apart n pool k another (sym (other (key.DevicePool n) (λ e. omega (arith, e)) (λ e. omega (arith, e))) ∙ e)
        (sym (other (key.DevicePool k) (λ e. omega (arith, e)) (λ e. omega (arith, e))) ∙ f);
    one_pool = λ address lease e.
        let one = g.devices.one_pool address lease (sym (other (key.Device address) (λ e. omega (arith, e)) (λ e. omega (arith, e))) ∙ e) in
        record {
          number = one.number;
          pool = one.pool;
          there = other (key.DevicePool one.number) (λ e. omega (arith, e)) (λ e. omega (arith, e)) ∙ one.there;
          within = one.within;
          only = λ n pool e w. one.only n pool (sym (other (key.DevicePool n) (λ e. omega (arith, e)) (λ e. omega (arith, e))) ∙ e) w;
        };
    one_address = λ one another lease left owner e f own also.
        g.devices.one_address one another lease left owner (sym (other (key.Device one) (λ e. omega (arith, e)) (λ e. omega (arith, e))) ∙ e)
        (sym (other (key.Device another) (λ e. omega (arith, e)) (λ e. omega (arith, e))) ∙ f) own also;
  }

  moved_rows : GoodRows (row_at u)
  moved_rows = record {
    possible = stays_possible t now m g.possible;
    add_on = λ n k held e.
        has_other (key.Subscriber n) (λ e. omega (arith, e)) (λ e. omega (arith, e))
        (g.add_on n k held (sym (other (key.AddOn n k) (λ e. omega (arith, e)) (λ e. omega (arith, e))) ∙ e));
    subscriber = λ mac modem e.
        has_other (key.Subscriber modem.subscriber) (λ e. omega (arith, e)) (λ e. omega (arith, e))
        (g.subscriber mac modem (sym (other (key.Modem mac) (λ e. omega (arith, e)) (λ e. omega (arith, e))) ∙ e));
    class = λ mac modem e.
        has_other (key.Class modem.class) (λ e. omega (arith, e)) (λ e. omega (arith, e))
        (g.class mac modem (sym (other (key.Modem mac) (λ e. omega (arith, e)) (λ e. omega (arith, e))) ∙ e));
    apart = λ n pool k another e f.
        g.apart n pool k another (sym (other (key.Pool n) (λ e. omega (arith, e)) (λ e. omega (arith, e))) ∙ e)
        (sym (other (key.Pool k) (λ e. omega (arith, e)) (λ e. omega (arith, e))) ∙ f);
    site_alone = λ held e n.
        let alone = g.site_alone held (sym (other key.Site (λ e. omega (arith, e)) (λ e. omega (arith, e))) ∙ e) n in
        (other (key.Hub n) (λ e. omega (arith, e)) (λ e. omega (arith, e)) ∙ alone.0, other (key.PoolHub n) (λ e. omega (arith, e)) (λ e. omega (arith, e)) ∙ alone.1);
    pool_hub = λ n hub e.
        let p = g.pool_hub n hub (sym (other (key.PoolHub n) (λ e. omega (arith, e)) (λ e. omega (arith, e))) ∙ e) in
        (has_other (key.Pool n) (λ e. omega (arith, e)) (λ e. omega (arith, e)) p.0, hub_after hub p.1);
    lease_hub = λ address lease e n pool f w.
        ap (λ o. hub_there (row_at u) (hub_in_row o)) (other (key.PoolHub n) (λ e. omega (arith, e)) (λ e. omega (arith, e)))
        ∙ hub_after (hub_at (row_at t) n) (hub_before address lease (row_lease u address lease e) n pool (sym (other (key.Pool n) (λ e. omega (arith, e)) (λ e. omega (arith, e))) ∙ f) w);
    one_pool = λ address lease e. pool_after address (pool_before address lease (row_lease u address lease e));
    holder = holder_after;
    owner = owner_after;
    devices = devices_after;
  }

  pub moved_good : Good u
  moved_good = record {
    opens = good_tables u moved_rows;
    no_site = other key.Site (λ e. omega (arith, e)) (λ e. omega (arith, e)) ∙ good.no_site;
  }

pub good_stays : (t : Tables) (now : ℕ) (m : Received) → Good t → Good (write_all t (lease_step t now m).writes)
good_stays t now m good =
    elim (messages_move t now m (good_agree t good)) as (λ s. Good (write_all t (lease_step t now m).writes)) [
      | inl same ↦ subst Good (sym same) good
      | inr moved ↦ moved_good t now m good moved
    ]
