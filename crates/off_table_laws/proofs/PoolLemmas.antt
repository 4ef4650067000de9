-- Good rows stay good where a pool is put or removed, and the leases that lose their pool by it are dropped with the rows of who holds them.
use Rattle.std.proofs.Common.{◌≡◌, ℕ, Bool, true, false, cond, not, eqb, leb, min, max, Option, Some, None, is_some, option_map, inl, inr, refl, sym, ap, ◌∙◌, arith}
use Rattle.std.proofs.lemmas.Bool.{and_parts, and_from, and_cases, or_left, or_right, eqb-false, ne_eqb, eq-eqb, eqb-true, leb-true, leb-false, le-leb, lt-leb, cases_eq, not_from_false, not-false}
use Rattle.std.specs.Ordering.{eq_by_cmp}
use Rattle.off_base.specs.declared.addresses.Ip4.{Ip4}
use Rattle.off_defs.specs.declared.keys.Key.{Key}
use Rattle.off_defs.specs.declared.keys.Key.TheVariants as key
use Rattle.off_defs.specs.declared.tables.Row.{Row}
use Rattle.off_defs.specs.declared.tables.Row.TheVariants as row
use Rattle.off_defs.specs.declared.tables.Pool.{Pool}
use Rattle.off_defs.specs.Keys.{key_cmp}
use Rattle.off_defs.proofs.TableLemmas.{same_key, own_key}
use Rattle.off_account_rules.specs.Rows.{is_possible, has_address, overlaps, pool_fits}
use Rattle.off_account_rules.specs.Good.{is_apart}
use Rattle.off_account_rules.specs.Changes.{gives_up}
use Rattle.off_table_laws.proofs.Rows.{Rows}
use Rattle.off_table_laws.proofs.GoodRows.{Has, OnePoolOf, hub_there, HubThere, hub_in_row, hub_at, GoodRows}

-- the rows where one is put or removed
abbrev pub set_row : Rows → Key → Option Row → Rows
set_row rows place new q = cond (eq_by_cmp key_cmp q place) new (rows q)

abbrev pub set_pool : Rows → ℕ → Option Pool → Rows
set_pool rows n new = set_row rows (key.Pool n) (option_map row.Pool new)

-- and where the pool's hub is named, which isn't where it's the hub 0
abbrev pub hub_kept : ℕ → Option Row
hub_kept hub = cond (eqb hub 0) None (Some (row.PoolHub hub))

abbrev pub set_hub : Rows → ℕ → ℕ → Rows
set_hub rows n hub = set_row rows (key.PoolHub n) (hub_kept hub)

abbrev pub set_both : Rows → ℕ → Option Pool → ℕ → Rows
set_both rows n new hub = set_hub (set_pool rows n new) n hub

-- the rows without the leases of lost addresses, and without the rows of who holds them
abbrev pub unless_lost : (Ip4 → Bool) → Option Row → Option Row
unless_lost lost (Some (row.Held address)) = cond (lost address) None (Some (row.Held address))
unless_lost lost o = o

abbrev pub without_lost : (Ip4 → Bool) → Rows → Rows
without_lost lost rows (key.Lease address) = cond (lost address) None (rows (key.Lease address))
without_lost lost rows (key.Held mac) = unless_lost lost (rows (key.Held mac))
without_lost lost rows q = rows q

-- what is left was there
pub kept : (b : Bool) (o : Option Row) (held : Row) → cond b None o ≡ Some held → (o ≡ Some held) × (b ≡ false)
kept true o held e = cc
kept false o held e = (e, refl)

kept_held : (lost : Ip4 → Bool) (o : Option Row) (held : Row) → unless_lost lost o ≡ Some held → o ≡ Some held
kept_held lost (Some (row.Held address)) held e = (kept (lost address) (Some (row.Held address)) held e).0
kept_held lost o held e = e

held_not_lost : (lost : Ip4 → Bool) (o : Option Row) (address : Ip4) → unless_lost lost o ≡ Some (row.Held address) → lost address ≡ false
held_not_lost lost (Some (row.Held other)) address e =
    let k = kept (lost other) (Some (row.Held other)) (row.Held address) e in
    let same : other ≡ address = let f = k.0 in cc in
    ap lost (sym same) ∙ k.1
held_not_lost lost o address e = cc

left_lost : (lost : Ip4 → Bool) (rows : Rows) (q : Key) (held : Row) → without_lost lost rows q ≡ Some held → rows q ≡ Some held
left_lost lost rows (key.Lease address) held e = (kept (lost address) (rows (key.Lease address)) held e).0
left_lost lost rows (key.Held mac) held e = kept_held lost (rows (key.Held mac)) held e
left_lost lost rows q held e = e

module _ (rows : Rows) (place : Key) (new : Option Row) where
  pub set_case : (q : Key) (held : Row) (P : Type 0) → set_row rows place new q ≡ Some held → (q ≡ place → new ≡ Some held → P) → ((q ≡ place → ⊥) → rows q ≡ Some held → P) → P
  set_case q held P e at_key other =
      elim (eq_by_cmp key_cmp q place) as (λ b. eq_by_cmp key_cmp q place ≡ b → cond b new (rows q) ≡ Some held → P) [
        | true ↦ λ t f. at_key (same_key q place t) f
        | false ↦ λ t f. other (λ same. let u : eq_by_cmp key_cmp q place ≡ true = ap (λ k. eq_by_cmp key_cmp k place) same ∙ own_key place in cc) f
      ] refl e

  pub set_here : set_row rows place new place ≡ new
  set_here = ap (λ b. cond b new (rows place)) (own_key place)

  pub set_other : (q : Key) → (q ≡ place → ⊥) → set_row rows place new q ≡ rows q
  set_other q apart =
      elim (eq_by_cmp key_cmp q place) as (λ b. eq_by_cmp key_cmp q place ≡ b → cond b new (rows q) ≡ rows q) [
        | true ↦ λ t. absurd (apart (same_key q place t))
        | false ↦ λ t. refl
      ] refl

-- a hub that is named isn't the hub 0
hub_named : (hub : ℕ) (held : Row) → hub_kept hub ≡ Some held → (held ≡ row.PoolHub hub) × (eqb hub 0 ≡ false)
hub_named hub held e =
    elim (eqb hub 0) as (λ b. cond b None (Some (row.PoolHub hub)) ≡ Some held → (held ≡ row.PoolHub hub) × (b ≡ false)) [
      | true ↦ λ f. cc
      | false ↦ λ f. (cc, refl)
    ] e

hub_kept_is : (hub : ℕ) → hub_in_row (hub_kept hub) ≡ hub
hub_kept_is hub =
    elim (eqb hub 0) as (λ b. eqb hub 0 ≡ b → hub_in_row (cond b None (Some (row.PoolHub hub))) ≡ hub) [
      | true ↦ λ e. sym (eqb-true hub 0 e)
      | false ↦ λ e. refl
    ] refl

pub pool_mapped : (new : Option Pool) (held : Row) → option_map row.Pool new ≡ Some held → (pool : Pool) × (new ≡ Some pool) × (row.Pool pool ≡ held)
pool_mapped None held e = cc
pool_mapped (Some pool) held e = (pool, refl, cc)

pub pool_same : (new : Option Pool) (pool : Pool) → option_map row.Pool new ≡ Some (row.Pool pool) → new ≡ Some pool
pool_same None pool e = cc
pool_same (Some other) pool e = cc

-- pools that have an address in common overlap, and either way round
pub share : (a b : Pool) (address : Ip4) → has_address a address ≡ true → has_address b address ≡ true → overlaps a b ≡ true
share a b address p q =
    let x = and_parts (leb a.first.0 address.0) (leb address.0 a.last.0) p in
    let y = and_parts (leb b.first.0 address.0) (leb address.0 b.last.0) q in
    let x0 = leb-true a.first.0 address.0 x.0 in
    let x1 = leb-true address.0 a.last.0 x.1 in
    let y0 = leb-true b.first.0 address.0 y.0 in
    let y1 = leb-true address.0 b.last.0 y.1 in
    le-leb (max a.first.0 b.first.0) (min a.last.0 b.last.0) (omega arith)

pub turned : (a b : Pool) → overlaps a b ≡ false → overlaps b a ≡ false
turned a b h =
    let l = leb-false (max a.first.0 b.first.0) (min a.last.0 b.last.0) h in
    lt-leb (max b.first.0 a.first.0) (min b.last.0 a.last.0) (omega arith)

pub eqb_turned : (a b : ℕ) → eqb a b ≡ false → eqb b a ≡ false
eqb_turned a b h = ne_eqb b a (λ e. eqb-false a b h (sym e))

-- another pool has no address and no relay in common with the new one
abbrev pub IsApartOf : (ℕ → Key) → Rows → ℕ → Pool → Type 0
IsApartOf place rows n pool =
    (m : ℕ) (other : Pool) → (m ≡ n → ⊥) → rows (place m) ≡ Some (row.Pool other) → (overlaps pool other ≡ false) × (eqb other.relay.0 pool.relay.0 ≡ false)

abbrev pub IsApart : Rows → ℕ → Pool → Type 0
IsApart rows n pool = IsApartOf key.Pool rows n pool

-- no pool of the other kind has an address of it
abbrev pub IsClearOf : (ℕ → Key) → Rows → Pool → Type 0
IsClearOf place rows pool = (m : ℕ) (other : Pool) → rows (place m) ≡ Some (row.Pool other) → overlaps pool other ≡ false

pub both_apart : (n : ℕ) (pool : Pool) (m : ℕ) (other : Pool) → overlaps pool other ≡ false → eqb other.relay.0 pool.relay.0 ≡ false → is_apart n pool (m, other) ≡ true
both_apart n pool m other a b = or_right _ _ (and_from _ _ (not_from_false (overlaps pool other) a) (not_from_false (eqb other.relay.0 pool.relay.0) b))

-- an address that isn't given up is in the new pool
pub stays_within : (old : Pool) (new : Option Pool) (address : Ip4) → has_address old address ≡ true → gives_up (Some old) new address ≡ false
    → (pool : Pool) × (new ≡ Some pool) × (has_address pool address ≡ true)
stays_within old None address h g = cc
stays_within old (Some pool) address h g = (
  pool,
  refl,
  elim (and_cases (has_address old address) (not (has_address pool address)) g) as (λ c. has_address pool address ≡ true) [
    | inl is ↦ cc
    | inr is ↦ not-false (has_address pool address) is
  ],
)

some_new : (new : Option Pool) (hub : ℕ) → (new ≡ None → hub ≡ 0) → eqb hub 0 ≡ false → (pool : Pool) × (new ≡ Some pool)
some_new None hub unnamed not_0 = absurd (eqb-false hub 0 not_0 (unnamed refl))
some_new (Some pool) hub unnamed not_0 = (pool, refl)

-- pools of one kind, where one of them is put or removed: they stay apart, and an address that isn't given up lies in one pool
module _ (place : ℕ → Key) (numbered : (m n : ℕ) → place m ≡ place n → m ≡ n) (rows : Rows) (n : ℕ) (new : Option Pool) where
  abbrev changed : Rows
  changed = set_row rows (place n) (option_map row.Pool new)

  pub apart_set : ((pool : Pool) → new ≡ Some pool → IsApartOf place rows n pool)
      → ((k : ℕ) (pool : Pool) (m : ℕ) (other : Pool) → rows (place k) ≡ Some (row.Pool pool) → rows (place m) ≡ Some (row.Pool other) → is_apart k pool (m, other) ≡ true)
      → (k : ℕ) (pool : Pool) (m : ℕ) (other : Pool) → changed (place k) ≡ Some (row.Pool pool) → changed (place m) ≡ Some (row.Pool other) → is_apart k pool (m, other) ≡ true
  apart_set apart were k pool m other e f =
      set_case rows (place n) (option_map row.Pool new) (place k) (row.Pool pool) (is_apart k pool (m, other) ≡ true) e
      (λ is e. set_case rows (place n) (option_map row.Pool new) (place m) (row.Pool other) (is_apart k pool (m, other) ≡ true) f
      (λ too f. or_left _ _ (eq-eqb m k (numbered m n too ∙ sym (numbered k n is))))
      (λ away f. let a = apart pool (pool_same new pool e) m other (λ same. away (ap place same)) f in both_apart k pool m other a.0 a.1))
      (λ away e. set_case rows (place n) (option_map row.Pool new) (place m) (row.Pool other) (is_apart k pool (m, other) ≡ true) f
      (λ too f. let a = apart other (pool_same new other f) k pool (λ same. away (ap place same)) e in
      both_apart k pool m other (turned other pool a.0) (eqb_turned pool.relay.0 other.relay.0 a.1))
      (λ _ f. were k pool m other e f))

  pub one_pool_set : (old : Option Pool) → ((pool : Pool) → rows (place n) ≡ Some (row.Pool pool) → old ≡ Some pool) → ((pool : Pool) → new ≡ Some pool → IsApartOf place rows n pool)
      → (address : Ip4) → gives_up old new address ≡ false → OnePoolOf place rows address → OnePoolOf place changed address
  one_pool_set old was apart address stays one =
      elim (cases_eq one.number n) as (λ c. OnePoolOf place changed address) [
        | inl is ↦
            let there : rows (place n) ≡ Some (row.Pool one.pool) = ap (λ m. rows (place m)) (sym is) ∙ one.there in
            let p = stays_within one.pool new address one.within (ap (λ o. gives_up o new address) (sym (was one.pool there)) ∙ stays) in
            record {
              number = n;
              pool = p.0;
              there = set_here rows (place n) (option_map row.Pool new) ∙ ap (option_map row.Pool) p.1;
              within = p.2;
              only = λ m other f w. set_case rows (place n) (option_map row.Pool new) (place m) (row.Pool other) (m ≡ n) f (λ same _. numbered m n same) (λ _ f. one.only m other f w ∙ is);
            }
        | inr away ↦
            record {
              number = one.number;
              pool = one.pool;
              there = set_other rows (place n) (option_map row.Pool new) (place one.number) (λ same. away (numbered one.number n same)) ∙ one.there;
              within = one.within;
              only = λ m other f w. set_case rows (place n) (option_map row.Pool new) (place m) (row.Pool other) (m ≡ one.number) f
                  (λ same h. let a = apart other (pool_same new other h) one.number one.pool away one.there in
                  let s = share other one.pool address w one.within in
                  let b = a.0 in
                  cc)
                  (λ _ f. one.only m other f w);
            }
      ]

pub pool_numbered : (m n : ℕ) → key.Pool m ≡ key.Pool n → m ≡ n
pool_numbered m n e = cc

pub device_pool_numbered : (m n : ℕ) → key.DevicePool m ≡ key.DevicePool n → m ≡ n
device_pool_numbered m n e = cc

module _ (rows : Rows) (g : GoodRows rows) (n : ℕ) (old new : Option Pool) (hub : ℕ) where
  pub pool_changed : ((pool : Pool) → rows (key.Pool n) ≡ Some (row.Pool pool) → old ≡ Some pool)
      → ((pool : Pool) → new ≡ Some pool → pool_fits pool ≡ true)
      → ((pool : Pool) → new ≡ Some pool → IsApart rows n pool)
      → ((pool : Pool) → new ≡ Some pool → IsClearOf key.DevicePool rows pool)
      → ((pool : Pool) → new ≡ Some pool → HubThere rows hub)
      → (new ≡ None → hub ≡ 0)
      → rows key.Site ≡ None
      → GoodRows (without_lost (gives_up old new) (set_both rows n new hub))
  pool_changed was fits apart clear there_is unnamed no_site =
      let lost : Ip4 → Bool = gives_up old new in
      let pooled : Rows = set_pool rows n new in
      let set : Rows = set_both rows n new hub in
      record {
        possible = λ q held e.
            set_case pooled (key.PoolHub n) (hub_kept hub) q held (is_possible q held ≡ true) (left_lost lost set q held e)
            (λ is f. let p = hub_named hub held f in ap (λ k. is_possible k held) is ∙ ap (is_possible (key.PoolHub n)) p.0 ∙ ap not p.1)
            (λ _ e. set_case rows (key.Pool n) (option_map row.Pool new) q held (is_possible q held ≡ true) e
            (λ is f. let p = pool_mapped new held f in ap (λ k. is_possible k held) is ∙ ap (is_possible (key.Pool n)) (sym p.2) ∙ fits p.0 p.1)
            (λ _ f. g.possible q held f));
        add_on = g.add_on;
        subscriber = g.subscriber;
        class = g.class;
        apart = apart_set key.Pool pool_numbered rows n new apart g.apart;
        site_alone = λ held e m. let f : rows key.Site ≡ Some held = e in cc;
        pool_hub = λ m other e.
            set_case pooled (key.PoolHub n) (hub_kept hub) (key.PoolHub m) (row.PoolHub other) (Has set (key.Pool m) × HubThere set other) e
            (λ is f.
            let p = hub_named hub (row.PoolHub other) f in
            let same : other ≡ hub = let q = p.0 in cc in
            let here : m ≡ n = cc in
            let pool = some_new new hub unnamed p.1 in (
              ap (λ k. is_some (set_pool rows n new (key.Pool k))) here ∙ ap is_some (set_here rows (key.Pool n) (option_map row.Pool new)) ∙ ap (λ o. is_some (option_map row.Pool o)) pool.1,
              ap (hub_there rows) same ∙ there_is pool.0 pool.1,
            ))
            (λ away f. let p = g.pool_hub m other f in (ap is_some (set_other rows (key.Pool n) (option_map row.Pool new) (key.Pool m) (λ is. away (let k : m ≡ n = cc in ap key.PoolHub k))) ∙ p.0, p.1));
        lease_hub = λ address lease e m pool f w.
            let k = kept (lost address) (rows (key.Lease address)) (row.Lease lease) e in
            set_case rows (key.Pool n) (option_map row.Pool new) (key.Pool m) (row.Pool pool) (HubThere set (hub_at set m)) f
            (λ is h.
            let here : m ≡ n = cc in
            ap (λ x. hub_there rows (hub_at set x)) here ∙ ap (λ o. hub_there rows (hub_in_row o)) (set_here pooled (key.PoolHub n) (hub_kept hub)) ∙ ap (hub_there rows) (hub_kept_is hub)
            ∙ there_is pool (pool_same new pool h))
            (λ away h.
            ap (λ o. hub_there rows (hub_in_row o)) (set_other pooled (key.PoolHub n) (hub_kept hub) (key.PoolHub m) (λ is. away (let k : m ≡ n = cc in ap key.Pool k)))
            ∙ g.lease_hub address lease k.0 m pool h w);
        one_pool = λ address lease e.
            let k = kept (lost address) (rows (key.Lease address)) (row.Lease lease) e in
            let one = g.one_pool address lease k.0 in
            one_pool_set key.Pool pool_numbered rows n new old was apart address k.1 one;
        holder = λ address lease mac e o.
            let k = kept (lost address) (rows (key.Lease address)) (row.Lease lease) e in
            ap (unless_lost lost) (g.holder address lease mac k.0 o) ∙ ap (λ b. cond b None (Some (row.Held address))) k.1;
        owner = λ mac address e.
            let there = kept_held lost (rows (key.Held mac)) (row.Held address) e in
            let stays = held_not_lost lost (rows (key.Held mac)) address e in
            let o = g.owner mac address there in
            record {
              lease = o.lease;
              there = ap (λ b. cond b None (rows (key.Lease address))) stays ∙ o.there;
              owner = o.owner;
            };
        devices = record {
          disjoint = λ k pool m other e f. set_case rows (key.Pool n) (option_map row.Pool new) (key.Pool k) (row.Pool pool) (overlaps pool other ≡ false) e
              (λ is h. clear pool (pool_same new pool h) m other f)
              (λ _ h. g.devices.disjoint k pool m other h f);
          apart = g.devices.apart;
          one_pool = g.devices.one_pool;
          one_address = g.devices.one_address;
        };
      }
