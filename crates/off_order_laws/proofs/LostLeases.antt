-- The writes that drop lost leases leave the rows without them.
use Rattle.std.proofs.Common.{◌≡◌, ℕ, Bool, true, false, cond, ◌||◌, Option, Some, None, List, [], ◌∷◌, ◌++◌, refl, sym, ap, subst, ◌∙◌}
use Rattle.std.proofs.lemmas.Bool.{false_from_ne_true}
use Rattle.std.specs.List.{flat_map, list_any}
use Rattle.std.specs.Ordering.{eq_by_cmp}
use Rattle.std.specs.FinMap as map
use Rattle.off_base.specs.declared.addresses.Ip4.{Ip4}
use Rattle.off_base.specs.declared.macs.Mac.{Mac}
use Rattle.off_defs.specs.declared.keys.Key.{Key}
use Rattle.off_defs.specs.declared.keys.Key.TheVariants as key
use Rattle.off_defs.specs.declared.tables.Row.{Row}
use Rattle.off_defs.specs.declared.tables.Row.TheVariants as row
use Rattle.off_defs.specs.declared.tables.Pool.{Pool}
use Rattle.off_defs.specs.declared.tables.Lease.{Lease}
use Rattle.off_defs.specs.declared.writes.Write.{Write}
use Rattle.off_defs.specs.declared.writes.Write.TheVariants.{Put, Drop}
use Rattle.off_defs.specs.Keys.{key_cmp}
use Rattle.off_defs.specs.State.{Tables}
use Rattle.off_defs.specs.Tables.{row_at}
use Rattle.off_defs.proofs.TableLemmas.{same_key, own_key}
use Rattle.off_account_rules.specs.Rows.{lease_of, leases, pool_in}
use Rattle.off_account_rules.specs.Good.{owner_of}
use Rattle.off_account_rules.specs.Changes.{gives_up, held_drop}
use Rattle.off_orders.specs.Clerk.{lost_leases, lease_drops}
use Rattle.off_table_laws.proofs.ListLemmas.{In, in_any, any_none, kept_in, in_kept, in_made, made_in}
use Rattle.off_table_laws.proofs.EntryRows.{row_in, in_row}
use Rattle.off_table_laws.proofs.Rows.{Rows, drop_row, rows_after}
use Rattle.off_table_laws.proofs.GoodRows.{GoodRows}
use Rattle.off_table_laws.proofs.PoolLemmas.{set_both, unless_lost, without_lost}

pub rows_append : (rows : Rows) (one other : List Write) → rows_after rows (one ++ other) ≡ rows_after (rows_after rows one) other
rows_append rows [] other = refl
rows_append rows (Put q held ∷ one) other = rows_append (λ k. cond (eq_by_cmp key_cmp k q) (Some held) (rows k)) one other
rows_append rows (Drop q ∷ one) other = rows_append (drop_row rows q) one other

-- the leases of the list are the rows of leases
lease_made : (q : Key) (held : Row) (address : Ip4) (lease : Lease) → lease_of (q, held) ≡ Some (address, lease) → (q ≡ key.Lease address) × (held ≡ row.Lease lease)
lease_made (key.Lease a) (row.Lease l) address lease e =
    let pair : (a, l) ≡ (address, lease) = cc in
    (ap (λ (p : Ip4 × Lease). key.Lease p.0) pair, ap (λ (p : Ip4 × Lease). row.Lease p.1) pair)
lease_made q held address lease e = cc

pub lease_in_all : (t : Tables) (address : Ip4) (lease : Lease) → row_at t (key.Lease address) ≡ Some (row.Lease lease) → In (address, lease) (leases t)
lease_in_all t address lease e = in_made lease_of (map.entries t) (key.Lease address, row.Lease lease) (address, lease) (row_in t (key.Lease address) (row.Lease lease) e) refl

pub all_in_lease : (t : Tables) (address : Ip4) (lease : Lease) → In (address, lease) (leases t) → row_at t (key.Lease address) ≡ Some (row.Lease lease)
all_in_lease t address lease i =
    let m = made_in lease_of (map.entries t) (address, lease) i in
    let parts = lease_made m.0.0 m.0.1 address lease m.2 in
    subst (λ (q : Key). row_at t q ≡ Some (row.Lease lease)) parts.0 (in_row t m.0.0 m.0.1 m.1 ∙ ap Some parts.1)

-- what the drops of leases leave of a key
is_of : Ip4 → Ip4 × Lease → Bool
is_of address entry = eq_by_cmp key_cmp (key.Lease address) (key.Lease entry.0)

is_owner : Mac → Option Mac → Bool
is_owner mac None = false
is_owner mac (Some other) = eq_by_cmp key_cmp (key.Held mac) (key.Held other)

is_by : Mac → Ip4 × Lease → Bool
is_by mac entry = is_owner mac (owner_of entry.1.hold)

unfoldable pub is_other : Key → Bool
is_other (key.Lease address) = false
is_other (key.Held mac) = false
is_other q = true

step_other : (rows : Rows) (address : Ip4) (owner : Option Mac) (q : Key) → is_other q ≡ true → rows_after (drop_row rows (key.Lease address)) (held_drop owner) q ≡ rows q
unfolding is_other
step_other rows address owner (key.Lease a) h = cc
step_other rows address owner (key.Held mac) h = cc
step_other rows address None q h = refl
step_other rows address (Some mac) q h = refl

pub drops_other : (rows : Rows) (es : List (Ip4 × Lease)) (q : Key) → is_other q ≡ true → rows_after rows (flat_map lease_drops es) q ≡ rows q
drops_other rows [] q h = refl
drops_other rows (e ∷ es) q h =
    ap (λ (r : Rows). r q) (rows_append (drop_row rows (key.Lease e.0)) (held_drop (owner_of e.1.hold)) (flat_map lease_drops es))
    ∙ drops_other (rows_after (drop_row rows (key.Lease e.0)) (held_drop (owner_of e.1.hold))) es q h
    ∙ step_other rows e.0 (owner_of e.1.hold) q h

pub or_none : (a b : Bool) (o : Option Row) → cond b None (cond a None o) ≡ cond (a || b) None o
or_none true true o = refl
or_none true false o = refl
or_none false b o = refl

pub none_either : (b : Bool) → ◌≡◌ {A = Option Row} (cond b None None) None
none_either true = refl
none_either false = refl

step_lease : (rows : Rows) (b : Ip4) (owner : Option Mac) (address : Ip4)
    → rows_after (drop_row rows (key.Lease b)) (held_drop owner) (key.Lease address) ≡ cond (eq_by_cmp key_cmp (key.Lease address) (key.Lease b)) None (rows (key.Lease address))
step_lease rows b None address = refl
step_lease rows b (Some mac) address = refl

drops_lease : (rows : Rows) (es : List (Ip4 × Lease)) (address : Ip4)
    → rows_after rows (flat_map lease_drops es) (key.Lease address) ≡ cond (list_any (is_of address) es) None (rows (key.Lease address))
unfolding is_of
drops_lease rows [] address = refl
drops_lease rows (e ∷ es) address =
    ap (λ (r : Rows). r (key.Lease address)) (rows_append (drop_row rows (key.Lease e.0)) (held_drop (owner_of e.1.hold)) (flat_map lease_drops es))
    ∙ drops_lease (rows_after (drop_row rows (key.Lease e.0)) (held_drop (owner_of e.1.hold))) es address
    ∙ ap (λ (o : Option Row). cond (list_any (is_of address) es) None o) (step_lease rows e.0 (owner_of e.1.hold) address)
    ∙ or_none (is_of address e) (list_any (is_of address) es) (rows (key.Lease address))

step_held : (rows : Rows) (b : Ip4) (owner : Option Mac) (mac : Mac)
    → rows_after (drop_row rows (key.Lease b)) (held_drop owner) (key.Held mac) ≡ cond (is_owner mac owner) None (rows (key.Held mac))
unfolding is_owner
step_held rows b None mac = refl
step_held rows b (Some other) mac = refl

drops_held : (rows : Rows) (es : List (Ip4 × Lease)) (mac : Mac)
    → rows_after rows (flat_map lease_drops es) (key.Held mac) ≡ cond (list_any (is_by mac) es) None (rows (key.Held mac))
unfolding is_by
drops_held rows [] mac = refl
drops_held rows (e ∷ es) mac =
    ap (λ (r : Rows). r (key.Held mac)) (rows_append (drop_row rows (key.Lease e.0)) (held_drop (owner_of e.1.hold)) (flat_map lease_drops es))
    ∙ drops_held (rows_after (drop_row rows (key.Lease e.0)) (held_drop (owner_of e.1.hold))) es mac
    ∙ ap (λ (o : Option Row). cond (list_any (is_by mac) es) None o) (step_held rows e.0 (owner_of e.1.hold) mac)
    ∙ or_none (is_by mac e) (list_any (is_by mac) es) (rows (key.Held mac))

is_of_same : (address : Ip4) (entry : Ip4 × Lease) → is_of address entry ≡ true → address ≡ entry.0
unfolding is_of
is_of_same address entry e = let k = same_key (key.Lease address) (key.Lease entry.0) e in cc

is_of_own : (address : Ip4) (lease : Lease) → is_of address (address, lease) ≡ true
unfolding is_of
is_of_own address lease = own_key (key.Lease address)

owner_same : (mac : Mac) (o : Option Mac) → is_owner mac o ≡ true → o ≡ Some mac
unfolding is_owner
owner_same mac None e = cc
owner_same mac (Some other) e = let k = same_key (key.Held mac) (key.Held other) e in cc

is_by_own : (mac : Mac) (address : Ip4) (lease : Lease) → owner_of lease.hold ≡ Some mac → is_by mac (address, lease) ≡ true
unfolding is_by is_owner
is_by_own mac address lease o = ap (is_owner mac) o ∙ own_key (key.Held mac)

is_by_same : (mac : Mac) (entry : Ip4 × Lease) → is_by mac entry ≡ true → owner_of entry.1.hold ≡ Some mac
unfolding is_by
is_by_same mac entry e = owner_same mac (owner_of entry.1.hold) e

module _ (t : Tables) (g : GoodRows (row_at t)) (n : ℕ) (new : Option Pool) (hub : ℕ) where
  -- the test by which lost leases are chosen
  in_lost : (address : Ip4) (lease : Lease) → row_at t (key.Lease address) ≡ Some (row.Lease lease) → gives_up (pool_in t n) new address ≡ true → In (address, lease) (lost_leases t n new)
  in_lost address lease there h = in_kept (λ (entry : Ip4 × Lease). gives_up (pool_in t n) new entry.0) (leases t) (address, lease) (lease_in_all t address lease there) h

  lost_in : (entry : Ip4 × Lease) → In entry (lost_leases t n new) → (row_at t (key.Lease entry.0) ≡ Some (row.Lease entry.1)) × (gives_up (pool_in t n) new entry.0 ≡ true)
  lost_in entry i = let k = kept_in (λ (entry : Ip4 × Lease). gives_up (pool_in t n) new entry.0) (leases t) entry i in (all_in_lease t entry.0 entry.1 k.0, k.1)

  lost_lease : (address : Ip4) (lease : Lease) → row_at t (key.Lease address) ≡ Some (row.Lease lease) → list_any (is_of address) (lost_leases t n new) ≡ gives_up (pool_in t n) new address
  lost_lease address lease there =
      elim (gives_up (pool_in t n) new address) as (λ b. gives_up (pool_in t n) new address ≡ b → list_any (is_of address) (lost_leases t n new) ≡ b) [
        | true ↦ λ h. in_any (is_of address) (lost_leases t n new) (address, lease) (in_lost address lease there h) (is_of_own address lease)
        | false ↦ λ h. any_none (is_of address) (lost_leases t n new) (λ x i. false_from_ne_true (is_of address x) (λ is.
            let same = is_of_same address x is in
            let l = (lost_in x i).1 in
            let m : gives_up (pool_in t n) new address ≡ true = ap (gives_up (pool_in t n) new) same ∙ l in
            cc))
      ] refl

  lost_held : (mac : Mac) (address : Ip4) → row_at t (key.Held mac) ≡ Some (row.Held address) → list_any (is_by mac) (lost_leases t n new) ≡ gives_up (pool_in t n) new address
  lost_held mac address there =
      let o = g.owner mac address there in
      elim (gives_up (pool_in t n) new address) as (λ b. gives_up (pool_in t n) new address ≡ b → list_any (is_by mac) (lost_leases t n new) ≡ b) [
        | true ↦ λ h. in_any (is_by mac) (lost_leases t n new) (address, o.lease) (in_lost address o.lease o.there h) (is_by_own mac address o.lease o.owner)
        | false ↦ λ h. any_none (is_by mac) (lost_leases t n new) (λ x i. false_from_ne_true (is_by mac x) (λ is.
            let l = lost_in x i in
            let held = g.holder x.0 x.1 mac l.0 (is_by_same mac x is) in
            let same : x.0 ≡ address = cc in
            let m : gives_up (pool_in t n) new address ≡ true = ap (gives_up (pool_in t n) new) (sym same) ∙ l.1 in
            cc))
      ] refl

  lease_left : (address : Ip4) (o : Option Row) → row_at t (key.Lease address) ≡ o
      → cond (list_any (is_of address) (lost_leases t n new)) None o ≡ cond (gives_up (pool_in t n) new address) None o
  lease_left address None e = none_either (list_any (is_of address) (lost_leases t n new)) ∙ sym (none_either (gives_up (pool_in t n) new address))
  lease_left address (Some (row.Lease lease)) e = ap (λ b. cond b None (Some (row.Lease lease))) (lost_lease address lease e)
  lease_left address (Some held) e = let p = g.possible (key.Lease address) held e in cc

  held_left : (mac : Mac) (o : Option Row) → row_at t (key.Held mac) ≡ o
      → cond (list_any (is_by mac) (lost_leases t n new)) None o ≡ unless_lost (gives_up (pool_in t n) new) o
  held_left mac None e = none_either (list_any (is_by mac) (lost_leases t n new))
  held_left mac (Some (row.Held address)) e = ap (λ b. cond b None (Some (row.Held address))) (lost_held mac address e)
  held_left mac (Some held) e = let p = g.possible (key.Held mac) held e in cc

  each_left : (q : Key) → rows_after (set_both (row_at t) n new hub) (flat_map lease_drops (lost_leases t n new)) q ≡ without_lost (gives_up (pool_in t n) new) (set_both (row_at t) n new hub) q
  unfolding is_other
  each_left (key.Lease address) = drops_lease (set_both (row_at t) n new hub) (lost_leases t n new) address ∙ lease_left address (row_at t (key.Lease address)) refl
  each_left (key.Held mac) = drops_held (set_both (row_at t) n new hub) (lost_leases t n new) mac ∙ held_left mac (row_at t (key.Held mac)) refl
  each_left q = drops_other (set_both (row_at t) n new hub) (lost_leases t n new) q refl

  pub lost_left : rows_after (set_both (row_at t) n new hub) (flat_map lease_drops (lost_leases t n new)) ≡ without_lost (gives_up (pool_in t n) new) (set_both (row_at t) n new hub)
  lost_left = λ i q. each_left q i
