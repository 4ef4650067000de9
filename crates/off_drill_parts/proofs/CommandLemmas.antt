-- No rule refuses a command of the drill over the tables that those before it left.
use Rattle.std.proofs.Common.{◌≡◌, ℕ, zero, suc, ◌+◌, ◌*◌, ◌<◌, ◌≤◌, Bool, true, false, cond, nat_le, List, [], ◌∷◌, is_none, Option, Some, None, option_map, option_and_then, refl, sym, ap, ◌∙◌, inl, arith}
use Rattle.std.proofs.lemmas.Bool.{lt-leb, and_right}
use Rattle.std.proofs.lemmas.List.Sums.{count_by-le-length}
use Rattle.std.specs.FinMap as map
use Rattle.std.proofs.lemmas.List.{nil_from_length}
use Rattle.std.specs.List.{filter, filter_map, find, flat_map, AllByRecursion}
use Rattle.std.specs.Ordering.{eq_by_cmp}
use Rattle.off_base.specs.Choices.{when, first_there}
use Rattle.off_base.specs.declared.addresses.Ip4.{Ip4}
use Rattle.off_tree.specs.declared.tables.Kind.TheVariants as tree
use Rattle.off_tree.specs.Table.{table_of}
use Rattle.off_tree.specs.Fault.{first_fault}
use Rattle.off_defs.specs.declared.keys.Key.{Key}
use Rattle.off_defs.specs.declared.keys.Key.TheVariants as key
use Rattle.off_defs.specs.declared.tables.Row.{Row}
use Rattle.off_defs.specs.declared.tables.Row.TheVariants as row
use Rattle.off_defs.specs.declared.tables.Pool.{Pool}
use Rattle.off_defs.specs.declared.tables.Lease.{Lease}
use Rattle.off_defs.specs.declared.tables.Class.{Class}
use Rattle.off_defs.specs.declared.tables.Subscriber.{Subscriber}
use Rattle.off_defs.specs.declared.tables.Site.{Site}
use Rattle.off_defs.specs.declared.writes.Write.{Write}
use Rattle.off_defs.specs.declared.writes.Write.TheVariants.{Put, Drop}
use Rattle.off_orders.specs.declared.orders.Reply.TheVariants.{Done}
use Rattle.off_defs.specs.declared.kinds.Kind.{Kind}
use Rattle.off_defs.specs.declared.kinds.Kind.TheVariants.{Subscribers, Modems, Classes, Pools, Hubs}
use Rattle.off_orders.specs.declared.rules.Rule.{Rule}
use Rattle.off_orders.specs.declared.rules.Rule.TheVariants as rule
use Rattle.off_defs.specs.Keys.{key_cmp}
use Rattle.off_defs.specs.State.{Tables}
use Rattle.off_defs.specs.Tables.{row_at, with_row, without, write_all}
use Rattle.off_defs.proofs.KeyLemmas.{key_total}
use Rattle.off_defs.proofs.TableLemmas.{row_with, row_with_here, row_without, same_tables, same_key}
use Rattle.off_account_rules.specs.Rows.{seen_at, count_of, is_counted, class_is_good, overlaps, pools, device_pool_of, device_pools, leases, pool_in, possible, as_site, as_subscriber, as_class, hub_in, subscriber_in, class_in}
use Rattle.off_account_rules.specs.Changes.{gives_up}
use Rattle.off_orders.specs.Clerk.{limit_of, limit, is_other_overlapping, is_other_with_relay, is_live, lost_leases, lease_drops, rules_of, writes_of, by_rule, accepted, stepped_by, clerk_step}
use Rattle.off_table_laws.proofs.ListLemmas.{In}
use Rattle.off_order_laws.proofs.LostLeases.{all_in_lease}
use Rattle.off_table_laws.proofs.MadeLemmas.{made_with}
use Rattle.off_table_laws.proofs.Reading.{pool_row}
use Rattle.off_lease_laws.proofs.ChoiceLemmas.{pool_read}
use Rattle.off_drill_rules.specs.Rows.{begins_at, site, class, pool, subscriber, modem, mac, with_site, with_class, founded, peopled}
use Rattle.off_drill_parts.specs.Commands.{put_hub, put_class, put_pool, put_subscriber, put_modem}

-- ---- there are few rows

few_rows : (t : Tables) (q : Key) (held : Row) (n : ℕ) → map.len t ≤ n → map.len (with_row t q held) ≤ suc n
few_rows t q held n few = by_case (map.contains_key t q) (map.len-insert key_total t q held)
  where
    by_case : (there : Bool) → map.len (with_row t q held) ≡ cond there (map.len t) (map.len t + 1) → map.len (with_row t q held) ≤ suc n
    by_case true is = omega (arith, is, few)
    by_case false is = omega (arith, is, few)

counted_few : (kind : Kind) (t : Tables) → count_of kind t ≤ map.len t
counted_few kind t = let all = count_by-le-length (is_counted kind) (map.entries t) in let len = map.len-entries t in omega (arith, all, len)

site_few : map.len with_site ≤ 1
site_few = few_rows map.empty (key.Hub 0) (row.Site site) 0 (let e = map.len-empty key_cmp Row in omega (arith, e))

class_few : map.len with_class ≤ 2
class_few = few_rows with_site (key.Class 1) (row.Class class) 1 site_few

founded_few : map.len founded ≤ 3
founded_few = few_rows with_class (key.Pool 1) (row.Pool pool) 2 class_few

abbrev pub with_subscriber : ℕ → Tables
with_subscriber k = with_row (peopled k) (key.Subscriber (suc k)) (row.Subscriber (subscriber (suc k)))

peopled_few : (k : ℕ) → map.len (peopled k) ≤ 3 + 2 * k
peopled_few zero = founded_few
peopled_few (suc k) =
    let one = few_rows (peopled k) (key.Subscriber (suc k)) (row.Subscriber (subscriber (suc k))) (3 + 2 * k) (peopled_few k) in
    let two = few_rows (with_subscriber k) (key.Modem (mac (suc k))) (row.Modem (modem (suc k))) (suc (3 + 2 * k)) one in
    omega (arith, two)

subscriber_few : (k : ℕ) → map.len (with_subscriber k) ≤ suc (3 + 2 * k)
subscriber_few k = few_rows (peopled k) (key.Subscriber (suc k)) (row.Subscriber (subscriber (suc k))) (3 + 2 * k) (peopled_few k)

within : (t : Tables) (q : Key) (kind : Kind) → map.len t < limit_of kind → limit t q kind ≡ None
within t q kind few =
    ap (λ b. when b (rule.Limit kind (limit_of kind)))
    (and_right (is_none (seen_at t q)) (nat_le (limit_of kind) (count_of kind t)) (lt-leb (limit_of kind) (count_of kind t) (let c = counted_few kind t in omega (arith, c, few))))

-- ---- the commands

no_rule : (rules : List (Option Rule)) → AllByRecursion (λ (o : Option Rule). o ≡ None) rules → first_there rules ≡ None
no_rule [] all = refl
no_rule (o ∷ rules) all = ap (λ (v : Option Rule). first_there (v ∷ rules)) all.0 ∙ no_rule rules all.1

module _ (t : Tables) (writes : List Write) (rules : List (Option Rule)) where
  done_by : AllByRecursion (λ (o : Option Rule). o ≡ None) rules → (stepped_by t (by_rule 0 (accepted writes Done) (first_there rules))).tables ≡ write_all t writes
  done_by all = ap (λ (o : Option Rule). (stepped_by t (by_rule 0 (accepted writes Done) o)).tables) (no_rule rules all)

pub site_step : (clerk_step map.empty begins_at put_hub).tables ≡ with_site
unfolding clerk_step
site_step =
    done_by map.empty (writes_of map.empty put_hub) (rules_of map.empty begins_at put_hub)
    (refl, (refl, (refl, (refl, (within map.empty (key.Hub 0) Hubs (let e = map.len-empty key_cmp Row in omega (arith, e)), tt)))))

class_good : first_fault tree.Class class.settings ≡ None
unfolding table_of
class_good = refl

pub class_step : (clerk_step with_site begins_at put_class).tables ≡ with_class
unfolding clerk_step
class_step =
    done_by with_site (writes_of with_site put_class) (rules_of with_site begins_at put_class)
    (ap (option_map rule.Tree) class_good, (within with_site (key.Class 1) Classes (let f = site_few in omega (arith, f)), tt))

-- there is no pool and no lease yet
other_row : (q : Key) → eq_by_cmp key_cmp q (key.Class 1) ≡ false → eq_by_cmp key_cmp q (key.Hub 0) ≡ false → row_at with_class q ≡ None
other_row q no_class no_site =
    row_with with_site (key.Class 1) (row.Class class) q
    ∙ ap (λ b. cond b (Some (row.Class class)) (row_at with_site q)) no_class
    ∙ row_with map.empty (key.Hub 0) (row.Site site) q
    ∙ ap (λ b. cond b (Some (row.Site site)) (row_at map.empty q)) no_site
    ∙ map.get-empty key_cmp q

empty_list : {A : Type 0} (xs : List A) → ((x : A) → In x xs → ⊥) → xs ≡ []
empty_list [] none = refl
empty_list (x ∷ xs) none = absurd (none x (inl refl))

no_pools : pools with_class ≡ []
no_pools =
    empty_list (pools with_class)
    (λ (entry : ℕ × Pool) inside.
    let there = pool_row with_class entry.0 entry.1 (pool_read with_class entry.0 entry.1 inside) in
    let none = other_row (key.Pool entry.0) refl refl in
    let f : Some (row.Pool entry.1) ≡ None = sym there ∙ none in cc)

pub no_entries : map.entries (map.empty {K = Key} {X = Row} {R = key_cmp}) ≡ []
no_entries = nil_from_length (map.entries map.empty) (sym (map.len-entries map.empty) ∙ map.len-empty key_cmp Row)

no_device_pools : device_pools with_class ≡ []
no_device_pools =
    made_with device_pool_of (key.Class 1) (λ r. refl) with_site (row.Class class)
    ∙ made_with device_pool_of (key.Hub 0) (λ r. refl) map.empty (row.Site site)
    ∙ ap (filter_map device_pool_of) no_entries

no_leases : leases with_class ≡ []
no_leases =
    empty_list (leases with_class)
    (λ (entry : Ip4 × Lease) inside.
    let there = all_in_lease with_class entry.0 entry.1 inside in
    let none = other_row (key.Lease entry.0) refl refl in
    let f : Some (row.Lease entry.1) ≡ None = sym there ∙ none in cc)

none_lost : lost_leases with_class 1 (Some pool) ≡ []
none_lost = ap (filter (λ (entry : Ip4 × Lease). gives_up (pool_in with_class 1) (Some pool) entry.0)) no_leases

hub_is : hub_in with_class 0 ≡ Some site
hub_is =
    ap (λ o. option_and_then as_site (possible (key.Hub 0) o))
    (row_with with_site (key.Class 1) (row.Class class) (key.Hub 0) ∙ row_with_here map.empty (key.Hub 0) (row.Site site))

-- a row that isn't there is dropped
none_dropped : (t : Tables) (q : Key) → row_at t q ≡ None → without t q ≡ t
none_dropped t q none = same_tables (without t q) t (λ other. row_without t q other ∙ by_case other (eq_by_cmp key_cmp other q) refl)
  where
    by_case : (other : Key) (b : Bool) → eq_by_cmp key_cmp other q ≡ b → cond b None (row_at t other) ≡ row_at t other
    by_case other true same = sym (ap (row_at t) (same_key other q same) ∙ none)
    by_case other false same = refl

-- a pool of the hub 0 has no row of its hub
no_pool_hub : row_at founded (key.PoolHub 1) ≡ None
no_pool_hub = row_with with_class (key.Pool 1) (row.Pool pool) (key.PoolHub 1) ∙ other_row (key.PoolHub 1) refl refl

pub pool_step : (clerk_step with_class begins_at put_pool).tables ≡ founded
unfolding clerk_step
pool_step =
    done_by with_class (writes_of with_class put_pool) (rules_of with_class begins_at put_pool) (
      refl,
      (
        ap (λ (ps : List (ℕ × Pool)). option_map (λ (other : ℕ × Pool). rule.PoolOverlap other.0) (find (is_other_overlapping 1 pool) ps)) no_pools,
        (
          ap (λ (ps : List (ℕ × Pool)). option_map (λ (other : ℕ × Pool). rule.DeviceOverlap other.0) (find (λ (other : ℕ × Pool). overlaps pool other.1) ps)) no_device_pools,
          (
            ap (λ (ps : List (ℕ × Pool)). option_map (λ (other : ℕ × Pool). rule.RelayTaken other.0) (find (is_other_with_relay 1 pool) ps)) no_pools,
            (
              ap (λ (o : Option Site). when (is_none o) rule.NoHub) hub_is,
              (
                ap (λ (es : List (Ip4 × Lease)). option_map (λ (entry : Ip4 × Lease). rule.PoolHasLeases entry.0) (find (is_live begins_at) es)) none_lost,
                (within with_class (key.Pool 1) Pools (let f = class_few in omega (arith, f)), tt),
              ),
            ),
          ),
        ),
      ),
    )
    ∙ ap (λ (es : List (Ip4 × Lease)). write_all with_class (Put (key.Pool 1) (row.Pool pool) ∷ Drop (key.PoolHub 1) ∷ flat_map lease_drops es)) none_lost
    ∙ none_dropped founded (key.PoolHub 1) no_pool_hub

pub subscriber_step : (k : ℕ) → k < 4000 → (clerk_step (peopled k) begins_at (put_subscriber (suc k))).tables ≡ with_subscriber k
unfolding clerk_step
subscriber_step k few =
    done_by (peopled k) (writes_of (peopled k) (put_subscriber (suc k))) (rules_of (peopled k) begins_at (put_subscriber (suc k)))
    (within (peopled k) (key.Subscriber (suc k)) Subscribers (let f = peopled_few k in omega (arith, f, few)), tt)

subscriber_is : (k : ℕ) → subscriber_in (with_subscriber k) (suc k) ≡ Some (subscriber (suc k))
subscriber_is k =
    ap (λ o. option_and_then as_subscriber (possible (key.Subscriber (suc k)) o))
    (row_with_here (peopled k) (key.Subscriber (suc k)) (row.Subscriber (subscriber (suc k))))

class_row : (k : ℕ) → row_at (peopled k) (key.Class 1) ≡ Some (row.Class class)
class_row zero =
    row_with with_class (key.Pool 1) (row.Pool pool) (key.Class 1)
    ∙ row_with_here with_site (key.Class 1) (row.Class class)
class_row (suc k) =
    row_with (with_subscriber k) (key.Modem (mac (suc k))) (row.Modem (modem (suc k))) (key.Class 1)
    ∙ row_with (peopled k) (key.Subscriber (suc k)) (row.Subscriber (subscriber (suc k))) (key.Class 1)
    ∙ class_row k

class_is : (k : ℕ) → class_in (with_subscriber k) 1 ≡ Some class
unfolding class_is_good table_of
class_is k =
    ap (λ o. option_and_then as_class (possible (key.Class 1) o))
    (row_with (peopled k) (key.Subscriber (suc k)) (row.Subscriber (subscriber (suc k))) (key.Class 1) ∙ class_row k)

pub modem_step : (k : ℕ) → k < 4000 → (clerk_step (with_subscriber k) begins_at (put_modem (suc k))).tables ≡ peopled (suc k)
unfolding clerk_step
modem_step k few =
    done_by (with_subscriber k) (writes_of (with_subscriber k) (put_modem (suc k))) (rules_of (with_subscriber k) begins_at (put_modem (suc k))) (
      ap (λ (o : Option Subscriber). when (is_none o) rule.NoSubscriber) (subscriber_is k),
      (
        ap (λ (o : Option Class). when (is_none o) rule.NoClass) (class_is k),
        (within (with_subscriber k) (key.Modem (mac (suc k))) Modems (let f = subscriber_few k in omega (arith, f, few)), tt),
      ),
    )
