-- A write at a key of no counted kind leaves all counts.
use Rattle.std.proofs.Common.{◌≡◌, ℕ, min, Bool, false, cond, not, ◌&&◌, List, [], ◌∷◌, count_by, refl, sym, ap, ◌∙◌, arith}
use Rattle.std.specs.List.{filter}
use Rattle.std.specs.Ordering.{is_eq, eq_by_cmp}
use Rattle.std.specs.declared.cmp.Ordering.{Ordering}
use Rattle.std.specs.declared.cmp.Ordering.TheVariants.{Less, Equal, Greater}
use Rattle.std.specs.FinMap as map
use Rattle.std.specs.FinMap.Entries as list
use Rattle.off_base.specs.Number.{greatest_u64}
use Rattle.off_defs.specs.declared.keys.Key.{Key}
use Rattle.off_defs.specs.declared.tables.Row.{Row}
use Rattle.off_defs.specs.declared.kinds.Kind.{Kind}
use Rattle.off_defs.specs.declared.kinds.Kind.TheVariants.{Subscribers, AddOns, Modems, Classes, Pools, Batches, Hubs, DevicePools}
use Rattle.off_defs.specs.Keys.{key_cmp}
use Rattle.off_defs.specs.State.{Tables}
use Rattle.off_defs.specs.Tables.{with_row, without}
use Rattle.off_defs.proofs.KeyLemmas.{key_exact}
use Rattle.off_defs.proofs.TableLemmas.{entries_with, entries_without}
use Rattle.off_account_rules.specs.Rows.{is_possible, is_of_kind, is_counted, count_of, counts_of}
use Rattle.off_table_laws.proofs.ListLemmas.{count_first}

-- entries of a key that doesn't count
module _ {K X : Type 0} (R : K → K → Ordering) (exact : (a b : K) → R a b ≡ Equal → a ≡ b) (p : K × X → Bool) (key : K) (never : (x : X) → p (key, x) ≡ false) where
  abbrev counted : K × X → ℕ
  counted e = cond (p e) 1 0

  here : (k : K) (x : X) → key ≡ k → counted (k, x) ≡ 0
  here k x same = sym (ap (λ l. counted (l, x)) same) ∙ ap (λ b. cond b 1 0) (never x)

  count_put : (x : X) (es : List (K × X)) → count_by p (list.put R key x es) ≡ count_by p es
  count_put x [] = omega (arith, count_first p (key, x) [], here key x refl)
  count_put x (e ∷ es) =
      elim (R key e.0) as (λ r. R key e.0 ≡ r → count_by p (list.by_order r ((key, x) ∷ e ∷ es) ((e.0, x) ∷ es) (e ∷ list.put R key x es)) ≡ count_by p (e ∷ es)) [
        | Less ↦ λ less. omega (arith, count_first p (key, x) (e ∷ es), here key x refl)
        | Equal ↦ λ tied.
            let new = here e.0 x (exact key e.0 tied) in
            let old : counted e ≡ 0 = here e.0 e.1 (exact key e.0 tied) in
            omega (arith, new, old, count_first p (e.0, x) es, count_first p e es)
        | Greater ↦ λ more. omega (arith, count_put x es, count_first p e (list.put R key x es), count_first p e es)
      ] refl

  count_left : (es : List (K × X)) → count_by p (filter (λ e. not (eq_by_cmp R key e.0)) es) ≡ count_by p es
  count_left [] = refl
  count_left (e ∷ es) =
      let left = filter (λ (e : K × X). not (eq_by_cmp R key e.0)) es in
      elim (R key e.0) as (λ r. R key e.0 ≡ r → count_by p (cond (not (is_eq r)) (e ∷ left) left) ≡ count_by p (e ∷ es)) [
        | Less ↦ λ less. omega (arith, count_left es, count_first p e left, count_first p e es)
        | Equal ↦ λ tied. let old : counted e ≡ 0 = here e.0 e.1 (exact key e.0 tied) in omega (arith, old, count_left es, count_first p e es)
        | Greater ↦ λ more. omega (arith, count_left es, count_first p e left, count_first p e es)
      ] refl

module _ (key : Key) (none : (kind : Kind) → is_of_kind kind key ≡ false) where
  uncounted : (kind : Kind) (held : Row) → is_counted kind (key, held) ≡ false
  uncounted kind held = ap (λ b. b && is_possible key held) (none kind)

  count_with : (t : Tables) (held : Row) (kind : Kind) → count_of kind (with_row t key held) ≡ count_of kind t
  count_with t held kind =
      ap (count_by (is_counted kind)) (entries_with t key held) ∙ count_put key_cmp key_exact (is_counted kind) key (uncounted kind) held (map.entries t)

  count_without : (t : Tables) (kind : Kind) → count_of kind (without t key) ≡ count_of kind t
  count_without t kind =
      ap (count_by (is_counted kind)) (entries_without t key) ∙ count_left key_cmp key_exact (is_counted kind) key (uncounted kind) (map.entries t)

same_counts : (t u : Tables) → ((kind : Kind) → count_of kind t ≡ count_of kind u) → counts_of t ≡ counts_of u
same_counts t u same = λ i. record {
  subscribers = same Subscribers i;
  addons = same AddOns i;
  modems = same Modems i;
  classes = same Classes i;
  pools = same Pools i;
  batches = min greatest_u64 (same Batches i);
  hubs = same Hubs i;
  device_pools = same DevicePools i;
}

pub counts_with_other : (key : Key) (held : Row) (t : Tables) → ((kind : Kind) → is_of_kind kind key ≡ false) → counts_of (with_row t key held) ≡ counts_of t
counts_with_other key held t none = same_counts (with_row t key held) t (count_with key none t held)

pub counts_without_other : (key : Key) (t : Tables) → ((kind : Kind) → is_of_kind kind key ≡ false) → counts_of (without t key) ≡ counts_of t
counts_without_other key t none = same_counts (without t key) t (count_without key none t)
