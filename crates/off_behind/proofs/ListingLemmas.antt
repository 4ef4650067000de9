-- The rows of one kind as a list in the order of their own keys: what a put and a drop make of it. Pools, modems and leases are such lists too.
use Rattle.std.proofs.Common.{◌≡◌, Bool, true, false, cond, not, Option, Some, None, List, [], ◌∷◌, inl, inr, refl, sym, ap, subst, ◌∙◌}
use lib.Dec.{T}
use Rattle.std.specs.Ordering.{is_eq, eq_by_cmp}
use Rattle.std.specs.List.{filter, filter_map, cons_option}
use Rattle.std.specs.Cmp.{IsTotalOrder}
use Rattle.std.specs.declared.cmp.Ordering.{Ordering}
use Rattle.std.specs.declared.cmp.Ordering.TheVariants.{Less, Equal, Greater}
use Rattle.std.specs.FinMap as map
use Rattle.std.specs.FinMap.Entries as list
use Rattle.off_base.specs.declared.addresses.Ip4.{Ip4}
use Rattle.off_defs.specs.declared.keys.Key.{Key}
use Rattle.off_defs.specs.declared.keys.Key.TheVariants as key
use Rattle.off_defs.specs.declared.tables.Row.{Row}
use Rattle.off_defs.specs.declared.tables.Row.TheVariants as row
use Rattle.off_defs.specs.declared.tables.DeviceLease.{DeviceLease}
use Rattle.off_defs.specs.Keys.{key_cmp}
use Rattle.off_defs.specs.State.{Tables}
use Rattle.off_defs.specs.Tables.{with_row, without}
use Rattle.off_defs.proofs.KeyLemmas.{key_total, key_exact}
use Rattle.off_defs.proofs.EntryLemmas.{first, second}
use Rattle.off_defs.proofs.ListingLemmas.{listed_sorted}
use Rattle.off_defs.proofs.TableLemmas.{entries_with, entries_without}
use Rattle.off_account_rules.specs.Rows.{device_of, devices}
use Rattle.off_table_laws.proofs.ListLemmas.{In, made_in}
use Rattle.off_table_laws.proofs.EntryRows.{below_in}
use Rattle.off_table_laws.proofs.Judging.{raw_device_made}
use Rattle.off_behind.specs.Changes.{by_address}

module _ {K X N Y : Type 0} (R : K → K → Ordering) (o : IsTotalOrder R) (exact : (a b : K) → R a b ≡ Equal → a ≡ b) (give : K × X → Option (N × Y)) (key_of : N → K) (row_of : Y → X)
    (gives : (n : N) (y : Y) → give (key_of n, row_of y) ≡ Some (n, y))
    (named : (e : K × X) (n : N) (y : Y) → give e ≡ Some (n, y) → e.0 ≡ key_of n) where
  abbrev by_key : N → N → Ordering
  by_key m n = R (key_of m) (key_of n)

  -- a key below all of a list is put in front
  in_front : (n : N) (y : Y) (ys : List (N × Y)) → ((z : N × Y) → In z ys → by_key n z.0 ≡ Less) → list.put by_key n y ys ≡ (n, y) ∷ ys
  in_front n y [] below = refl
  in_front n y (z ∷ ys) below = ap (λ r. list.by_order r ((n, y) ∷ z ∷ ys) ((z.0, y) ∷ ys) (z ∷ list.put by_key n y ys)) (below z (inl refl))

  all_below : (n : N) (es : List (K × X)) → ((e : K × X) → In e es → R (key_of n) e.0 ≡ Less) → (z : N × Y) → In z (filter_map give es) → by_key n z.0 ≡ Less
  all_below n es below z i =
      let m = made_in give es z i in
      subst (λ k. R (key_of n) k ≡ Less) (named m.0 z.0 z.1 m.2) (below m.0 m.1)

  -- what a put gives in front of the rest
  put_first : (n : N) (y : Y) (es : List (K × X)) → cons_option (give (key_of n, row_of y)) (filter_map give es) ≡ (n, y) ∷ filter_map give es
  put_first n y es = ap (λ (g : Option (N × Y)). cons_option g (filter_map give es)) (gives n y)

  listed_put : (n : N) (y : Y) (es : List (K × X)) → T (list.is_sorted R es) → filter_map give (list.put R (key_of n) (row_of y) es) ≡ list.put by_key n y (filter_map give es)
  listed_put n y [] s = put_first n y []
  listed_put n y (e ∷ es) s =
      elim (R (key_of n) e.0) as (λ r. R (key_of n) e.0 ≡ r
      → filter_map give (list.by_order r ((key_of n, row_of y) ∷ e ∷ es) ((e.0, row_of y) ∷ es) (e ∷ list.put R (key_of n) (row_of y) es)) ≡ list.put by_key n y (filter_map give (e ∷ es))) [
        | Less ↦ λ less.
            put_first n y (e ∷ es) ∙ sym (in_front n y (filter_map give (e ∷ es)) (all_below n (e ∷ es) (λ f i. elim i as (λ j. R (key_of n) f.0 ≡ Less) [
              | inl same ↦ ap (λ (v : K × X). R (key_of n) v.0) same ∙ less
              | inr rest ↦ o.trans (key_of n) e.0 f.0 less (below_in R o e.0 es (first _ _ s) f rest)
            ])))
        | Equal ↦ λ tied.
            let here : key_of n ≡ e.0 = exact (key_of n) e.0 tied in
            let rest_below : (f : K × X) → In f es → R (key_of n) f.0 ≡ Less = λ f i. ap (λ k. R k f.0) here ∙ below_in R o e.0 es (first _ _ s) f i in
            ap (λ k. cons_option (give (k, row_of y)) (filter_map give es)) (sym here) ∙ put_first n y es ∙ sym (replaced n y e es tied rest_below (give e) refl)
        | Greater ↦ λ more. ap (cons_option (give e)) (listed_put n y es (second _ _ s)) ∙ sym (behind_it n y e (filter_map give es) more (give e) refl)
      ] refl
    where
      replaced : (n : N) (y : Y) (e : K × X) (es : List (K × X)) → R (key_of n) e.0 ≡ Equal → ((f : K × X) → In f es → R (key_of n) f.0 ≡ Less) → (g : Option (N × Y)) → give e ≡ g
          → list.put by_key n y (cons_option g (filter_map give es)) ≡ (n, y) ∷ filter_map give es
      replaced n y e es tied below None is = in_front n y (filter_map give es) (all_below n es below)
      replaced n y e es tied below (Some z) is =
          let same : by_key n z.0 ≡ Equal = ap (R (key_of n)) (sym (named e z.0 z.1 is)) ∙ tied in
          ap (λ r. list.by_order r ((n, y) ∷ z ∷ filter_map give es) ((z.0, y) ∷ filter_map give es) (z ∷ list.put by_key n y (filter_map give es))) same
          ∙ ap (λ (v : Option (N × Y)). cons_option v (filter_map give es)) (sym (gives z.0 y) ∙ ap (λ k. give (k, row_of y)) (sym (exact (key_of n) (key_of z.0) same)) ∙ gives n y)

      behind_it : (n : N) (y : Y) (e : K × X) (ys : List (N × Y)) → R (key_of n) e.0 ≡ Greater → (g : Option (N × Y)) → give e ≡ g
          → list.put by_key n y (cons_option g ys) ≡ cons_option g (list.put by_key n y ys)
      behind_it n y e ys more None is = refl
      behind_it n y e ys more (Some z) is =
          ap (λ r. list.by_order r ((n, y) ∷ z ∷ ys) ((z.0, y) ∷ ys) (z ∷ list.put by_key n y ys)) (ap (R (key_of n)) (sym (named e z.0 z.1 is)) ∙ more)

  abbrev keeps : N → K × X → Bool
  keeps n f = not (eq_by_cmp R (key_of n) f.0)

  abbrev keeps_z : N → N × Y → Bool
  keeps_z n z = not (eq_by_cmp R (key_of n) (key_of z.0))

  listed_drop : (n : N) (es : List (K × X)) → filter_map give (filter (keeps n) es) ≡ filter (keeps_z n) (filter_map give es)
  listed_drop n [] = refl
  listed_drop n (e ∷ es) = dropped (listed_drop n es) (give e) refl
    where
      dropped : filter_map give (filter (keeps n) es) ≡ filter (keeps_z n) (filter_map give es) → (g : Option (N × Y)) → give e ≡ g → filter_map give (filter (keeps n) (e ∷ es)) ≡ filter (keeps_z n) (cons_option g (filter_map give es))
      dropped rest None is =
          elim (keeps n e) as (λ b. filter_map give (cond b (e ∷ filter (keeps n) es) (filter (keeps n) es)) ≡ filter (keeps_z n) (filter_map give es)) [
            | true ↦ ap (λ (g : Option (N × Y)). cons_option g (filter_map give (filter (keeps n) es))) is ∙ rest
            | false ↦ rest
          ]
      dropped rest (Some z) is =
          let same : keeps n e ≡ keeps_z n z = ap (λ k. not (eq_by_cmp R (key_of n) k)) (named e z.0 z.1 is) in
          ap (λ b. filter_map give (cond b (e ∷ filter (keeps n) es) (filter (keeps n) es))) same
          ∙ elim (keeps_z n z) as (λ b. filter_map give (cond b (e ∷ filter (keeps n) es) (filter (keeps n) es)) ≡ cond b (z ∷ filter (keeps_z n) (filter_map give es)) (filter (keeps_z n) (filter_map give es))) [
            | true ↦ ap (λ (g : Option (N × Y)). cons_option g (filter_map give (filter (keeps n) es))) is ∙ ap (λ ys. z ∷ ys) rest
            | false ↦ rest
          ]

  -- nothing of the key is in a list of those above it
  none_kept : (n : N) (ys : List (N × Y)) → ((z : N × Y) → In z ys → by_key n z.0 ≡ Less) → filter (keeps_z n) ys ≡ ys
  none_kept n [] below = refl
  none_kept n (z ∷ ys) below =
      ap (λ r. cond (not (is_eq r)) (z ∷ filter (keeps_z n) ys) (filter (keeps_z n) ys)) (below z (inl refl)) ∙ ap (λ zs. z ∷ zs) (none_kept n ys (λ w i. below w (inr i)))

  -- what gives nothing is put: what stood there is dropped
  listed_lost : (n : N) (x : X) (es : List (K × X)) → give (key_of n, x) ≡ None → T (list.is_sorted R es)
      → filter_map give (list.put R (key_of n) x es) ≡ filter (keeps_z n) (filter_map give es)
  listed_lost n x [] none s = ap (λ (g : Option (N × Y)). cons_option g []) none
  listed_lost n x (e ∷ es) none s =
      elim (R (key_of n) e.0) as (λ r. R (key_of n) e.0 ≡ r
      → filter_map give (list.by_order r ((key_of n, x) ∷ e ∷ es) ((e.0, x) ∷ es) (e ∷ list.put R (key_of n) x es)) ≡ filter (keeps_z n) (filter_map give (e ∷ es))) [
        | Less ↦ λ less.
            ap (λ (g : Option (N × Y)). cons_option g (filter_map give (e ∷ es))) none
            ∙ sym (none_kept n (filter_map give (e ∷ es)) (all_below n (e ∷ es) (λ f i. elim i as (λ j. R (key_of n) f.0 ≡ Less) [
              | inl same ↦ ap (λ (v : K × X). R (key_of n) v.0) same ∙ less
              | inr rest ↦ o.trans (key_of n) e.0 f.0 less (below_in R o e.0 es (first _ _ s) f rest)
            ])))
        | Equal ↦ λ tied.
            let here : key_of n ≡ e.0 = exact (key_of n) e.0 tied in
            let below : (f : K × X) → In f es → R (key_of n) f.0 ≡ Less = λ f i. ap (λ k. R k f.0) here ∙ below_in R o e.0 es (first _ _ s) f i in
            ap (λ (g : Option (N × Y)). cons_option g (filter_map give es)) (ap (λ k. give (k, x)) (sym here) ∙ none)
            ∙ sym (gone n e es tied below (give e) refl)
        | Greater ↦ λ more.
            ap (cons_option (give e)) (listed_lost n x es none (second _ _ s)) ∙ sym (left n e (filter_map give es) more (give e) refl)
      ] refl
    where
      gone : (n : N) (e : K × X) (es : List (K × X)) → R (key_of n) e.0 ≡ Equal → ((f : K × X) → In f es → R (key_of n) f.0 ≡ Less) → (g : Option (N × Y)) → give e ≡ g
          → filter (keeps_z n) (cons_option g (filter_map give es)) ≡ filter_map give es
      gone n e es tied below None is = none_kept n (filter_map give es) (all_below n es below)
      gone n e es tied below (Some z) is =
          let same : by_key n z.0 ≡ Equal = ap (R (key_of n)) (sym (named e z.0 z.1 is)) ∙ tied in
          ap (λ r. cond (not (is_eq r)) (z ∷ filter (keeps_z n) (filter_map give es)) (filter (keeps_z n) (filter_map give es))) same
          ∙ none_kept n (filter_map give es) (all_below n es below)

      left : (n : N) (e : K × X) (ys : List (N × Y)) → R (key_of n) e.0 ≡ Greater → (g : Option (N × Y)) → give e ≡ g → filter (keeps_z n) (cons_option g ys) ≡ cons_option g (filter (keeps_z n) ys)
      left n e ys more None is = refl
      left n e ys more (Some z) is =
          ap (λ r. cond (not (is_eq r)) (z ∷ filter (keeps_z n) ys) (filter (keeps_z n) ys)) (ap (R (key_of n)) (sym (named e z.0 z.1 is)) ∙ more)

-- the leases of devices
named_device : (e : Key × Row) (a : Ip4) (lease : DeviceLease) → device_of e ≡ Some (a, lease) → e.0 ≡ key.Device a
named_device e a lease is = (raw_device_made e.0 e.1 a lease is).0

pub devices_with : (t : Tables) (a : Ip4) (lease : DeviceLease) → devices (with_row t (key.Device a) (row.Device lease)) ≡ list.put by_address a lease (devices t)
devices_with t a lease =
    ap (filter_map device_of) (entries_with t (key.Device a) (row.Device lease))
    ∙ listed_put key_cmp key_total key_exact device_of key.Device row.Device (λ n y. refl) named_device a lease (map.entries t) (map.entries_sorted t)

pub devices_without : (t : Tables) (a : Ip4) → devices (without t (key.Device a)) ≡ filter (λ z. not (eq_by_cmp by_address a z.0)) (devices t)
devices_without t a =
    ap (filter_map device_of) (entries_without t (key.Device a))
    ∙ listed_drop key_cmp key_total key_exact device_of key.Device row.Device (λ n y. refl) named_device a (map.entries t)

-- an impossible row is put
pub devices_lost : (t : Tables) (a : Ip4) (held : Row) → device_of (key.Device a, held) ≡ None → devices (with_row t (key.Device a) held) ≡ filter (λ z. not (eq_by_cmp by_address a z.0)) (devices t)
devices_lost t a held none =
    ap (filter_map device_of) (entries_with t (key.Device a) held)
    ∙ listed_lost key_cmp key_total key_exact device_of key.Device row.Device (λ n y. refl) named_device a held (map.entries t) none (map.entries_sorted t)

pub devices_sorted : (t : Tables) → T (list.is_sorted by_address (devices t))
devices_sorted t = listed_sorted key_cmp device_of key.Device named_device (map.entries t) (map.entries_sorted t)
