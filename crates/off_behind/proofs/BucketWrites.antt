-- What a put and a drop make of a bucket: of those elements of a list in order that pass a test.
use Rattle.std.proofs.Common.{◌≡◌, ℕ, ◌+◌, Bool, true, false, cond, not, List, [], ◌∷◌, inl, inr, refl, sym, ap, subst, ◌∙◌, one-add}
use lib.Dec.{T}
use Rattle.std.specs.Ordering.{is_eq, is_gt, eq_by_cmp}
use Rattle.std.specs.List.{filter, insert, prefix_len}
use Rattle.std.specs.Cmp.{IsTotalOrder}
use Rattle.std.specs.declared.cmp.Ordering.{Ordering}
use Rattle.std.specs.declared.cmp.Ordering.TheVariants.{Less, Equal, Greater}
use Rattle.std.specs.FinMap.Entries as list
use Rattle.off_defs.proofs.EntryLemmas.{first, second}
use Rattle.off_table_laws.proofs.ListLemmas.{In, kept_in}
use Rattle.off_table_laws.proofs.EntryRows.{below_in}

module _ {N Y : Type 0} (R : N → N → Ordering) (o : IsTotalOrder R) (exact : (a b : N) → R a b ≡ Equal → a ≡ b) (q : N × Y → Bool) where
  abbrev keeps : N → N × Y → Bool
  keeps n e = not (eq_by_cmp R n e.0)

  in_front : (n : N) (y : Y) (ys : List (N × Y)) → ((z : N × Y) → In z ys → R n z.0 ≡ Less) → list.put R n y ys ≡ (n, y) ∷ ys
  in_front n y [] below = refl
  in_front n y (z ∷ ys) below = ap (λ r. list.by_order r ((n, y) ∷ z ∷ ys) ((z.0, y) ∷ ys) (z ∷ list.put R n y ys)) (below z (inl refl))

  -- nothing is dropped of what stands behind
  all_kept : (n : N) (ys : List (N × Y)) → ((z : N × Y) → In z ys → R n z.0 ≡ Less) → filter (keeps n) ys ≡ ys
  all_kept n [] below = refl
  all_kept n (z ∷ ys) below =
      ap (λ r. cond (not (is_eq r)) (z ∷ filter (keeps n) ys) (filter (keeps n) ys)) (below z (inl refl)) ∙ ap (λ zs. z ∷ zs) (all_kept n ys (λ w i. below w (inr i)))

  passed : (n : N) (ys : List (N × Y)) → ((z : N × Y) → In z ys → R n z.0 ≡ Less) → (z : N × Y) → In z (filter q ys) → R n z.0 ≡ Less
  passed n ys below z i = below z (kept_in q ys z i).0

  above : (n : N) (e : N × Y) (es : List (N × Y)) → T (list.below_all R e.0 es) → R n e.0 ≡ Less → (z : N × Y) → In z (e ∷ es) → R n z.0 ≡ Less
  above n e es s less z (inl same) = ap (λ (v : N × Y). R n v.0) same ∙ less
  above n e es s less z (inr rest) = o.trans n e.0 z.0 less (below_in R o e.0 es s z rest)

  beyond : (n : N) (e : N × Y) (es : List (N × Y)) → T (list.below_all R e.0 es) → R n e.0 ≡ Equal → (z : N × Y) → In z es → R n z.0 ≡ Less
  beyond n e es s tied z i = ap (λ (k : N). R k z.0) (exact n e.0 tied) ∙ below_in R o e.0 es s z i

  -- what passes is put
  pub bucket_put : (n : N) (y : Y) (es : List (N × Y)) → T (list.is_sorted R es) → q (n, y) ≡ true → filter q (list.put R n y es) ≡ list.put R n y (filter q es)
  bucket_put n y [] s is = ap (λ b. cond b ((n, y) ∷ []) []) is
  bucket_put n y (e ∷ es) s is =
      let later = bucket_put n y es (second _ _ s) is in
      elim (R n e.0) as (λ r. R n e.0 ≡ r → filter q (list.by_order r ((n, y) ∷ e ∷ es) ((e.0, y) ∷ es) (e ∷ list.put R n y es)) ≡ list.put R n y (filter q (e ∷ es))) [
        | Less ↦ λ less.
            ap (λ b. cond b ((n, y) ∷ filter q (e ∷ es)) (filter q (e ∷ es))) is
            ∙ sym (in_front n y (filter q (e ∷ es)) (passed n (e ∷ es) (above n e es (first _ _ s) less)))
        | Equal ↦ λ tied.
            let here : n ≡ e.0 = exact n e.0 tied in
            ap (λ b. cond b ((e.0, y) ∷ filter q es) (filter q es)) (ap (λ (k : N). q (k, y)) (sym here) ∙ is)
            ∙ elim (q e) as (λ b. (e.0, y) ∷ filter q es ≡ list.put R n y (cond b (e ∷ filter q es) (filter q es))) [
              | true ↦ sym (ap (λ r. list.by_order r ((n, y) ∷ e ∷ filter q es) ((e.0, y) ∷ filter q es) (e ∷ list.put R n y (filter q es))) tied)
              | false ↦ ap (λ (k : N). (k, y) ∷ filter q es) (sym here) ∙ sym (in_front n y (filter q es) (passed n es (beyond n e es (first _ _ s) tied)))
            ]
        | Greater ↦ λ more.
            elim (q e) as (λ b. cond b (e ∷ filter q (list.put R n y es)) (filter q (list.put R n y es)) ≡ list.put R n y (cond b (e ∷ filter q es) (filter q es))) [
              | true ↦ ap (λ zs. e ∷ zs) later ∙ sym (ap (λ r. list.by_order r ((n, y) ∷ e ∷ filter q es) ((e.0, y) ∷ filter q es) (e ∷ list.put R n y (filter q es))) more)
              | false ↦ later
            ]
      ] refl

  -- and where it doesn't pass, what stood there is dropped
  pub bucket_drop : (n : N) (y : Y) (es : List (N × Y)) → T (list.is_sorted R es) → q (n, y) ≡ false → filter q (list.put R n y es) ≡ filter (keeps n) (filter q es)
  bucket_drop n y [] s is = ap (λ b. cond b ((n, y) ∷ []) []) is
  bucket_drop n y (e ∷ es) s is =
      let later = bucket_drop n y es (second _ _ s) is in
      elim (R n e.0) as (λ r. R n e.0 ≡ r → filter q (list.by_order r ((n, y) ∷ e ∷ es) ((e.0, y) ∷ es) (e ∷ list.put R n y es)) ≡ filter (keeps n) (filter q (e ∷ es))) [
        | Less ↦ λ less.
            ap (λ b. cond b ((n, y) ∷ filter q (e ∷ es)) (filter q (e ∷ es))) is
            ∙ sym (all_kept n (filter q (e ∷ es)) (passed n (e ∷ es) (above n e es (first _ _ s) less)))
        | Equal ↦ λ tied.
            let here : n ≡ e.0 = exact n e.0 tied in
            let rest = all_kept n (filter q es) (passed n es (beyond n e es (first _ _ s) tied)) in
            ap (λ b. cond b ((e.0, y) ∷ filter q es) (filter q es)) (ap (λ (k : N). q (k, y)) (sym here) ∙ is)
            ∙ elim (q e) as (λ b. filter q es ≡ filter (keeps n) (cond b (e ∷ filter q es) (filter q es))) [
              | true ↦ sym (ap (λ r. cond (not (is_eq r)) (e ∷ filter (keeps n) (filter q es)) (filter (keeps n) (filter q es))) tied ∙ rest)
              | false ↦ sym rest
            ]
        | Greater ↦ λ more.
            elim (q e) as (λ b. cond b (e ∷ filter q (list.put R n y es)) (filter q (list.put R n y es)) ≡ filter (keeps n) (cond b (e ∷ filter q es) (filter q es))) [
              | true ↦ ap (λ zs. e ∷ zs) later ∙ sym (ap (λ r. cond (not (is_eq r)) (e ∷ filter (keeps n) (filter q es)) (filter (keeps n) (filter q es))) more)
              | false ↦ later
            ]
      ] refl

  -- what is put among those of which none has the key is inserted in front of the first that is above it
  abbrev pub place_among : N → List (N × Y) → ℕ
  place_among n ys = prefix_len (λ (e : N × Y). is_gt (R n e.0)) ys

  pub put_fresh : (n : N) (y : Y) (es : List (N × Y)) → T (list.is_sorted R es) → list.put R n y es ≡ insert (filter (keeps n) es) (place_among n (filter (keeps n) es)) (n, y)
  put_fresh n y [] s = refl
  put_fresh n y (e ∷ es) s =
      elim (R n e.0) as (λ r. R n e.0 ≡ r → list.by_order r ((n, y) ∷ e ∷ es) ((e.0, y) ∷ es) (e ∷ list.put R n y es)
      ≡ insert (cond (not (is_eq r)) (e ∷ filter (keeps n) es) (filter (keeps n) es)) (place_among n (cond (not (is_eq r)) (e ∷ filter (keeps n) es) (filter (keeps n) es))) (n, y)) [
        | Less ↦ λ less.
            sym (ap (λ (zs : List (N × Y)). insert (e ∷ zs) (place_among n (e ∷ zs)) (n, y)) (all_kept n es (λ z i. above n e es (first _ _ s) less z (inr i)))
            ∙ ap (λ r. insert (e ∷ es) (cond (is_gt r) (1 + place_among n es) 0) (n, y)) less)
        | Equal ↦ λ tied.
            let below = beyond n e es (first _ _ s) tied in
            ap (λ (k : N). (k, y) ∷ es) (sym (exact n e.0 tied))
            ∙ sym (ap (λ (zs : List (N × Y)). insert zs (place_among n zs) (n, y)) (all_kept n es below) ∙ ap (λ (m : ℕ). insert es m (n, y)) (none_before n es below))
        | Greater ↦ λ more.
            ap (λ zs. e ∷ zs) (put_fresh n y es (second _ _ s))
            ∙ subst (λ (m : ℕ). e ∷ insert (filter (keeps n) es) (place_among n (filter (keeps n) es)) (n, y) ≡ insert (e ∷ filter (keeps n) es) m (n, y)) (sym (one-add (place_among n (filter (keeps n) es)))) refl
            ∙ sym (ap (λ r. insert (e ∷ filter (keeps n) es) (cond (is_gt r) (1 + place_among n (filter (keeps n) es)) 0) (n, y)) more)
      ] refl
    where
      none_before : (n : N) (ys : List (N × Y)) → ((z : N × Y) → In z ys → R n z.0 ≡ Less) → place_among n ys ≡ 0
      none_before n [] below = refl
      none_before n (z ∷ ys) below = ap (λ r. cond (is_gt r) (1 + place_among n ys) 0) (below z (inl refl))

-- filters in either order
pub filters_swap : {A : Type 0} (p q : A → Bool) (xs : List A) → filter p (filter q xs) ≡ filter q (filter p xs)
filters_swap p q [] = refl
filters_swap p q (x ∷ xs) =
    elim (p x) as (λ b. p x ≡ b → filter p (cond (q x) (x ∷ filter q xs) (filter q xs)) ≡ filter q (cond b (x ∷ filter p xs) (filter p xs))) [
      | true ↦ λ e. elim (q x) as (λ c. q x ≡ c → filter p (cond c (x ∷ filter q xs) (filter q xs)) ≡ cond c (x ∷ filter q (filter p xs)) (filter q (filter p xs))) [
        | true ↦ λ f. ap (λ b. cond b (x ∷ filter p (filter q xs)) (filter p (filter q xs))) e ∙ ap (λ ys. x ∷ ys) (filters_swap p q xs)
        | false ↦ λ f. filters_swap p q xs
      ] refl
      | false ↦ λ e. elim (q x) as (λ c. filter p (cond c (x ∷ filter q xs) (filter q xs)) ≡ filter q (filter p xs)) [
        | true ↦ ap (λ b. cond b (x ∷ filter p (filter q xs)) (filter p (filter q xs))) e ∙ filters_swap p q xs
        | false ↦ filters_swap p q xs
      ]
    ] refl

-- a filter that all pass
pub filter_all : {A : Type 0} (p : A → Bool) (xs : List A) → ((x : A) → In x xs → p x ≡ true) → filter p xs ≡ xs
filter_all p [] all = refl
filter_all p (x ∷ xs) all = ap (λ b. cond b (x ∷ filter p xs) (filter p xs)) (all x (inl refl)) ∙ ap (λ ys. x ∷ ys) (filter_all p xs (λ y i. all y (inr i)))
