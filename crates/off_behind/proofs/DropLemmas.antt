-- Writes of which none puts a lease: what all of them together drop.
use Rattle.std.proofs.Common.{◌≡◌, ℕ, ◌+◌, ◌<◌, Bool, true, false, cond, not, ◌&&◌, ◌||◌, inl, inr, Option, Some, None, List, [], ◌∷◌, take, arith, refl, sym, ap, ◌∙◌, true≢false}
use Rattle.std.proofs.lemmas.Bool.{cases_Bool, false_from_ne_true, ne_eqb, ltb-true}
use Rattle.std.specs.Prelude.{◌==◌, nat_lt, is_some}
use Rattle.std.specs.List.{filter, list_any, slice_get}
use Rattle.std.specs.Ordering.{nat_cmp, is_eq, eq_by_cmp}
use Rattle.std.specs.declared.cmp.Ordering.TheVariants.{Less, Equal, Greater}
use Rattle.off_base.specs.declared.addresses.Ip4.{Ip4}
use Rattle.off_defs.specs.declared.tables.DeviceLease.{DeviceLease}
use Rattle.off_defs.specs.declared.writes.Write.{Write}
use Rattle.off_defs.specs.State.{Tables}
use Rattle.off_defs.specs.Tables.{written, write_all}
use Rattle.off_account_rules.specs.Rows.{passes, devices}
use Rattle.off_behind.specs.Buckets.{Leases, Bucket, bucket_at, is_in, Indexes}
use Rattle.off_behind.specs.Changes.{change_of, by_address}
use Rattle.off_behind.specs.Drops.{Ends, puts, changes, is_between, AreEnds, is_dropped, without_dropped}
use Rattle.off_behind.proofs.StepLemmas.{changed, written_devices}
use Rattle.off_behind.proofs.BucketWrites.{filters_swap, filter_all}
use Rattle.off_behind.proofs.WriteLemmas.{any_before}

-- ---- filters

filter_alike : {A : Type 0} (p q : A → Bool) (xs : List A) → ((x : A) → p x ≡ q x) → filter p xs ≡ filter q xs
filter_alike p q [] same = refl
filter_alike p q (x ∷ xs) same =
    ap (λ b. cond b (x ∷ filter p xs) (filter p xs)) (same x) ∙ ap (λ (ys : List _). cond (q x) (x ∷ ys) ys) (filter_alike p q xs same)

filter_twice : {A : Type 0} (p q : A → Bool) (xs : List A) → filter p (filter q xs) ≡ filter (λ x. q x && p x) xs
filter_twice p q [] = refl
filter_twice p q (x ∷ xs) =
    elim (q x) as (λ b. filter p (cond b (x ∷ filter q xs) (filter q xs)) ≡ cond (b && p x) (x ∷ filter (λ x. q x && p x) xs) (filter (λ x. q x && p x) xs)) [
      | true ↦ ap (λ (ys : List _). cond (p x) (x ∷ ys) ys) (filter_twice p q xs)
      | false ↦ filter_twice p q xs
    ]

-- ---- what the writes leave

abbrev left_by : List Write → Ip4 × DeviceLease → Bool
left_by ws entry = not (list_any (changes entry.0) ws)

neither : (a b : Bool) → (not a && not b) ≡ not (a || b)
neither true b = refl
neither false b = refl

not_first : (a b : Bool) → (a || b) ≡ false → a ≡ false
not_first true b none = absurd (true≢false none)
not_first false b none = refl

not_rest : (a b : Bool) → (a || b) ≡ false → b ≡ false
not_rest true b none = absurd (true≢false none)
not_rest false b none = none

tied : (m n : ℕ) → is_eq (nat_cmp m n) ≡ (m == n)
tied m n =
    elim (nat_lt m n) as (λ b. nat_lt m n ≡ b → is_eq (cond b Less (cond (m == n) Equal Greater)) ≡ (m == n)) [
      | true ↦ λ less. sym (ne_eqb m n (λ same. omega (arith, same, ltb-true m n less)))
      | false ↦ λ more. elim (m == n) as (λ b. is_eq (cond b Equal Greater) ≡ b) [ true ↦ refl | false ↦ refl ]
    ] refl

-- the first of them
first_gone : (w : Write) (ws : List Write) (es : Leases) (change : Option (Ip4 × Option DeviceLease)) → change_of w ≡ change → passes (λ c. is_some c.1) change ≡ false
    → filter (left_by ws) (changed change es) ≡ filter (left_by (w ∷ ws)) es
first_gone w ws es None is none =
    filter_alike (left_by ws) (left_by (w ∷ ws)) es (λ e. sym (ap (λ (c : Option (Ip4 × Option DeviceLease)). not (passes (λ d. d.0.0 == e.0.0) c || list_any (changes e.0) ws)) is))
first_gone w ws es (Some (a, Some lease)) is none = absurd (true≢false none)
first_gone w ws es (Some (a, None)) is none =
    filter_twice (left_by ws) (λ (e : Ip4 × DeviceLease). not (eq_by_cmp by_address a e.0)) es
    ∙ filter_alike (λ (e : Ip4 × DeviceLease). not (eq_by_cmp by_address a e.0) && left_by ws e) (left_by (w ∷ ws)) es (λ e.
    ap (λ b. not b && left_by ws e) (tied a.0 e.0.0)
    ∙ neither (a.0 == e.0.0) (list_any (changes e.0) ws)
    ∙ sym (ap (λ (c : Option (Ip4 × Option DeviceLease)). not (passes (λ d. d.0.0 == e.0.0) c || list_any (changes e.0) ws)) is))

-- and all of them
lost : (t : Tables) (ws : List Write) → list_any puts ws ≡ false → devices (write_all t ws) ≡ filter (left_by ws) (devices t)
lost t [] none = sym (filter_all (left_by []) (devices t) (λ e i. refl))
lost t (w ∷ ws) none =
    lost (written t w) ws (not_rest (puts w) (list_any puts ws) none)
    ∙ ap (filter (left_by ws)) (written_devices t w)
    ∙ first_gone w ws (devices t) (change_of w) refl (not_first (puts w) (list_any puts ws) none)

-- ---- the buckets

and_only : (a b : Bool) → (b ≡ true → a ≡ true) → (a && b) ≡ b
and_only true b h = refl
and_only false true h = h refl
and_only false false h = refl

-- no lease is dropped
pub undropped : (t : Tables) (ws : List Write) (old : List Bucket) → list_any puts ws ≡ false → AreEnds ws None → Indexes old (devices t) → Indexes old (devices (write_all t ws))
undropped t ws old none are stands p within =
    stands p within
    ∙ sym (ap (filter (is_in p)) (lost t ws none ∙ filter_all (left_by ws) (devices t) (λ e i. ap not (false_from_ne_true (list_any (changes e.0) ws) (λ any. true≢false (sym (are e.0 any)))))))

-- some are
pub dropped : (t : Tables) (ws : List Write) (ends : Ends) (old new : List Bucket) → list_any puts ws ≡ false → AreEnds ws (Some ends) → ((p : ℕ) → p < 16384 → bucket_at new p ≡ without_dropped ws ends (bucket_at old p))
    → Indexes old (devices t) → Indexes new (devices (write_all t ws))
dropped t ws ends old new none are left stands p within =
    left p within
    ∙ ap (without_dropped ws ends) (stands p within)
    ∙ filters_swap keeps (is_in p) (devices t)
    ∙ ap (filter (is_in p)) (filter_alike keeps (left_by ws) (devices t) (λ e. ap not (and_only (is_between e.0 ends) (list_any (changes e.0) ws) (are e.0))) ∙ sym (lost t ws none))
  where
    keeps : Ip4 × DeviceLease → Bool
    keeps entry = not (is_dropped ws ends entry.0)

-- ---- between which addresses they lie

pub ends_more : (ws : List Write) (i : ℕ) (w : Write) (old new : Option Ends) → slice_get ws i ≡ Some w → AreEnds (take i ws) old
    → ((a : Ip4) → passes (is_between a) old ≡ true → passes (is_between a) new ≡ true) → ((a : Ip4) → changes a w ≡ true → passes (is_between a) new ≡ true) → AreEnds (take (i + 1) ws) new
ends_more ws i w old new is before same here a any =
    elim (cases_Bool (changes a w)) as (λ c. passes (is_between a) new ≡ true) [
      | inl this ↦ here a this
      | inr clear ↦ same a (before a (any_before (changes a) ws i w is clear any))
    ]
