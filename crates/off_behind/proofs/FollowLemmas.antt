-- Writes that are taken whatever leases their addresses had; and what is kept without room.
use Rattle.std.proofs.Common.{◌≡◌, ℕ, zero, suc, ◌+◌, ◌<◌, ◌≤◌, ◌⊎◌, inl, inr, Bool, true, false, cond, length, get_or, arith, Option, Some, List, [], ◌∷◌, refl, sym, ap, ◌∙◌}
use Rattle.std.proofs.lemmas.Bool.Decides.{nat_tests}
use Rattle.std.proofs.lemmas.Bool.{cases_lt}
use Rattle.std.specs.Prelude.{◌==◌}
use Rattle.std.specs.List.{filter}
use Rattle.off_base.specs.declared.addresses.Ip4.{Ip4}
use Rattle.off_defs.specs.declared.tables.DeviceLease.{DeviceLease}
use Rattle.off_defs.specs.declared.writes.Write.{Write}
use Rattle.off_defs.specs.State.{Tables}
use Rattle.off_defs.specs.Tables.{written}
use Rattle.off_account_rules.specs.Rows.{devices}
use Rattle.off_behind.specs.Buckets.{Leases, Bucket, bucket_at, is_in, Indexes, leases_in, Keeps}
use Rattle.off_behind.specs.Changes.{change_of, taken, without_address}
use Rattle.off_behind.proofs.ListingLemmas.{devices_sorted}
use Rattle.off_behind.proofs.StepLemmas.{changed, written_devices, taken_is, kept_few}

-- ---- one write

pub followed : (t : Tables) (w : Write) (a : Ip4) (new : Option DeviceLease) (old mid after : List Bucket) → Some (a, new) ≡ change_of w
    → ((p : ℕ) → p < 16384 → bucket_at mid p ≡ without_address a (bucket_at old p))
    → ((p : ℕ) → bucket_at after p ≡ taken p a new (bucket_at mid p)) → Indexes old (devices t) → Indexes after (devices (written t w))
followed t w a new old mid after is left put stands p within =
    put p
    ∙ ap (taken p a new) (left p within ∙ ap (without_address a) (stands p within))
    ∙ taken_is p a new (devices t) (devices_sorted t)
    ∙ ap (λ (change : Option (Ip4 × Option DeviceLease)). filter (is_in p) (changed change (devices t))) is
    ∙ ap (filter (is_in p)) (sym (written_devices t w))

-- ---- one bucket after another

if_other : (p i : ℕ) (xs ys : Leases) → (p ≡ i → ⊥) → cond (p == i) xs ys ≡ ys
if_other p i xs ys apart =
    elim (p == i) as (λ b. p == i ≡ b → cond b xs ys ≡ ys) [
      | true ↦ λ e. absurd (apart (let h : (p == i) ≡ true = e in grind (arith, nat_tests)))
      | false ↦ λ e. refl
    ] refl

if_same : (p i : ℕ) (xs ys : Leases) → p ≡ i → cond (p == i) xs ys ≡ xs
if_same p i xs ys same =
    elim (p == i) as (λ b. p == i ≡ b → cond b xs ys ≡ xs) [
      | true ↦ λ e. refl
      | false ↦ λ e. absurd (let h : (p == i) ≡ false = e in grind (arith, nat_tests))
    ] refl

module _ (keeps : Ip4 × DeviceLease → Bool) (i : ℕ) (first mid new : List Bucket)
    (becomes : (p : ℕ) → bucket_at new p ≡ cond (p == i) (filter keeps (bucket_at mid i)) (bucket_at mid p))
    (ahead : (p : ℕ) → i ≤ p → bucket_at mid p ≡ bucket_at first p) where
  pub gone_ahead : (p : ℕ) → i + 1 ≤ p → bucket_at new p ≡ bucket_at first p
  gone_ahead p past = becomes p ∙ if_other p i (filter keeps (bucket_at mid i)) (bucket_at mid p) (λ e. omega (arith, e, past)) ∙ ahead p (omega (arith, past))

  pub gone_behind : ((p : ℕ) → p < i → bucket_at mid p ≡ filter keeps (bucket_at first p)) → (p : ℕ) → p < i + 1 → bucket_at new p ≡ filter keeps (bucket_at first p)
  gone_behind behind p within =
      elim (cases_lt p i) as (λ c. bucket_at new p ≡ filter keeps (bucket_at first p)) [
        | inl below ↦ becomes p ∙ if_other p i (filter keeps (bucket_at mid i)) (bucket_at mid p) (λ e. omega (arith, e, below)) ∙ behind p below
        | inr above ↦
            let here : p ≡ i = omega (arith, above, within) in
            becomes p ∙ if_same p i (filter keeps (bucket_at mid i)) (bucket_at mid p) here ∙ ap (filter keeps) (ahead i (omega arith) ∙ ap (bucket_at first) (sym here))
      ]

  pub gone_few : ((p : ℕ) → length (bucket_at mid p) ≤ length (bucket_at first p)) → (p : ℕ) → length (bucket_at new p) ≤ length (bucket_at first p)
  gone_few few p =
      elim (cases_same p) as (λ c. length (bucket_at new p) ≤ length (bucket_at first p)) [
        | inl here ↦
            let e = ap (λ (xs : Leases). length xs) (becomes p ∙ if_same p i (filter keeps (bucket_at mid i)) (bucket_at mid p) here) in
            let f = ap (λ (n : ℕ). length (bucket_at mid n)) here in
            omega (arith, e, f, few_left (bucket_at mid i), few p)
        | inr apart ↦
            let e = ap (λ (xs : Leases). length xs) (becomes p ∙ if_other p i (filter keeps (bucket_at mid i)) (bucket_at mid p) apart) in
            omega (arith, e, few p)
      ]
    where
      few_left : (xs : Leases) → length (filter keeps xs) ≤ length xs
      few_left xs = kept_few _ xs

      cases_same : (p : ℕ) → (p ≡ i) ⊎ (p ≡ i → ⊥)
      cases_same p =
          elim (p == i) as (λ b. p == i ≡ b → (p ≡ i) ⊎ (p ≡ i → ⊥)) [
            | true ↦ λ e. inl (let h : (p == i) ≡ true = e in grind (arith, nat_tests))
            | false ↦ λ e. inr (λ same. let h : (p == i) ≡ false = e in grind (arith, nat_tests))
          ] refl

-- ---- what is kept without room

pub leases_at : (buckets : List Bucket) (p : ℕ) → get_or (leases_in buckets) p [] ≡ bucket_at buckets p
leases_at [] p = refl
leases_at (x ∷ xs) zero = refl
leases_at (x ∷ xs) (suc p) = leases_at xs p

pub keeps_stands : (buckets : List Bucket) (leases : Leases) → Keeps (leases_in buckets) leases → Indexes buckets leases
keeps_stands buckets leases keeps p within = sym (leases_at buckets p) ∙ keeps p within

pub stands_keeps : (buckets : List Bucket) (leases : Leases) → Indexes buckets leases → Keeps (leases_in buckets) leases
stands_keeps buckets leases stands p within = leases_at buckets p ∙ stands p within

pub same_leases : (xs ys : List Bucket) → length xs ≡ length ys → ((p : ℕ) → bucket_at xs p ≡ bucket_at ys p) → leases_in xs ≡ leases_in ys
same_leases [] [] len same = refl
same_leases [] (y ∷ ys) len same = absurd (omega (arith, len))
same_leases (x ∷ xs) [] len same = absurd (omega (arith, len))
same_leases (x ∷ xs) (y ∷ ys) len same =
    ap (λ (l : Leases). l ∷ leases_in xs) (same 0) ∙ ap (λ (ls : List Leases). y.0 ∷ ls) (same_leases xs ys (omega (arith, len)) (λ p. same (suc p)))
