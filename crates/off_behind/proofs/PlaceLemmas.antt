-- Buckets of which one is changed.
use Rattle.std.proofs.Common.{◌≡◌, ℕ, zero, suc, ◌<◌, ◌≤◌, true, false, cond, eqb, List, [], ◌∷◌, ◌++◌, set, length, get_or, Result, Ok, Err, OnOk, Option, Some, None, inl, inr, ◌⊎◌, refl, sym, ap, ◌∙◌, arith}
use Rattle.std.proofs.lemmas.Bool.{cases_eq, eq-eqb, ne_eqb}
use Rattle.std.proofs.lemmas.List.{get_or-set_same, get_or-set_other, get_or_default, append-nil}
use Rattle.std.specs.List.{filter, insert}
use Rattle.off_base.specs.declared.addresses.Ip4.{Ip4}
use Rattle.off_base.specs.declared.macs.Mac.{Mac}
use Rattle.off_defs.specs.declared.tables.DeviceLease.{DeviceLease}
use Rattle.off_account_rules.specs.Good.{device_owner}
use Rattle.off_account_rules.specs.Rows.{passes}
use Rattle.off_behind.specs.Buckets.{Leases, Bucket, no_bucket, bucket_at, room_at, bucket_of, is_in, Becomes}
use Rattle.off_behind.specs.Changes.{holds, place_in, taken}

pub becomes_set : (xs : List Bucket) (place : ℕ) (x : Bucket) (leases : Leases) → place < length xs → x.0 ≡ leases → room_at xs place ≤ x.1 → Becomes place leases xs (set xs place x)
becomes_set xs place x leases within is roomy = record { leases_are = λ other. leases_at other (cases_eq other place); rooms = λ other. room_is other (cases_eq other place) }
  where
    leases_at : (other : ℕ) → (other ≡ place) ⊎ (other ≡ place → ⊥) → bucket_at (set xs place x) other ≡ cond (eqb other place) leases (bucket_at xs other)
    leases_at other (inl same) =
        ap (λ (n : ℕ). bucket_at (set xs place x) n) same
        ∙ ap (λ (b : Bucket). b.0) (get_or-set_same xs place x no_bucket within)
        ∙ is
        ∙ sym (ap (λ b. cond b leases (bucket_at xs other)) (eq-eqb other place same))
    leases_at other (inr apart) =
        ap (λ (b : Bucket). b.0) (get_or-set_other xs place other x no_bucket apart) ∙ sym (ap (λ b. cond b leases (bucket_at xs other)) (ne_eqb other place apart))

    room_is : (other : ℕ) → (other ≡ place) ⊎ (other ≡ place → ⊥) → room_at xs other ≤ room_at (set xs place x) other
    room_is other (inl same) =
        let new : room_at (set xs place x) place ≡ x.1 = ap (λ (b : Bucket). b.1) (get_or-set_same xs place x no_bucket within) in
        let at : room_at (set xs place x) other ≡ x.1 = ap (λ (n : ℕ). room_at (set xs place x) n) same ∙ new in
        let was : room_at xs other ≡ room_at xs place = ap (room_at xs) same in
        omega (arith, roomy, at, was)
    room_is other (inr apart) =
        let at : room_at (set xs place x) other ≡ room_at xs other = ap (λ (b : Bucket). b.1) (get_or-set_other xs place other x no_bucket apart) in
        omega (arith, at)

-- the bucket at a place
pub seen_at : (xs : List Bucket) (place : ℕ) (x : Bucket) → place < length xs → x ≡ get_or xs place x → x ≡ get_or xs place no_bucket
seen_at xs place x within is = is ∙ get_or_default xs place x no_bucket within

pub on_ok_as : {A E P Q : Type 0} (r : Result A E) → (P → Q) → OnOk r P → OnOk r Q
on_ok_as (Ok x) h p = h p
on_ok_as (Err e) h p = p

-- no bucket has a lease, and one without leases is appended
pub none_more : (xs : List Bucket) (x : Bucket) → ((p : ℕ) → bucket_at xs p ≡ []) → x.0 ≡ [] → (p : ℕ) → bucket_at (xs ++ x ∷ []) p ≡ []
none_more [] x none is zero = is
none_more [] x none is (suc p) = refl
none_more (y ∷ ys) x none is zero = none 0
none_more (y ∷ ys) x none is (suc p) = none_more ys x (λ q. none (suc q)) is p

-- the bucket in which a lease is
in_one : (lease : DeviceLease) (owner : Mac × Mac) (address : Ip4) (p : ℕ) → Some owner ≡ device_owner lease.hold → is_in p (address, lease) ≡ eqb (bucket_of owner.0) p
in_one lease owner address p is = ap (passes (λ (o : Mac × Mac). eqb (bucket_of o.0) p)) (sym is)

-- the bucket of a lease's modem takes it
pub taken_by : (old new : List Bucket) (address : Ip4) (lease : DeviceLease) (owner : Mac × Mac) (place : ℕ) → Some owner ≡ device_owner lease.hold → place ≡ bucket_of owner.0
    → Becomes place (bucket_at old place ++ (address, lease) ∷ []) old new → (p : ℕ) → bucket_at new p ≡ bucket_at old p ++ filter (is_in p) ((address, lease) ∷ [])
taken_by old new address lease owner place is at becomes p = becomes.leases_are p ∙ by_case (cases_eq p place)
  where
    by_case : (p ≡ place) ⊎ (p ≡ place → ⊥) → cond (eqb p place) (bucket_at old place ++ (address, lease) ∷ []) (bucket_at old p) ≡ bucket_at old p ++ cond (is_in p (address, lease)) ((address, lease) ∷ []) []
    by_case (inl same) =
        let inside : is_in p (address, lease) ≡ true = in_one lease owner address p is ∙ eq-eqb (bucket_of owner.0) p (sym at ∙ sym same) in
        ap (λ b. cond b (bucket_at old place ++ (address, lease) ∷ []) (bucket_at old p)) (eq-eqb p place same)
        ∙ ap (λ (n : ℕ). bucket_at old n ++ (address, lease) ∷ []) (sym same)
        ∙ ap (λ b. bucket_at old p ++ cond b ((address, lease) ∷ []) []) (sym inside)
    by_case (inr apart) =
        let outside : is_in p (address, lease) ≡ false = in_one lease owner address p is ∙ ne_eqb (bucket_of owner.0) p (λ e. apart (sym e ∙ sym at)) in
        ap (λ b. cond b (bucket_at old place ++ (address, lease) ∷ []) (bucket_at old p)) (ne_eqb p place apart)
        ∙ sym (append-nil (bucket_at old p))
        ∙ ap (λ b. bucket_at old p ++ cond b ((address, lease) ∷ []) []) (sym outside)

-- a lease without a modem is in none
pub taken_by_none : (old : List Bucket) (address : Ip4) (lease : DeviceLease) → None ≡ device_owner lease.hold → (p : ℕ) → bucket_at old p ≡ bucket_at old p ++ filter (is_in p) ((address, lease) ∷ [])
taken_by_none old address lease is p =
    sym (append-nil (bucket_at old p))
    ∙ ap (λ (o : Option (Mac × Mac)). bucket_at old p ++ cond (passes (λ (w : Mac × Mac). eqb (bucket_of w.0) p) o) ((address, lease) ∷ []) []) is

-- ---- the bucket of a lease that is put

pub put_here : (old : List Bucket) (p place : ℕ) (a : Ip4) (lease : Option DeviceLease) (given : DeviceLease) → lease ≡ Some given → holds place a lease ≡ eqb p place
    → cond (eqb place p) (insert (bucket_at old p) (place_in a (bucket_at old p)) (a, given)) (bucket_at old place) ≡ taken place a lease (bucket_at old place)
put_here old p place a lease given is inside = by_case (cases_eq place p) ∙ ap (λ (o : Option DeviceLease). taken place a o (bucket_at old place)) (sym is)
  where
    here : is_in place (a, given) ≡ eqb p place
    here = sym (ap (holds place a) is) ∙ inside

    by_case : (place ≡ p) ⊎ (place ≡ p → ⊥)
        → cond (eqb place p) (insert (bucket_at old p) (place_in a (bucket_at old p)) (a, given)) (bucket_at old place) ≡ taken place a (Some given) (bucket_at old place)
    by_case (inl same) =
        ap (λ b. cond b (insert (bucket_at old p) (place_in a (bucket_at old p)) (a, given)) (bucket_at old place)) (eq-eqb place p same)
        ∙ ap (λ (n : ℕ). insert (bucket_at old n) (place_in a (bucket_at old n)) (a, given)) (sym same)
        ∙ sym (ap (λ b. cond b (insert (bucket_at old place) (place_in a (bucket_at old place)) (a, given)) (bucket_at old place)) (here ∙ eq-eqb p place (sym same)))
    by_case (inr apart) =
        ap (λ b. cond b (insert (bucket_at old p) (place_in a (bucket_at old p)) (a, given)) (bucket_at old place)) (ne_eqb place p apart)
        ∙ sym (ap (λ b. cond b (insert (bucket_at old place) (place_in a (bucket_at old place)) (a, given)) (bucket_at old place)) (here ∙ ne_eqb p place (λ e. apart (sym e))))

pub put_nowhere : (place : ℕ) (a : Ip4) (lease : Option DeviceLease) (leases : Leases) → holds place a lease ≡ false → leases ≡ taken place a lease leases
put_nowhere place a None leases outside = refl
put_nowhere place a (Some lease) leases outside = sym (ap (λ b. cond b (insert leases (place_in a leases) (a, lease)) leases) outside)

pub is_itself : (p : ℕ) → eqb p p ≡ true
is_itself p = eq-eqb p p refl
