-- What one write makes of the buckets.
use Rattle.std.proofs.Common.{◌≡◌, ℕ, ◌+◌, ◌≤◌, Bool, true, false, cond, not, length, arith, Option, Some, None, option_and_then, List, [], ◌∷◌, refl, sym, ap, ◌∙◌, true≢false}
use lib.Dec.{T}
use Rattle.std.proofs.lemmas.Grind.{common_steps}
use Rattle.std.proofs.lemmas.Bool.{false_from_ne_true}
use Rattle.std.specs.List.{filter, insert}
use Rattle.std.specs.Ordering.{is_lt, eq_by_cmp}
use Rattle.std.specs.Cmp.{IsTotalOrder}
use Rattle.std.specs.declared.cmp.Ordering.TheVariants.{Equal}
use Rattle.std.specs.FinMap.Entries as list
use Rattle.off_base.specs.declared.addresses.Ip4.{Ip4}
use Rattle.off_defs.specs.declared.keys.Key.TheVariants as key
use Rattle.off_defs.specs.declared.tables.Row.TheVariants as row
use Rattle.off_defs.specs.declared.tables.DeviceLease.{DeviceLease}
use Rattle.off_defs.specs.declared.writes.Write.{Write}
use Rattle.off_defs.specs.declared.writes.Write.TheVariants.{Put, Drop}
use Rattle.off_defs.specs.State.{Tables}
use Rattle.off_defs.specs.Tables.{written}
use Rattle.off_defs.proofs.KeyLemmas.{key_total, key_exact}
use Rattle.off_defs.proofs.EntryLemmas.{is_equal, first, second}
use Rattle.off_account_rules.specs.Rows.{device_in, device_of, devices}
use Rattle.off_table_laws.proofs.ListLemmas.{In, kept_in}
use Rattle.off_table_laws.proofs.MadeLemmas.{made_with, made_without}
use Rattle.off_cpe_laws.proofs.RowLemmas.{listed_device}
use Rattle.off_behind.specs.Buckets.{Leases, Bucket, bucket_at, is_in, Indexes}
use Rattle.off_behind.specs.Changes.{change_of, old_at, holds, by_address, place_in, without_address, taken}
use Rattle.off_defs.proofs.EntryLemmas.{both}
use Rattle.off_behind.proofs.ListingLemmas.{devices_with, devices_without, devices_lost, devices_sorted}
use Rattle.off_behind.proofs.BucketWrites.{bucket_put, bucket_drop, put_fresh, filters_swap, filter_all}

-- addresses are in an order
address_total : IsTotalOrder by_address
address_total = record {
  trans = λ a b c. key_total.trans (key.Device a) (key.Device b) (key.Device c);
  antisymm = λ a b. key_total.antisymm (key.Device a) (key.Device b);
  congr = λ a b c. key_total.congr (key.Device a) (key.Device b) (key.Device c);
}

address_exact : (a b : Ip4) → by_address a b ≡ Equal → a ≡ b
address_exact a b e = let k : key.Device a ≡ key.Device b = key_exact (key.Device a) (key.Device b) e in cc

-- what a change makes of all leases
abbrev pub changed : Option (Ip4 × Option DeviceLease) → Leases → Leases
changed None leases = leases
changed (Some (address, None)) leases = without_address address leases
changed (Some (address, Some lease)) leases = list.put by_address address lease leases

pub written_devices : (t : Tables) (w : Write) → devices (written t w) ≡ changed (change_of w) (devices t)
written_devices t (Put (key.Device a) (row.Device lease)) = devices_with t a lease
written_devices t (Put (key.Device a) held) = devices_lost t a held refl
written_devices t (Drop (key.Device a)) = devices_without t a
written_devices t (Put k held) = made_with device_of k (λ r. refl) t held
written_devices t (Drop k) = made_without device_of k (λ r. refl) t

-- ---- one write

sorted_below : (q : Ip4 × DeviceLease → Bool) (a : Ip4) (es : Leases) → T (list.below_all by_address a es) → T (list.below_all by_address a (filter q es))
sorted_below q a [] h = tt
sorted_below q a (e ∷ es) h =
    let after = sorted_below q a es (second _ _ h) in
    elim (q e) as (λ b. T (list.below_all by_address a (cond b (e ∷ filter q es) (filter q es)))) [
      | true ↦ both (is_lt (by_address a e.0)) (list.below_all by_address a (filter q es)) (first _ _ h) after
      | false ↦ after
    ]

sorted_kept : (q : Ip4 × DeviceLease → Bool) (es : Leases) → T (list.is_sorted by_address es) → T (list.is_sorted by_address (filter q es))
sorted_kept q [] h = tt
sorted_kept q (e ∷ es) h =
    let after = sorted_kept q es (second _ _ h) in
    elim (q e) as (λ b. T (list.is_sorted by_address (cond b (e ∷ filter q es) (filter q es)))) [
      | true ↦ both (list.below_all by_address e.0 (filter q es)) (list.is_sorted by_address (filter q es)) (sorted_below q e.0 es (first _ _ h)) after
      | false ↦ after
    ]

-- a bucket without the address takes its new lease, and is what all leases have of it then
pub taken_is : (p : ℕ) (a : Ip4) (new : Option DeviceLease) (es : Leases) → T (list.is_sorted by_address es) → taken p a new (without_address a (filter (is_in p) es)) ≡ filter (is_in p) (changed (Some (a, new)) es)
taken_is p a None es sorted = filters_swap (λ (entry : Ip4 × DeviceLease). not (eq_by_cmp by_address a entry.0)) (is_in p) es
taken_is p a (Some lease) es sorted =
    let ys = without_address a (filter (is_in p) es) in
    elim (is_in p (a, lease)) as (λ b. is_in p (a, lease) ≡ b → cond b (insert ys (place_in a ys) (a, lease)) ys ≡ filter (is_in p) (list.put by_address a lease es)) [
      | true ↦ λ e.
          sym (put_fresh by_address address_total address_exact (is_in p) a lease (filter (is_in p) es) (sorted_kept (is_in p) es sorted))
          ∙ sym (bucket_put by_address address_total address_exact (is_in p) a lease es sorted e)
      | false ↦ λ e. sym (bucket_drop by_address address_total address_exact (is_in p) a lease es sorted e)
    ] refl

-- once the old lease has gone from its bucket, no bucket has the address
forgotten : (t : Tables) (a : Ip4) (former : Option DeviceLease) (old : List Bucket) (p : ℕ) → former ≡ device_in t a → bucket_at old p ≡ filter (is_in p) (devices t)
    → cond (holds p a former) (without_address a (bucket_at old p)) (bucket_at old p) ≡ without_address a (filter (is_in p) (devices t))
forgotten t a former old p was stands =
    elim (holds p a former) as (λ b. holds p a former ≡ b → cond b (without_address a (bucket_at old p)) (bucket_at old p) ≡ without_address a (filter (is_in p) (devices t))) [
      | true ↦ λ e. ap (without_address a) stands
      | false ↦ λ e. stands ∙ sym (filter_all (λ (entry : Ip4 × DeviceLease). not (eq_by_cmp by_address a entry.0)) (filter (is_in p) (devices t)) (λ z i. other e z (kept_in (is_in p) (devices t) z i)))
    ] refl
  where
    same_address : (z : Ip4) → eq_by_cmp by_address a z ≡ true → a ≡ z
    same_address z e = address_exact a z (is_equal (by_address a z) e)

    other : holds p a former ≡ false → (z : Ip4 × DeviceLease) → In z (devices t) × (is_in p z ≡ true) → not (eq_by_cmp by_address a z.0) ≡ true
    other e z i =
        ap not (false_from_ne_true (eq_by_cmp by_address a z.0) (λ tied.
        let here : a ≡ z.0 = same_address z.0 tied in
        let lease : former ≡ Some z.1 = was ∙ ap (device_in t) here ∙ listed_device t z.0 z.1 i.0 in
        let inside : holds p a former ≡ true = ap (holds p a) lease ∙ i.1 in
        true≢false (sym inside ∙ e)))

-- a write that changes an address's lease
pub stepped : (t : Tables) (w : Write) (a : Ip4) (new former : Option DeviceLease) (old mid after : List Bucket) → Some (a, new) ≡ change_of w → former ≡ old_at t w
    → ((p : ℕ) → bucket_at mid p ≡ cond (holds p a former) (without_address a (bucket_at old p)) (bucket_at old p))
    → ((p : ℕ) → bucket_at after p ≡ taken p a new (bucket_at mid p)) → Indexes old (devices t) → Indexes after (devices (written t w))
stepped t w a new former old mid after is was left put stands p within =
    let had : former ≡ device_in t a = was ∙ ap (option_and_then (λ (change : Ip4 × Option DeviceLease). device_in t change.0)) (sym is) in
    put p
    ∙ ap (taken p a new) (left p ∙ forgotten t a former old p had (stands p within))
    ∙ taken_is p a new (devices t) (devices_sorted t)
    ∙ ap (λ (change : Option (Ip4 × Option DeviceLease)). filter (is_in p) (changed change (devices t))) is
    ∙ ap (filter (is_in p)) (sym (written_devices t w))

-- and one that changes none
pub unstepped : (t : Tables) (w : Write) (old : List Bucket) → None ≡ change_of w → Indexes old (devices t) → Indexes old (devices (written t w))
unstepped t w old is stands p within =
    stands p within ∙ ap (λ (change : Option (Ip4 × Option DeviceLease)). filter (is_in p) (changed change (devices t))) is ∙ ap (filter (is_in p)) (sym (written_devices t w))

-- ---- how many leases a bucket has then

pub kept_few : {A : Type 0} (k : A → Bool) (xs : List A) → length (filter k xs) ≤ length xs
kept_few k [] = omega arith
kept_few k (x ∷ xs) =
    elim (k x) as (λ b. length (cond b (x ∷ filter k xs) (filter k xs)) ≤ length (x ∷ xs)) [
      | true ↦ omega (arith, kept_few k xs)
      | false ↦ omega (arith, kept_few k xs)
    ]

pub left_few : (p : ℕ) (a : Ip4) (former : Option DeviceLease) (leases : Leases) → length (cond (holds p a former) (without_address a leases) leases) ≤ length leases
left_few p a former leases =
    elim (holds p a former) as (λ b. length (cond b (without_address a leases) leases) ≤ length leases) [
      | true ↦ kept_few (λ (entry : Ip4 × DeviceLease). not (eq_by_cmp by_address a entry.0)) leases
      | false ↦ omega arith
    ]

one_longer : (a : Ip4) (lease : DeviceLease) (leases : Leases) → length (insert leases (place_in a leases) (a, lease)) ≡ length leases + 1
one_longer a lease leases = grind (arith, common_steps)

pub taken_few : (p : ℕ) (a : Ip4) (new : Option DeviceLease) (leases : Leases) → length (taken p a new leases) ≤ length leases + 1
taken_few p a None leases = omega arith
taken_few p a (Some lease) leases =
    elim (is_in p (a, lease)) as (λ b. length (cond b (insert leases (place_in a leases) (a, lease)) leases) ≤ length leases + 1) [
      | true ↦ omega (arith, one_longer a lease leases)
      | false ↦ omega arith
    ]
