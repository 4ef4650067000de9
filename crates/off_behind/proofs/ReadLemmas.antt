-- Buckets that take the leases of the tables by a walk.
use Rattle.std.proofs.Common.{◌≡◌, ℕ, ◌<◌, Bool, true, false, cond, Option, Some, None, List, [], ◌∷◌, ◌++◌, refl, sym, ap, ◌∙◌, append_assoc}
use Rattle.std.proofs.lemmas.List.{append-nil}
use Rattle.std.specs.List.{filter, cons_option}
use Rattle.off_base.specs.declared.addresses.Ip4.{Ip4}
use Rattle.off_defs.specs.declared.keys.Key.{Key}
use Rattle.off_defs.specs.declared.keys.Key.TheVariants as key
use Rattle.off_defs.specs.declared.tables.Row.{Row}
use Rattle.off_defs.specs.declared.tables.DeviceLease.{DeviceLease}
use Rattle.off_defs.specs.State.{Tables}
use Rattle.off_defs.specs.Tables.{next_entry}
use Rattle.off_rows.specs.KeyBytes.{kind_of}
use Rattle.off_account_rules.specs.Rows.{device_of, devices}
use Rattle.off_readers.proofs.WalkLemmas.{OnlyAt, left_of, left_next, left_none, kind_begins}
use Rattle.off_behind.specs.Buckets.{Leases, Bucket, bucket_at, is_in, Indexes}

no_device : (k : Key) (r : Row) → ¬ (kind_of k ≡ 13) → device_of (k, r) ≡ None
no_device (key.Device address) r other = absurd (other refl)
no_device _ r other = refl

only_devices : OnlyAt 13 device_of
only_devices = record { others = λ entry other. no_device entry.0 entry.1 other }

-- what is taken and what is left are all leases of each bucket
abbrev pub TakenUpTo : List Bucket → Key → Tables → Type 0
TakenUpTo buckets place t =
    (p : ℕ) → p < 16384 → bucket_at buckets p ++ filter (is_in p) (left_of device_of (Some place) t) ≡ filter (is_in p) (devices t)

pub none_yet : (buckets : List Bucket) (place : Key) (t : Tables) → kind_of place < 13 → ((p : ℕ) → bucket_at buckets p ≡ []) → TakenUpTo buckets place t
none_yet buckets place t lower none p within =
    ap (λ (xs : Leases). xs ++ filter (is_in p) (left_of device_of (Some place) t)) (none p) ∙ ap (filter (is_in p)) (kind_begins only_devices place t lower)

pub all_taken : (buckets : List Bucket) (place : Key) (t : Tables) → TakenUpTo buckets place t → None ≡ next_entry (Some place) t → Indexes buckets (devices t)
all_taken buckets place t so_far next p within =
    sym (append-nil (bucket_at buckets p)) ∙ ap (λ (xs : Leases). bucket_at buckets p ++ filter (is_in p) xs) (sym (left_none device_of (Some place) t next)) ∙ so_far p within

filter_first : (q : Ip4 × DeviceLease → Bool) (given : Option (Ip4 × DeviceLease)) (xs : Leases) → filter q (cons_option given xs) ≡ filter q (cons_option given []) ++ filter q xs
filter_first q None xs = refl
filter_first q (Some x) xs =
    elim (q x) as (λ b. cond b (x ∷ filter q xs) (filter q xs) ≡ cond b (x ∷ []) [] ++ filter q xs) [
      | true ↦ refl
      | false ↦ refl
    ]

pub taken_more : (old new : List Bucket) (place : Key) (e : Key × Row) (t : Tables) → TakenUpTo old place t → Some e ≡ next_entry (Some place) t
    → ((p : ℕ) → p < 16384 → bucket_at new p ≡ bucket_at old p ++ filter (is_in p) (cons_option (device_of e) [])) → TakenUpTo new e.0 t
taken_more old new place e t so_far next taken p within =
    let rest = left_of device_of (Some e.0) t in
    ap (λ (xs : Leases). xs ++ filter (is_in p) rest) (taken p within)
    ∙ append_assoc (bucket_at old p) (filter (is_in p) (cons_option (device_of e) [])) (filter (is_in p) rest)
    ∙ ap (λ (xs : Leases). bucket_at old p ++ xs) (sym (filter_first (is_in p) (device_of e) rest))
    ∙ ap (λ (xs : Leases). bucket_at old p ++ filter (is_in p) xs) (sym (left_next device_of (Some place) e t next))
    ∙ so_far p within
