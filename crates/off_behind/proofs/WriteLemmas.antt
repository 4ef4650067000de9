-- Writes one after another.
use Rattle.std.proofs.Common.{◌≡◌, inl, inr, ℕ, zero, suc, ◌+◌, ◌-◌, ◌<◌, ◌≤◌, Bool, true, false, ◌||◌, Option, Some, List, [], ◌∷◌, length, take, get_or, refl, sym, ap, ◌∙◌, arith, add-one}
use Rattle.std.proofs.lemmas.Bool.{or_left, or_right, cases_Bool}
use Rattle.std.specs.List.{list_any, slice_get}
use Rattle.off_defs.specs.declared.tables.DeviceLease.{DeviceLease}
use Rattle.off_defs.specs.declared.writes.Write.{Write}
use Rattle.off_defs.specs.State.{Tables}
use Rattle.off_defs.specs.Tables.{written, write_all}
use Rattle.off_behind.specs.Buckets.{Bucket, bucket_at, room_at}
use Rattle.off_behind.specs.Changes.{old_at, olds_of, puts_in, HasRoomFor}

-- the lease that its address had
pub old_there : (t : Tables) (ws : List Write) (i : ℕ) (w : Write) (former : Option DeviceLease) → slice_get ws i ≡ Some w → former ≡ get_or (olds_of t ws) i former
    → former ≡ old_at (write_all t (take i ws)) w
old_there t [] i w former is at = cc
old_there t (x ∷ xs) zero w former is at = let same : x ≡ w = cc in at ∙ ap (old_at t) same
old_there t (x ∷ xs) (suc i) w former is at = old_there (written t x) xs i w former is at

-- a write of the list passes
pub any_there : (test : Write → Bool) (ws : List Write) (i : ℕ) (w : Write) → slice_get ws i ≡ Some w → test w ≡ true → list_any test ws ≡ true
any_there test [] i w is passes = cc
any_there test (x ∷ xs) zero w is passes = let same : x ≡ w = cc in or_left (test x) (list_any test xs) (ap test same ∙ passes)
any_there test (x ∷ xs) (suc i) w is passes = or_right (test x) (list_any test xs) (any_there test xs i w is passes)

-- those so far and one more
any_more : (test : Write → Bool) (ws : List Write) (i : ℕ) (w : Write) → slice_get ws i ≡ Some w → list_any test (take (i + 1) ws) ≡ (list_any test (take i ws) || test w)
any_more test ws i w is = ap (λ n. list_any test (take n ws)) (add-one i) ∙ go ws i is
  where
    or_none : (b : Bool) → (b || false) ≡ b
    or_none true = refl
    or_none false = refl

    or_each : (a b c : Bool) → (a || (b || c)) ≡ ((a || b) || c)
    or_each true b c = refl
    or_each false b c = refl

    go : (xs : List Write) (k : ℕ) → slice_get xs k ≡ Some w → list_any test (take (suc k) xs) ≡ (list_any test (take k xs) || test w)
    go [] k e = cc
    go (x ∷ xs) zero e = let same : x ≡ w = cc in or_none (test x) ∙ ap test same
    go (x ∷ xs) (suc k) e = ap (λ b. test x || b) (go xs k e) ∙ or_each (test x) (list_any test (take k xs)) (test w)

-- one that doesn't pass changes nothing
pub none_more : (test : Write → Bool) (ws : List Write) (i : ℕ) (w : Write) → slice_get ws i ≡ Some w → list_any test (take i ws) ≡ false → test w ≡ false → list_any test (take (i + 1) ws) ≡ false
none_more test ws i w is before clear = any_more test ws i w is ∙ ap (λ b. b || test w) before ∙ clear

pub any_before : (test : Write → Bool) (ws : List Write) (i : ℕ) (w : Write) → slice_get ws i ≡ Some w → test w ≡ false → list_any test (take (i + 1) ws) ≡ true → list_any test (take i ws) ≡ true
any_before test ws i w is clear any = sym (or_clear (list_any test (take i ws)) (test w) clear) ∙ sym (any_more test ws i w is) ∙ any
  where
    or_clear : (a b : Bool) → b ≡ false → (a || b) ≡ a
    or_clear true b e = refl
    or_clear false b e = e

pub room_more : (more : ℕ) (ws : List Write) (i : ℕ) (w : Write) (old new : List Bucket) → slice_get ws i ≡ Some w → HasRoomFor more (take i ws) old
    → ((p : ℕ) → bucket_at new p ≡ bucket_at old p) → ((p : ℕ) → room_at old p ≤ room_at new p) → ((p : ℕ) → puts_in p w ≡ true → length (bucket_at old p) + more ≤ room_at new p)
    → HasRoomFor more (take (i + 1) ws) new
room_more more ws i w old new is room same rooms here p within puts =
    let size : length (bucket_at new p) ≡ length (bucket_at old p) = ap length (same p) in
    elim (cases_Bool (puts_in p w)) as (λ c. length (bucket_at new p) + more ≤ room_at new p) [
      | inl puts_one ↦ omega (arith, size, here p puts_one)
      | inr clear ↦
          let before : list_any (puts_in p) (take i ws) ≡ true = any_before (puts_in p) ws i w is clear puts in
          omega (arith, size, room p within before, rooms p)
    ]

-- room that is left behind one write
pub room_left : (n i : ℕ) (ws : List Write) (old new : List Bucket) → i < n → HasRoomFor (n - i) ws old → ((p : ℕ) → length (bucket_at new p) ≤ length (bucket_at old p) + 1)
    → ((p : ℕ) → room_at old p ≤ room_at new p) → HasRoomFor (n - (i + 1)) ws new
room_left n i ws old new below room grown rooms p within puts = omega (arith, below, room p within puts, grown p, rooms p)
