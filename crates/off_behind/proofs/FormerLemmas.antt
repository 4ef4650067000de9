-- The lease of an address behind writes, by the last of them that changes it.
use Rattle.std.proofs.Common.{◌≡◌, ℕ, zero, suc, ◌+◌, ◌<◌, ◌≤◌, Bool, true, false, cond, not, Option, Some, None, unwrap_or, option_and_then, List, [], ◌∷◌, ◌++◌, length, take, refl, sym, ap, subst, ◌∙◌, arith}
use Rattle.std.proofs.lemmas.Bool.{not-true, not-false}
use Rattle.std.specs.List.{slice_get, filter}
use Rattle.std.specs.Ordering.{eq_by_cmp}
use Rattle.off_base.specs.declared.addresses.Ip4.{Ip4}
use Rattle.off_defs.specs.declared.keys.Key.TheVariants as key
use Rattle.off_defs.specs.declared.tables.Row.{Row}
use Rattle.off_defs.specs.declared.tables.Row.TheVariants as row
use Rattle.off_defs.specs.declared.tables.DeviceLease.{DeviceLease}
use Rattle.off_defs.specs.declared.writes.Write.{Write}
use Rattle.off_defs.specs.declared.writes.Write.TheVariants.{Put, Drop}
use Rattle.off_defs.specs.State.{Tables}
use Rattle.off_defs.specs.Tables.{row_at, with_row, written, write_all}
use Rattle.off_defs.proofs.TableLemmas.{row_with, row_without}
use Rattle.off_account_rules.specs.Rows.{passes, as_device, device_in}
use Rattle.off_account_rules.specs.Good.{is_address}
use Rattle.off_outside.specs.KeeperSeen.{KeeperSeen}
use Rattle.off_outside.specs.KeeperCalls.{Spent}
use Rattle.off_outside.proofs.KeeperLemmas.{reads_as, reads_none, spent_none, spent_one, spent_then, spent_within}
use Rattle.off_cpe_laws.proofs.RowLemmas.{device_read, device_without}
use Rattle.off_base.proofs.TreeLemmas.{taken}
use Rattle.off_behind.specs.Changes.{change_of, old_at, olds_of, by_address}
use Rattle.off_behind.specs.Neighbours.{is_elsewhere, elsewhere}
use Rattle.off_defs.proofs.TableLemmas.{written_more}

-- what a change leaves to an address
abbrev pub left_to : Ip4 → Option (Ip4 × Option DeviceLease) → Option DeviceLease → Option DeviceLease
left_to address None lease = lease
left_to address (Some change) lease = cond (eq_by_cmp by_address address change.0) change.1 lease

read_held : (a : Ip4) (held : Row) → device_read a (Some held) ≡ as_device held
read_held a (row.Device lease) = refl
read_held a held = refl

put_read : (t : Tables) (b : Ip4) (held : Row) (a : Ip4) → device_in (with_row t (key.Device b) held) a ≡ cond (eq_by_cmp by_address a b) (as_device held) (device_in t a)
put_read t b held a =
    ap (device_read a) (row_with t (key.Device b) held (key.Device a))
    ∙ elim (eq_by_cmp by_address a b) as (λ c. device_read a (cond c (Some held) (row_at t (key.Device a))) ≡ cond c (as_device held) (device_in t a)) [
      | true ↦ read_held a held
      | false ↦ refl
    ]

pub device_written : (t : Tables) (w : Write) (a : Ip4) → device_in (written t w) a ≡ left_to a (change_of w) (device_in t a)
device_written t (Put (key.Device b) held) a = put_read t b held a
device_written t (Drop (key.Device b)) a = device_without t b a
device_written t (Put k held) a = ap (device_read a) (row_with t k held (key.Device a))
device_written t (Drop k) a = ap (device_read a) (row_without t k (key.Device a))

pub left_none : (t : Tables) (w : Write) (a : Ip4) (found : Option (Option DeviceLease)) (was : Option DeviceLease) → None ≡ change_of w → device_in t a ≡ unwrap_or found was
    → device_in (written t w) a ≡ unwrap_or found was
left_none t w a found was is so_far = device_written t w a ∙ ap (λ (c : Option (Ip4 × Option DeviceLease)). left_to a c (device_in t a)) (sym is) ∙ so_far

pub left_other : (t : Tables) (w : Write) (a b : Ip4) (lease : Option DeviceLease) (found : Option (Option DeviceLease)) (was : Option DeviceLease) → Some (b, lease) ≡ change_of w
    → not (eq_by_cmp by_address a b) ≡ true → device_in t a ≡ unwrap_or found was → device_in (written t w) a ≡ unwrap_or found was
left_other t w a b lease found was is other so_far =
    device_written t w a
    ∙ ap (λ (c : Option (Ip4 × Option DeviceLease)). left_to a c (device_in t a)) (sym is)
    ∙ ap (λ c. cond c lease (device_in t a)) (not-true (eq_by_cmp by_address a b) other)
    ∙ so_far

pub left_own : (t : Tables) (w : Write) (a b : Ip4) (lease : Option DeviceLease) → Some (b, lease) ≡ change_of w → not (eq_by_cmp by_address a b) ≡ false → device_in (written t w) a ≡ lease
left_own t w a b lease is own =
    device_written t w a
    ∙ ap (λ (c : Option (Ip4 × Option DeviceLease)). left_to a c (device_in t a)) (sym is)
    ∙ ap (λ c. cond c lease (device_in t a)) (not-false (eq_by_cmp by_address a b) own)

-- one write more before the place
pub before_more : (t : Tables) (ws : List Write) (i : ℕ) (w : Write) (a : Ip4) (old new : Option (Option DeviceLease)) → slice_get ws i ≡ Some w
    → ((u : Tables) (was : Option DeviceLease) → device_in u a ≡ unwrap_or old was → device_in (written u w) a ≡ unwrap_or new was)
    → device_in (write_all t (take i ws)) a ≡ unwrap_or old (device_in t a) → device_in (write_all t (take (i + 1) ws)) a ≡ unwrap_or new (device_in t a)
before_more t ws i w a old new is step so_far =
    ap (λ (u : Tables). device_in u a) (written_more t ws i w is) ∙ step (write_all t (take i ws)) (device_in t a) so_far

-- the lease of the address of a write
pub old_none : (u : Tables) (w x : Write) → Some x ≡ Some w → None ≡ change_of x → None ≡ old_at u w
old_none u w x same is = let e : x ≡ w = cc in is_none (is ∙ ap change_of e)
  where
    is_none : None ≡ change_of w → None ≡ old_at u w
    is_none f = ap (option_and_then (λ (change : Ip4 × Option DeviceLease). device_in u change.0)) f

pub old_some : (u : Tables) (w x : Write) (a : Ip4) (lease : Option DeviceLease) → Some x ≡ Some w → Some (a, lease) ≡ change_of x → device_in u a ≡ old_at u w
old_some u w x a lease same is = let e : x ≡ w = cc in ap (option_and_then (λ (change : Ip4 × Option DeviceLease). device_in u change.0)) (is ∙ ap change_of e)

-- the leases that are read so far are those of the writes so far
olds_more : (t : Tables) (ws : List Write) (i : ℕ) (w : Write) (old : Option DeviceLease) (olds : List (Option DeviceLease)) → slice_get ws i ≡ Some w → old ≡ old_at (write_all t (take i ws)) w
    → olds ≡ take i (olds_of t ws) → olds ++ old ∷ [] ≡ take (i + 1) (olds_of t ws)
olds_more t ws i w old olds is at so_far =
    ap (λ (xs : List (Option DeviceLease)). xs ++ old ∷ []) so_far ∙ go t ws i is at ∙ ap (λ n. take n (olds_of t ws)) (sym (next i))
  where
    next : (n : ℕ) → n + 1 ≡ suc n
    next n = omega arith

    go : (u : Tables) (xs : List Write) (k : ℕ) → slice_get xs k ≡ Some w → old ≡ old_at (write_all u (take k xs)) w → take k (olds_of u xs) ++ old ∷ [] ≡ take (suc k) (olds_of u xs)
    go u [] k e f = cc
    go u (x ∷ xs) zero e f = let same : x ≡ w = cc in ap (λ (o : Option DeviceLease). o ∷ []) (f ∙ ap (old_at u) (sym same))
    go u (x ∷ xs) (suc k) e f = ap (λ (ys : List (Option DeviceLease)). old_at u x ∷ ys) (go (written u x) xs k e f)

-- the write at a place
some_there : (ws : List Write) (i : ℕ) → i < length ws → (w : Write) × (slice_get ws i ≡ Some w)
some_there [] i within = absurd (omega arith)
some_there (w ∷ ws) zero within = (w, refl)
some_there (w ∷ ws) (suc i) within = some_there ws i (omega arith)

pub olds_grow : (t : Tables) (ws : List Write) (i : ℕ) (old : Option DeviceLease) (olds : List (Option DeviceLease)) → i < length ws
    → ((w : Write) → slice_get ws i ≡ Some w → old ≡ old_at (write_all t (take i ws)) w) → olds ≡ take i (olds_of t ws) → olds ++ old ∷ [] ≡ take (i + 1) (olds_of t ws)
olds_grow t ws i old olds within at so_far = let there = some_there ws i within in olds_more t ws i there.0 old olds there.1 (at there.0 there.1) so_far

pub length-olds : (t : Tables) (ws : List Write) → length (olds_of t ws) ≡ length ws
length-olds t [] = refl
length-olds t (w ∷ ws) = ap suc (length-olds (written t w) ws)

-- ---- how many of them are read

length-filter-append : {A : Type 0} (p : A → Bool) (xs ys : List A) → length (filter p (xs ++ ys)) ≡ length (filter p xs) + length (filter p ys)
length-filter-append p [] ys = omega arith
length-filter-append p (x ∷ xs) ys =
    elim (p x) as (λ b. length (cond b (x ∷ filter p (xs ++ ys)) (filter p (xs ++ ys))) ≡ length (cond b (x ∷ filter p xs) (filter p xs)) + length (filter p ys)) [
      | true ↦ omega (arith, length-filter-append p xs ys)
      | false ↦ length-filter-append p xs ys
    ]

length-filter-one : {A : Type 0} (p : A → Bool) (x : A) → length (filter p (x ∷ [])) ≡ cond (p x) 1 0
length-filter-one p x = elim (p x) as (λ b. length (cond b (x ∷ []) []) ≡ cond b 1 0) [ true ↦ refl | false ↦ refl ]

few_taken : {A : Type 0} (p : A → Bool) (xs : List A) (k : ℕ) → length (filter p (take k xs)) ≤ length (filter p xs)
few_taken p xs zero = omega arith
few_taken p [] (suc k) = omega arith
few_taken p (x ∷ xs) (suc k) =
    elim (p x) as (λ b. length (cond b (x ∷ filter p (take k xs)) (filter p (take k xs))) ≤ length (cond b (x ∷ filter p xs) (filter p xs))) [
      | true ↦ omega (arith, few_taken p xs k)
      | false ↦ few_taken p xs k
    ]

pub spent_grows : (known : Option (Ip4 × DeviceLease)) (ws : List Write) (i : ℕ) {a b c : KeeperSeen} → i < length ws → Spent (length (elsewhere known (take i ws))) a b
    → ((w : Write) → slice_get ws i ≡ Some w → Spent (cond (is_elsewhere known w) 1 0) b c) → Spent (length (elsewhere known (take (i + 1) ws))) a c
spent_grows known ws i within so_far one =
    let there = some_there ws i within in
    spent_within (spent_then so_far (one there.0 there.1))
    (omega (
      arith,
      ap (λ (xs : List Write). length (elsewhere known xs)) (taken ws i there.0 there.1),
      length-filter-append (is_elsewhere known) (take i ws) (there.0 ∷ []),
      length-filter-one (is_elsewhere known) there.0,
    ))

pub spent_in_all : (known : Option (Ip4 × DeviceLease)) (ws : List Write) (i : ℕ) {a b : KeeperSeen} → Spent (length (elsewhere known (take i ws))) a b → Spent (length (elsewhere known ws)) a b
spent_in_all known ws i so_far = spent_within so_far (few_taken (is_elsewhere known) ws i)

-- a write whose address is the one that is known asks none, and each other one asks one at most
pub spent_at : (known : Option (Ip4 × DeviceLease)) (w x : Write) (a : Ip4) (lease : Option DeviceLease) {b c : KeeperSeen} → Some x ≡ Some w → Some (a, lease) ≡ change_of x
    → Spent (cond (passes (λ entry. is_address a entry.0) known) 0 1) b c → Spent (cond (is_elsewhere known w) 1 0) b c
spent_at known w x a lease {b} {c} same is spent =
    let e : x ≡ w = cc in
    subst (λ (n : ℕ). Spent n b c)
    (swapped (passes (λ (entry : Ip4 × DeviceLease). is_address a entry.0) known)
    ∙ ap (λ (change : Option (Ip4 × Option DeviceLease)). cond (passes (λ (ch : Ip4 × Option DeviceLease). not (passes (λ (entry : Ip4 × DeviceLease). is_address ch.0 entry.0) known)) change) 1 0) (is ∙ ap change_of e)) spent
  where
    swapped : (b : Bool) → ◌≡◌ {A = ℕ} (cond b 0 1) (cond (not b) 1 0)
    swapped true = refl
    swapped false = refl

-- one reading at most
pub ruleset one_read = (reads_as, reads_none, spent_none, spent_one, spent_within)
