-- Keys in their order have rising heights, so that less and less room is left of a walk.
use Rattle.std.proofs.Common.{◌≡◌, ℕ, zero, suc, ◌+◌, ◌*◌, ◌^◌, ◌<◌, ◌≤◌, true, Some, None, List, [], ◌∷◌, All, length, refl, ap, ◌∙◌, arith}
use Rattle.std.proofs.Math.Nat.{pow-succ'}
use Rattle.std.proofs.lemmas.Nat.{mul-add-lt}
use Rattle.std.proofs.lemmas.List.Elements.{All-head, All-tail, All-nil, All-cons, All-append, All-from_get_or}
use Rattle.std.specs.Prelude.{get_or, ◌++◌}
use Rattle.std.specs.Int.{byte_at, bytes_high_first, to_be_bytes, w32, w64}
use Rattle.std.specs.Cmp.{ranks}
use Rattle.std.specs.Ordering.{nat_cmp, ordering_then, MatchOrdering}
use Rattle.std.specs.Cmp.Lexicographic.{slice_cmp}
use Rattle.std.specs.declared.cmp.Ordering.{Ordering}
use Rattle.std.specs.declared.cmp.Ordering.TheVariants.{Less, Equal, Greater}
use Rattle.off_defs.specs.declared.keys.Key.{Key}
use Rattle.off_defs.specs.declared.keys.Key.TheVariants.{Site, Subscriber, AddOn, Modem, Class, Pool, Lease, Held, Batch, Hub, PoolHub, DevicePool, Device}
use Rattle.off_defs.specs.declared.tables.Row.{Row}
use Rattle.off_defs.specs.Keys.{key_cmp}
use Rattle.off_defs.specs.Tables.{is_after}
use Rattle.off_defs.proofs.EntryLemmas.{is_less}
use Rattle.off_rows.specs.KeyBytes.{key_bytes, IsRanged}
use Rattle.off_rows.proofs.KeyOrder.{ordered_as_bytes}
use Rattle.off_readers.specs.Walks.{height, room, IsAKey, IsBehind}

power_positive : (k : ℕ) → 0 < 257 ^ k
power_positive zero = omega arith
power_positive (suc k) = let e = pow-succ' 257 k in omega (arith, power_positive k)

height_below : (k : ℕ) (bytes : List ℕ) → All (λ byte. byte < 256) bytes → height k bytes < 257 ^ k
unfolding height
height_below zero bytes h = omega arith
height_below (suc k) [] h = power_positive (suc k)
height_below (suc k) (byte ∷ bytes) h =
    let one = All-head (λ x. x < 256) byte bytes h in
    let rest = height_below k bytes (All-tail (λ x. x < 256) byte bytes h) in
    let e = pow-succ' 257 k in
    let digit : suc byte < 257 = omega arith in
    let m = mul-add-lt (suc byte) (257 ^ k) (height k bytes) 257 digit rest in
    omega (arith, m)

rises_by : (B x y a b : ℕ) (r s : Ordering) → a < B → MatchOrdering r (x < y) (x ≡ y) (y < x) → (s ≡ Less → a < b) → ordering_then r s ≡ Less → suc x * B + a < suc y * B + b
rises_by B x y a b Less s p m less e = let digit : suc x < suc y = omega arith in omega (arith, mul-add-lt (suc x) B a (suc y) digit p)
rises_by B x y a b Equal s p m less e = let same = ap (λ (k : ℕ). suc k * B) m in omega (arith, less e)
rises_by B x y a b Greater s p m less e = cc

height_rises : (k : ℕ) (xs ys : List ℕ) → length ys ≤ k → All (λ byte. byte < 256) xs → slice_cmp nat_cmp xs ys ≡ Less → height k xs < height k ys
unfolding height
height_rises zero [] [] fits h e = cc
height_rises zero (x ∷ xs) [] fits h e = cc
height_rises zero xs (y ∷ ys) fits h e = absurd (omega arith)
height_rises (suc k) [] [] fits h e = cc
height_rises (suc k) (x ∷ xs) [] fits h e = cc
height_rises (suc k) [] (y ∷ ys) fits h e = let n = mul-add-lt 0 (257 ^ k) 0 (suc y) (omega arith) (power_positive k) in omega (arith, n)
height_rises (suc k) (x ∷ xs) (y ∷ ys) fits h e =
    let rest = All-tail (λ b. b < 256) x xs h in
    rises_by (257 ^ k) x y (height k xs) (height k ys) (nat_cmp x y) (slice_cmp nat_cmp xs ys) (height_below k xs rest) (ranks x y)
    (λ less. height_rises k xs ys (omega arith) rest less) e

key_length : (key : Key) → IsRanged key → length (key_bytes key) ≤ 9
key_length Site r = omega arith
key_length (Subscriber n) r = omega arith
key_length (AddOn n i) r = omega arith
key_length (Modem mac) r = omega arith
key_length (Class n) r = omega arith
key_length (Pool n) r = omega arith
key_length (Lease a) r = omega arith
key_length (Held mac) r = omega arith
key_length (Batch n) r = omega arith
key_length (Hub n) r = omega arith
key_length (PoolHub n) r = omega arith
key_length (DevicePool n) r = omega arith
key_length (Device a) r = omega arith

-- the bytes of a number, and those of a hardware address
number_bytes : (k n : ℕ) → All (λ byte. byte < 256) (bytes_high_first k n)
number_bytes zero n = All-nil (λ byte. byte < 256)
number_bytes (suc zero) n = All-cons (λ byte. byte < 256) (byte_at zero n) [] (omega arith) (All-nil (λ byte. byte < 256))
number_bytes (suc (suc k)) n = All-cons (λ byte. byte < 256) (byte_at (suc k) n) (bytes_high_first (suc k) n) (omega arith) (number_bytes (suc k) n)

mac_bytes : (bytes : List ℕ) → ((i : ℕ) → get_or bytes i 0 < 256) → All (λ byte. byte < 256) bytes
mac_bytes bytes small = All-from_get_or (λ byte. byte < 256) bytes 0 (λ i within. small i)

kind_first : (kind : ℕ) (bytes : List ℕ) → kind < 256 → All (λ byte. byte < 256) bytes → All (λ byte. byte < 256) (kind ∷ bytes)
kind_first kind bytes low rest = All-cons (λ byte. byte < 256) kind bytes low rest

all_bytes : (key : Key) → IsAKey key → All (λ byte. byte < 256) (key_bytes key)
all_bytes Site p = kind_first 1 [] (omega arith) (All-nil (λ byte. byte < 256))
all_bytes (Subscriber n) p = kind_first 2 (to_be_bytes w32 n) (omega arith) (number_bytes 4 n)
all_bytes (AddOn n i) p =
    kind_first 3 (to_be_bytes w32 n ++ i ∷ []) (omega arith)
    (All-append (λ byte. byte < 256) (to_be_bytes w32 n) (i ∷ []) (number_bytes 4 n) (All-cons (λ byte. byte < 256) i [] p.0.1 (All-nil (λ byte. byte < 256))))
all_bytes (Modem mac) p = kind_first 4 mac.0 (omega arith) (mac_bytes mac.0 p.1)
all_bytes (Class n) p = kind_first 5 (to_be_bytes w32 n) (omega arith) (number_bytes 4 n)
all_bytes (Pool n) p = kind_first 6 (to_be_bytes w32 n) (omega arith) (number_bytes 4 n)
all_bytes (Lease a) p = kind_first 7 (to_be_bytes w32 a.0) (omega arith) (number_bytes 4 a.0)
all_bytes (Held mac) p = kind_first 8 mac.0 (omega arith) (mac_bytes mac.0 p.1)
all_bytes (Batch n) p = kind_first 9 (to_be_bytes w64 n) (omega arith) (number_bytes 8 n)
all_bytes (Hub n) p = kind_first 10 (to_be_bytes w32 n) (omega arith) (number_bytes 4 n)
all_bytes (PoolHub n) p = kind_first 11 (to_be_bytes w32 n) (omega arith) (number_bytes 4 n)
all_bytes (DevicePool n) p = kind_first 12 (to_be_bytes w32 n) (omega arith) (number_bytes 4 n)
all_bytes (Device a) p = kind_first 13 (to_be_bytes w32 a.0) (omega arith) (number_bytes 4 a.0)

key_rises : (a b : Key) → IsAKey a → IsAKey b → key_cmp a b ≡ Less → height 9 (key_bytes a) < height 9 (key_bytes b)
key_rises a b p q e = height_rises 9 (key_bytes a) (key_bytes b) (key_length b q.0) (all_bytes a p) (ordered_as_bytes a b p.0 q.0 ∙ e)

key_below : (key : Key) → IsAKey key → height 9 (key_bytes key) < 257 ^ 9
key_below key p = height_below 9 (key_bytes key) (all_bytes key p)

-- behind the first place
pub all_behind : (entry : Key × Row) → IsBehind None entry
unfolding room
all_behind entry = record { after = refl; less = omega arith }

-- behind a key
pub one_behind : (place : Key) (entry : Key × Row) → IsAKey place → IsAKey entry.0 → is_after (Some place) entry ≡ true → IsBehind (Some place) entry
unfolding room
one_behind place entry p q after =
    record { after = after; less = omega (arith, key_rises place entry.0 p q (is_less (key_cmp place entry.0) after), key_below entry.0 q) }
