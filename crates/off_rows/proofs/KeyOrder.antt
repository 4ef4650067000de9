-- Keys are ordered as their bytes are: numbers as their bytes with the most significant first, and then one list behind another.
use Rattle.std.proofs.Common.{◌≡◌, ℕ, zero, suc, ◌+◌, ◌*◌, ◌/◌, ◌%◌, ◌<◌, ◌^◌, List, [], ◌∷◌, ◌++◌, length, refl, sym, ap, ◌∙◌, arith, Option, Some, None, MatchOption}
use Rattle.std.specs.Cmp.{nat_cmp_is, ranks}
use Rattle.std.specs.Ordering.{nat_cmp, ordering_then, MatchOrdering}
use Rattle.std.specs.Cmp.Lexicographic.{slice_cmp}
use Rattle.std.specs.Int.{byte_at, bytes_high_first, to_be_bytes, w32}
use Rattle.std.specs.declared.cmp.Ordering.{Ordering}
use Rattle.std.specs.declared.cmp.Ordering.TheVariants.{Less, Equal, Greater}
use Rattle.std.proofs.Math.Nat.{pow-succ'}
use Rattle.std.proofs.Math.Arith.{mod-mul}
use Rattle.std.proofs.lemmas.Nat.{mul-add-lt, mod_below}
use Rattle.off_defs.specs.declared.keys.Key.TheVariants.{Site, Subscriber, AddOn, Modem, Class, Pool, Lease, Held, Batch, Hub, PoolHub, DevicePool, Device}
use Rattle.off_defs.specs.declared.keys.Key.{Key}
use Rattle.off_rows.specs.KeyBytes.{key_bytes, IsRanged}
use Rattle.off_rows.specs.Laws.{OrderedAsBytes, OneKey}
use Rattle.off_defs.proofs.KeyLemmas.{key_exact}

-- a digit and what stands behind it
lex_ranks : (B a b x y : ℕ) (r s : Ordering) → x < B → y < B → MatchOrdering r (a < b) (a ≡ b) (b < a) → MatchOrdering s (x < y) (x ≡ y) (y < x) → MatchOrdering (ordering_then r s) (a * B + x < b * B + y) (a * B + x ≡ b * B + y) (b * B + y < a * B + x)
lex_ranks B a b x y Less s p q m n = omega (arith, mul-add-lt a B x b m p)
lex_ranks B a b x y Equal Less p q m n = let e = ap (λ (k : ℕ). k * B) m in omega arith
lex_ranks B a b x y Equal Equal p q m n = let e = ap (λ (k : ℕ). k * B) m in omega arith
lex_ranks B a b x y Equal Greater p q m n = let e = ap (λ (k : ℕ). k * B) m in omega arith
lex_ranks B a b x y Greater s p q m n = omega (arith, mul-add-lt b B y a m q)

lex : (B a b x y : ℕ) → x < B → y < B → ordering_then (nat_cmp a b) (nat_cmp x y) ≡ nat_cmp (a * B + x) (b * B + y)
lex B a b x y p q =
    nat_cmp_is (a * B + x) (b * B + y) (ordering_then (nat_cmp a b) (nat_cmp x y)) (lex_ranks B a b x y (nat_cmp a b) (nat_cmp x y) p q (ranks a b) (ranks x y))

byte_at_is : (k n : ℕ) → byte_at k n ≡ n / 256 ^ k % 256
byte_at_is zero n = omega arith
byte_at_is (suc k) n = refl

power_positive : (k : ℕ) → 0 < 256 ^ k
power_positive zero = omega arith
power_positive (suc k) = let e = pow-succ' 256 k in omega (arith, power_positive k)

-- the lowest digits of a number: the highest of them, and those below it
low_digits : (k n : ℕ) → n % 256 ^ suc k ≡ byte_at k n * 256 ^ k + n % 256 ^ k
low_digits k n =
    ap (λ (b : ℕ). n % b) (pow-succ' 256 k)
    ∙ (mod-mul n {m = 256} {c = 256 ^ k} (omega arith) (power_positive k) ∙ ap (λ (d : ℕ). d * 256 ^ k + n % 256 ^ k) (sym (byte_at_is k n)))

pub digits_cmp : (k n m : ℕ) → slice_cmp nat_cmp (bytes_high_first k n) (bytes_high_first k m) ≡ nat_cmp (n % 256 ^ k) (m % 256 ^ k)
digits_cmp zero n m = nat_cmp_is (n % 256 ^ zero) (m % 256 ^ zero) Equal (omega arith)
digits_cmp (suc k) n m =
    ap (λ (o : Ordering). ordering_then (nat_cmp (byte_at k n) (byte_at k m)) o) (digits_cmp k n m)
    ∙ (lex (256 ^ k) (byte_at k n) (byte_at k m) (n % 256 ^ k) (m % 256 ^ k) (mod_below n (256 ^ k) (power_positive k)) (mod_below m (256 ^ k) (power_positive k))
    ∙ (ap (λ (x : ℕ). nat_cmp x (byte_at k m * 256 ^ k + m % 256 ^ k)) (sym (low_digits k n)) ∙ ap (λ (x : ℕ). nat_cmp (n % 256 ^ suc k) x) (sym (low_digits k m))))

-- numbers that so many digits can say
number_cmp : (k n m : ℕ) → n % 256 ^ k ≡ n → m % 256 ^ k ≡ m → slice_cmp nat_cmp (bytes_high_first k n) (bytes_high_first k m) ≡ nat_cmp n m
number_cmp k n m p q = digits_cmp k n m ∙ (ap (λ (x : ℕ). nat_cmp x (m % 256 ^ k)) p ∙ ap (λ (x : ℕ). nat_cmp n x) q)

word_cmp : (n m : ℕ) → n < 2 ^ 32 → m < 2 ^ 32 → slice_cmp nat_cmp (bytes_high_first 4 n) (bytes_high_first 4 m) ≡ nat_cmp n m
word_cmp n m p q = number_cmp 4 n m (omega arith) (omega arith)

long_cmp : (n m : ℕ) → n < 2 ^ 64 → m < 2 ^ 64 → slice_cmp nat_cmp (bytes_high_first 8 n) (bytes_high_first 8 m) ≡ nat_cmp n m
long_cmp n m p q = number_cmp 8 n m (omega arith) (omega arith)

then_equal : (o : Ordering) → ordering_then o Equal ≡ o
then_equal Less = refl
then_equal Equal = refl
then_equal Greater = refl

then_assoc : (o p q : Ordering) → ordering_then (ordering_then o p) q ≡ ordering_then o (ordering_then p q)
then_assoc Less p q = refl
then_assoc Equal p q = refl
then_assoc Greater p q = refl

-- lists of one length, each with a byte behind it
cmp_behind : (xs ys : List ℕ) (i j : ℕ) → length xs ≡ length ys → slice_cmp nat_cmp (xs ++ i ∷ []) (ys ++ j ∷ []) ≡ ordering_then (slice_cmp nat_cmp xs ys) (nat_cmp i j)
cmp_behind [] [] i j e = then_equal (nat_cmp i j)
cmp_behind [] (y ∷ ys) i j e = absurd (omega arith)
cmp_behind (x ∷ xs) [] i j e = absurd (omega arith)
cmp_behind (x ∷ xs) (y ∷ ys) i j e =
    let long : length xs ≡ length ys = omega arith in
    ap (λ (o : Ordering). ordering_then (nat_cmp x y) o) (cmp_behind xs ys i j long) ∙ sym (then_assoc (nat_cmp x y) (slice_cmp nat_cmp xs ys) (nat_cmp i j))

pub ordered_as_bytes : OrderedAsBytes
ordered_as_bytes Site Site p q = refl
ordered_as_bytes (Subscriber a) (Subscriber b) p q = word_cmp a b p q
ordered_as_bytes (AddOn a i) (AddOn b j) p q =
    cmp_behind (to_be_bytes w32 a) (to_be_bytes w32 b) i j refl ∙ ap (λ (o : Ordering). ordering_then o (nat_cmp i j)) (word_cmp a b p.0 q.0)
ordered_as_bytes (Modem a) (Modem b) p q = refl
ordered_as_bytes (Class a) (Class b) p q = word_cmp a b p q
ordered_as_bytes (Pool a) (Pool b) p q = word_cmp a b p q
ordered_as_bytes (Lease a) (Lease b) p q = word_cmp a.0 b.0 p q
ordered_as_bytes (Held a) (Held b) p q = refl
ordered_as_bytes (Batch a) (Batch b) p q = long_cmp a b p q
ordered_as_bytes (Hub a) (Hub b) p q = word_cmp a b p q
ordered_as_bytes (PoolHub a) (PoolHub b) p q = word_cmp a b p q
ordered_as_bytes (DevicePool a) (DevicePool b) p q = word_cmp a b p q
ordered_as_bytes (Device a) (Device b) p q = word_cmp a.0 b.0 p q
ordered_as_bytes _ _ p q = refl

-- ---- a key's bytes are its own

same_bytes : (bytes : List ℕ) → slice_cmp nat_cmp bytes bytes ≡ Equal
same_bytes [] = refl
same_bytes (b ∷ bytes) =
    let same : nat_cmp b b ≡ Equal = sym (nat_cmp_is b b Equal refl) in
    ap (λ (o : Ordering). ordering_then o (slice_cmp nat_cmp bytes bytes)) same ∙ same_bytes bytes

pub one_key : OneKey
one_key a b p q e =
    key_exact a b (sym (ordered_as_bytes a b p q) ∙ ap (λ (bytes : List ℕ). slice_cmp nat_cmp bytes (key_bytes b)) e ∙ same_bytes (key_bytes b))

pub decodes_key : (bytes : List ℕ) (found : Option Key) → MatchOption found ((key : Key) → IsRanged key → key_bytes key ≡ bytes → ⊥) (λ key. IsRanged key × (key_bytes key ≡ bytes))
    → (key : Key) → IsRanged key → key_bytes key ≡ bytes → found ≡ Some key
decodes_key bytes None none key ranged is = absurd (none key ranged is)
decodes_key bytes (Some given) some key ranged is = ap Some (one_key given key some.0 ranged (some.1 ∙ sym is))
