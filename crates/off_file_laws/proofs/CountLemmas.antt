-- Lists of numbers that lie between two bounds and differ.
use Rattle.std.proofs.Common.{◌≡◌, ℕ, ◌+◌, ◌-◌, ◌<◌, ◌≤◌, Bool, true, false, cond, eqb, nat_lt, List, [], ◌∷◌, ◌++◌, map, refl, sym, ap, subst, ◌∙◌, arith, Option, Some, None}
use Rattle.std.specs.Prelude.{option_map}
use Rattle.std.specs.List.{AllByRecursion}
use Rattle.std.proofs.lemmas.Bool.Decides.{nat_tests}
use Rattle.std.proofs.lemmas.List.{map-append}
use Rattle.std.proofs.lemmas.List.Sums.{sum_by-append}
use Rattle.std.proofs.lemmas.Bool.{ltb-true, ltb-false}
use Rattle.off_base.specs.Tree.{Tree}
use Rattle.off_tree.specs.Fault.{as_list, numbers}
use Rattle.off_tree.specs.Good.{times_in}
use Rattle.off_tree.proofs.GoodLemmas.{count-cons}

above_test : (m n : ℕ) → n < m → eqb m n ≡ false
above_test m n lt = grind (arith, nat_tests)

below_test : (m n : ℕ) → m < n → eqb m n ≡ false
below_test m n lt = grind (arith, nat_tests)

pub shifted_test : (x m by : ℕ) → eqb (x + by) (m + by) ≡ eqb x m
shifted_test x m by = grind (arith, nat_tests)

pub count-append : (n : ℕ) (xs ys : List ℕ) → times_in n (xs ++ ys) ≡ times_in n xs + times_in n ys
count-append n xs ys = sum_by-append (λ (x : ℕ). cond (eqb x n) 1 0) xs ys

-- a number that isn't there
not_here : (n x : ℕ) (xs : List ℕ) → eqb x n ≡ false → times_in n xs ≡ 0 → times_in n (x ∷ xs) ≡ 0
not_here n x xs other e = count-cons n x xs ∙ ap (λ (b : Bool). cond b 1 0 + times_in n xs) other ∙ ap (λ (c : ℕ). 0 + c) e

pub record Apart (low high : ℕ) (ns : List ℕ) : Type 0 where
  pub below : (n : ℕ) → n < low → times_in n ns ≡ 0
  pub above : (n : ℕ) → high ≤ n → times_in n ns ≡ 0
  pub once : (n : ℕ) → times_in n ns ≤ 1

pub apart_none : (low high : ℕ) → Apart low high []
apart_none low high = record { below = λ n lt. refl; above = λ n le. refl; once = λ n. omega arith }

pub apart_wider : (low high lower higher : ℕ) (ns : List ℕ) → lower ≤ low → high ≤ higher → Apart low high ns → Apart lower higher ns
apart_wider low high lower higher ns l h a =
    record { below = λ n lt. a.below n (omega arith); above = λ n le. a.above n (omega arith); once = a.once }

once_by : (two n x y : ℕ) (b : Bool) → nat_lt n two ≡ b → (two ≤ n → x ≡ 0) → (n < two → y ≡ 0) → x ≤ 1 → y ≤ 1 → x + y ≤ 1
once_by two n x y true e f g p q = let z : y ≡ 0 = g (ltb-true n two e) in omega arith
once_by two n x y false e f g p q = let z : x ≡ 0 = f (ltb-false n two e) in omega arith

both_none : (n : ℕ) (xs ys : List ℕ) → times_in n xs ≡ 0 → times_in n ys ≡ 0 → times_in n (xs ++ ys) ≡ 0
both_none n xs ys p q = count-append n xs ys ∙ omega arith

-- two lists, one between lower bounds than the other
pub apart_join : (low one two high : ℕ) (xs ys : List ℕ) → low ≤ two → one ≤ two → one ≤ high → Apart low one xs → Apart two high ys → Apart low high (xs ++ ys)
apart_join low one two high xs ys l m h a b =
    record {
      below = λ n lt. both_none n xs ys (a.below n lt) (b.below n (omega arith));
      above = λ n le. both_none n xs ys (a.above n (omega arith)) (b.above n le);
      once = λ n.
          let sum : times_in n xs + times_in n ys ≤ 1 =
          once_by two n (times_in n xs) (times_in n ys) (nat_lt n two) refl (λ le. a.above n (omega arith)) (λ lt. b.below n lt) (a.once n) (b.once n) in
          omega (arith, count-append n xs ys);
    }

-- ---- numbers that are raised

abbrev pub risen : ℕ → List ℕ → List ℕ
risen by ns = map (λ (x : ℕ). x + by) ns

count_risen : (by m : ℕ) (ns : List ℕ) → times_in (m + by) (risen by ns) ≡ times_in m ns
count_risen by m [] = refl
count_risen by m (x ∷ xs) =
    count-cons (m + by) (x + by) (risen by xs) ∙ ap (λ (b : Bool). cond b 1 0 + times_in (m + by) (risen by xs)) (shifted_test x m by)
    ∙ ap (λ (c : ℕ). cond (eqb x m) 1 0 + c) (count_risen by m xs) ∙ sym (count-cons m x xs)

count_under : (by n : ℕ) (ns : List ℕ) → n < by → times_in n (risen by ns) ≡ 0
count_under by n [] lt = refl
count_under by n (x ∷ xs) lt = not_here n (x + by) (risen by xs) (above_test (x + by) n (omega arith)) (count_under by n xs lt)

risen_by : (by n : ℕ) (ns : List ℕ) (P : ℕ → Type 0) (b : Bool) → nat_lt n by ≡ b → P 0 → ((m : ℕ) → n ≡ m + by → P (times_in m ns)) → P (times_in n (risen by ns))
risen_by by n ns P true e none more = subst P (sym (count_under by n ns (ltb-true n by e))) none
risen_by by n ns P false e none more =
    let le : by ≤ n = ltb-false n by e in
    let is : n ≡ (n - by) + by = omega arith in
    subst P (sym (ap (λ (m : ℕ). times_in m (risen by ns)) is ∙ count_risen by (n - by) ns)) (more (n - by) is)

pub apart_risen : (by low high : ℕ) (ns : List ℕ) → Apart low high ns → Apart (low + by) (high + by) (risen by ns)
apart_risen by low high ns a =
    record {
      below = λ n lt. risen_by by n ns (λ c. c ≡ 0) (nat_lt n by) refl refl (λ m e. a.below m (omega arith));
      above = λ n le. risen_by by n ns (λ c. c ≡ 0) (nat_lt n by) refl refl (λ m e. a.above m (omega arith));
      once = λ n. risen_by by n ns (λ c. c ≤ 1) (nat_lt n by) refl (omega arith) (λ m e. a.once m);
    }

-- ---- the numbers of settings

-- a number is between two bounds, where there is one
abbrev pub Between : ℕ → ℕ → Option ℕ → Type 0
Between low high None = Unit {0}
Between low high (Some n) = (low ≤ n) × (n < high)

under_one : (n low high : ℕ) (o : Option ℕ) (rest : List ℕ) → Between low high o → n < low → times_in n rest ≡ 0 → times_in n (as_list o ++ rest) ≡ 0
under_one n low high None rest b lt e = e
under_one n low high (Some m) rest b lt e = not_here n m rest (above_test m n (omega arith)) e

over_one : (n low high : ℕ) (o : Option ℕ) (rest : List ℕ) → Between low high o → high ≤ n → times_in n rest ≡ 0 → times_in n (as_list o ++ rest) ≡ 0
over_one n low high None rest b le e = e
over_one n low high (Some m) rest b le e = not_here n m rest (below_test m n (omega arith)) e

module _ (f : Tree → Option ℕ) where
  under : (n low high : ℕ) (ts : List Tree) → AllByRecursion (λ t. Between low high (f t)) ts → n < low → times_in n (numbers f ts) ≡ 0
  under n low high [] all lt = refl
  under n low high (t ∷ ts) all lt = under_one n low high (f t) (numbers f ts) all.0 lt (under n low high ts all.1 lt)

  over : (n low high : ℕ) (ts : List Tree) → AllByRecursion (λ t. Between low high (f t)) ts → high ≤ n → times_in n (numbers f ts) ≡ 0
  over n low high [] all le = refl
  over n low high (t ∷ ts) all le = over_one n low high (f t) (numbers f ts) all.0 le (over n low high ts all.1 le)

  pub apart_numbers : (low high : ℕ) (ts : List Tree) → AllByRecursion (λ t. Between low high (f t)) ts → ((n : ℕ) → times_in n (numbers f ts) ≤ 1) → Apart low high (numbers f ts)
  apart_numbers low high ts all once = record { below = λ n lt. under n low high ts all lt; above = λ n le. over n low high ts all le; once = once }

list_risen : (by : ℕ) (o : Option ℕ) → as_list (option_map (λ (n : ℕ). n + by) o) ≡ risen by (as_list o)
list_risen by None = refl
list_risen by (Some n) = refl

pub numbers_risen : (f : Tree → Option ℕ) (g : Tree → Tree) (by : ℕ) (ts : List Tree) → AllByRecursion (λ t. f (g t) ≡ option_map (λ (n : ℕ). n + by) (f t)) ts
    → numbers f (map g ts) ≡ risen by (numbers f ts)
numbers_risen f g by [] all = refl
numbers_risen f g by (t ∷ ts) all =
    ap (λ (o : Option ℕ). as_list o ++ numbers f (map g ts)) all.0 ∙ ap (λ (x : List ℕ). x ++ numbers f (map g ts)) (list_risen by (f t))
    ∙ ap (λ (x : List ℕ). risen by (as_list (f t)) ++ x) (numbers_risen f g by ts all.1)
    ∙ sym (map-append (λ (x : ℕ). x + by) (as_list (f t)) (numbers f ts))
