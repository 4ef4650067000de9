-- Pools in a list by number: what goes and what comes, by the place where the code looks.
use Rattle.std.proofs.Common.{◌≡◌, ℕ, suc, ◌+◌, Bool, true, false, cond, not, ◌||◌, T, List, [], ◌∷◌, ◌++◌, take, drop, get_or, Some, None, refl, sym, ap, subst, ◌∙◌, one-add}
use Rattle.std.specs.List.{prefix_len, AllByRecursion, insert, remove, list_any}
use Rattle.std.specs.Ordering.{nat_cmp, is_gt, is_eq, eq_by_cmp}
use Rattle.std.specs.declared.cmp.Ordering.TheVariants.{Less, Equal, Greater}
use Rattle.std.specs.FinMap.Entries as list
use Rattle.std.proofs.lemmas.Cmp.{nat_cmp_total}
use Rattle.off_defs.specs.declared.tables.Pool.{Pool}
use Rattle.off_defs.proofs.EntryLemmas.{first, second}
use Rattle.off_defs.proofs.PlaceLemmas.{all_above}
use Rattle.off_runs.specs.Held.{PoolHeld, head, heads}
use Rattle.off_runs.specs.Shelf.{left_of, gone_of, is_first, placed}

abbrev pub place : ℕ → List PoolHeld → ℕ
place n ps = prefix_len (λ (p : PoolHeld). is_gt (nat_cmp n p.number)) ps

pub left_at : (n : ℕ) (ps : List PoolHeld) → is_first n (drop (place n ps) ps) ≡ true → remove ps (place n ps) ≡ left_of n ps
left_at n [] e = cc
left_at n (p ∷ ps) e =
    elim (nat_cmp n p.number) as (λ r. nat_cmp n p.number ≡ r → is_first n (drop (cond (is_gt r) (1 + place n ps) 0) (p ∷ ps)) ≡ true
    → take (cond (is_gt r) (1 + place n ps) 0) (p ∷ ps) ++ drop (suc (cond (is_gt r) (1 + place n ps) 0)) (p ∷ ps) ≡ list.by_order r (p ∷ ps) ps (p ∷ left_of n ps)) [
      | Less ↦ λ r f. let g : is_eq (nat_cmp n p.number) ≡ false = ap is_eq r in cc
      | Equal ↦ λ r f. refl
      | Greater ↦ λ r.
          subst (λ m. is_first n (drop m (p ∷ ps)) ≡ true → take m (p ∷ ps) ++ drop (suc m) (p ∷ ps) ≡ p ∷ left_of n ps) (sym (one-add (place n ps)))
          (λ f. ap (λ (xs : List PoolHeld). p ∷ xs) (left_at n ps f))
    ] refl e

pub gone_at : (n : ℕ) (ps : List PoolHeld) (x : PoolHeld) → is_first n (drop (place n ps) ps) ≡ true → x ≡ get_or ps (place n ps) x → x ∷ [] ≡ gone_of n ps
gone_at n [] x e is = cc
gone_at n (p ∷ ps) x e is =
    elim (nat_cmp n p.number) as (λ r. nat_cmp n p.number ≡ r → is_first n (drop (cond (is_gt r) (1 + place n ps) 0) (p ∷ ps)) ≡ true
    → x ≡ get_or (p ∷ ps) (cond (is_gt r) (1 + place n ps) 0) x → x ∷ [] ≡ list.by_order r [] (p ∷ []) (gone_of n ps)) [
      | Less ↦ λ r f i. let g : is_eq (nat_cmp n p.number) ≡ false = ap is_eq r in cc
      | Equal ↦ λ r f i. ap (λ (y : PoolHeld). y ∷ []) i
      | Greater ↦ λ r.
          subst (λ m. is_first n (drop m (p ∷ ps)) ≡ true → x ≡ get_or (p ∷ ps) m x → x ∷ [] ≡ gone_of n ps) (sym (one-add (place n ps))) (λ f i. gone_at n ps x f i)
    ] refl e is

pub left_none : (n : ℕ) (ps : List PoolHeld) → is_first n (drop (place n ps) ps) ≡ false → ps ≡ left_of n ps
left_none n [] e = refl
left_none n (p ∷ ps) e =
    elim (nat_cmp n p.number) as (λ r. nat_cmp n p.number ≡ r → is_first n (drop (cond (is_gt r) (1 + place n ps) 0) (p ∷ ps)) ≡ false
    → p ∷ ps ≡ list.by_order r (p ∷ ps) ps (p ∷ left_of n ps)) [
      | Less ↦ λ r f. refl
      | Equal ↦ λ r f. let g : is_eq (nat_cmp n p.number) ≡ true = ap is_eq r in cc
      | Greater ↦ λ r.
          subst (λ m. is_first n (drop m (p ∷ ps)) ≡ false → p ∷ ps ≡ p ∷ left_of n ps) (sym (one-add (place n ps))) (λ f. ap (λ (xs : List PoolHeld). p ∷ xs) (left_none n ps f))
    ] refl e

pub gone_none : (n : ℕ) (ps : List PoolHeld) → is_first n (drop (place n ps) ps) ≡ false → [] ≡ gone_of n ps
gone_none n [] e = refl
gone_none n (p ∷ ps) e =
    elim (nat_cmp n p.number) as (λ r. nat_cmp n p.number ≡ r → is_first n (drop (cond (is_gt r) (1 + place n ps) 0) (p ∷ ps)) ≡ false
    → [] ≡ list.by_order r [] (p ∷ []) (gone_of n ps)) [
      | Less ↦ λ r f. refl
      | Equal ↦ λ r f. let g : is_eq (nat_cmp n p.number) ≡ true = ap is_eq r in cc
      | Greater ↦ λ r. subst (λ m. is_first n (drop m (p ∷ ps)) ≡ false → [] ≡ gone_of n ps) (sym (one-add (place n ps))) (λ f. gone_none n ps f)
    ] refl e

pub placed_at : (f : PoolHeld) (ps : List PoolHeld) → insert ps (place f.number ps) f ≡ placed f ps
placed_at f [] = refl
placed_at f (p ∷ ps) =
    elim (nat_cmp f.number p.number) as (λ r. insert (p ∷ ps) (cond (is_gt r) (1 + place f.number ps) 0) f ≡ list.by_order r (f ∷ p ∷ ps) (f ∷ p ∷ ps) (p ∷ placed f ps)) [
      | Less ↦ refl
      | Equal ↦ refl
      | Greater ↦ subst (λ m. insert (p ∷ ps) m f ≡ p ∷ placed f ps) (sym (one-add (place f.number ps))) (ap (λ (xs : List PoolHeld). p ∷ xs) (placed_at f ps))
    ]

-- what holds of all holds of what is left and of what goes, and of what comes where it holds of that
pub left_all : (P : PoolHeld → Type 0) (n : ℕ) (ps : List PoolHeld) → AllByRecursion P ps → AllByRecursion P (left_of n ps)
left_all P n [] all = all
left_all P n (p ∷ ps) all =
    elim (nat_cmp n p.number) as (λ r. AllByRecursion P (list.by_order r (p ∷ ps) ps (p ∷ left_of n ps))) [ Less ↦ all | Equal ↦ all.1 | Greater ↦ (all.0, left_all P n ps all.1) ]

pub gone_all : (P : PoolHeld → Type 0) (n : ℕ) (ps : List PoolHeld) → AllByRecursion P ps → AllByRecursion P (gone_of n ps)
gone_all P n [] all = all
gone_all P n (p ∷ ps) all = elim (nat_cmp n p.number) as (λ r. AllByRecursion P (list.by_order r [] (p ∷ []) (gone_of n ps))) [ Less ↦ tt | Equal ↦ (all.0, tt) | Greater ↦ gone_all P n ps all.1 ]

pub placed_all : (P : PoolHeld → Type 0) (f : PoolHeld) (ps : List PoolHeld) → P f → AllByRecursion P ps → AllByRecursion P (placed f ps)
placed_all P f [] one all = (one, tt)
placed_all P f (p ∷ ps) one all =
    elim (nat_cmp f.number p.number) as (λ r. AllByRecursion P (list.by_order r (f ∷ p ∷ ps) (f ∷ p ∷ ps) (p ∷ placed f ps))) [
      | Less ↦ (one, all)
      | Equal ↦ (one, all)
      | Greater ↦ (all.0, placed_all P f ps one all.1)
    ]

-- nothing is lost that passes a test
or_swap : (a b c : Bool) → (a || (b || c)) ≡ (b || (a || c))
or_swap true true c = refl
or_swap true false c = refl
or_swap false true c = refl
or_swap false false c = refl

or_false : (a : Bool) → (a || false) ≡ a
or_false true = refl
or_false false = refl

pub none_lost : (t : PoolHeld → Bool) (n : ℕ) (ps : List PoolHeld) → (list_any t (gone_of n ps) || list_any t (left_of n ps)) ≡ list_any t ps
none_lost t n [] = refl
none_lost t n (p ∷ ps) =
    elim (nat_cmp n p.number) as (λ r. (list_any t (list.by_order r [] (p ∷ []) (gone_of n ps)) || list_any t (list.by_order r (p ∷ ps) ps (p ∷ left_of n ps))) ≡ (t p || list_any t ps)) [
      | Less ↦ refl
      | Equal ↦ ap (λ b. b || list_any t ps) (or_false (t p))
      | Greater ↦ or_swap (list_any t (gone_of n ps)) (t p) (list_any t (left_of n ps)) ∙ ap (λ b. t p || b) (none_lost t n ps)
    ]

pub placed_more : (t : PoolHeld → Bool) (f : PoolHeld) (ps : List PoolHeld) → list_any t (placed f ps) ≡ (t f || list_any t ps)
placed_more t f [] = refl
placed_more t f (p ∷ ps) =
    elim (nat_cmp f.number p.number) as (λ r. list_any t (list.by_order r (f ∷ p ∷ ps) (f ∷ p ∷ ps) (p ∷ placed f ps)) ≡ (t f || (t p || list_any t ps))) [
      | Less ↦ refl
      | Equal ↦ refl
      | Greater ↦ ap (λ b. t p || b) (placed_more t f ps) ∙ or_swap (t p) (t f) (list_any t ps)
    ]

-- ---- the heads are a map by number

pub heads_left : (n : ℕ) (ps : List PoolHeld) → T (list.is_sorted nat_cmp (heads ps)) → heads (left_of n ps) ≡ list.where_key nat_cmp (λ x. not (eq_by_cmp nat_cmp n x)) (heads ps)
heads_left n [] s = refl
heads_left n (p ∷ ps) s =
    elim (nat_cmp n p.number) as (λ r. nat_cmp n p.number ≡ r → heads (list.by_order r (p ∷ ps) ps (p ∷ left_of n ps))
    ≡ cond (not (is_eq r)) (head p ∷ list.where_key nat_cmp (λ x. not (eq_by_cmp nat_cmp n x)) (heads ps)) (list.where_key nat_cmp (λ x. not (eq_by_cmp nat_cmp n x)) (heads ps))) [
      | Less ↦ λ r. ap (λ (x : List (ℕ × Pool)). head p ∷ x) (sym (all_above nat_cmp n nat_cmp_total p.number Less r refl (heads ps) (first _ _ s)))
      | Equal ↦ λ r. sym (all_above nat_cmp n nat_cmp_total p.number Equal r refl (heads ps) (first _ _ s))
      | Greater ↦ λ r. ap (λ (x : List (ℕ × Pool)). head p ∷ x) (heads_left n ps (second _ _ s))
    ] refl

pub heads_placed : (f : PoolHeld) (ps : List PoolHeld) → list.find nat_cmp f.number (heads ps) ≡ None → heads (placed f ps) ≡ list.put nat_cmp f.number f.pool (heads ps)
heads_placed f [] e = refl
heads_placed f (p ∷ ps) e =
    elim (nat_cmp f.number p.number) as (λ r. cond (is_eq r) (Some p.pool) (list.find nat_cmp f.number (heads ps)) ≡ None
    → heads (list.by_order r (f ∷ p ∷ ps) (f ∷ p ∷ ps) (p ∷ placed f ps))
    ≡ list.by_order r ((f.number, f.pool) ∷ heads (p ∷ ps)) ((p.number, f.pool) ∷ heads ps) (head p ∷ list.put nat_cmp f.number f.pool (heads ps))) [
      | Less ↦ λ g. refl
      | Equal ↦ λ g. cc
      | Greater ↦ λ g. ap (λ (x : List (ℕ × Pool)). head p ∷ x) (heads_placed f ps g)
    ] e
