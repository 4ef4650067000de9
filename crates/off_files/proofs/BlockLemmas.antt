-- Blocks of two lists joined.
use Rattle.std.proofs.Common.{◌≡◌, ℕ, zero, suc, ◌-◌, ◌*◌, ◌≤◌, List, [], ◌∷◌, ◌++◌, length, take, drop, refl, sym, ap, ◌∙◌, arith}
use Rattle.off_file_rules.specs.Block.{block}

take_join : (n : ℕ) (a b : List ℕ) → take n (a ++ b) ≡ take n a ++ take (n - length (take n a)) b
take_join zero a b = refl
take_join (suc n) [] b =
    let e : suc n ≡ suc n - 0 = omega arith in
    ap (λ (m : ℕ). take m b) e
take_join (suc n) (x ∷ a) b =
    let e : n - length (take n a) ≡ suc n - suc (length (take n a)) = omega arith in
    ap (λ (y : List ℕ). x ∷ y) (take_join n a b ∙ ap (λ (m : ℕ). take n a ++ take m b) e)

drop_join : (n : ℕ) (a b : List ℕ) → drop n (a ++ b) ≡ drop n a ++ drop (n - length a) b
drop_join zero a b =
    let e : 0 ≡ 0 - length a = omega arith in
    ap (λ (m : ℕ). a ++ drop m b) e
drop_join (suc n) [] b =
    let e : suc n ≡ suc n - 0 = omega arith in
    ap (λ (m : ℕ). drop m b) e
drop_join (suc n) (x ∷ a) b =
    let e : n - length a ≡ suc n - suc (length a) = omega arith in
    drop_join n a b ∙ ap (λ (m : ℕ). drop n a ++ drop m b) e

block_is : (file : List ℕ) (size n : ℕ) → 1 ≤ n → block file size n ≡ take size (drop ((n - 1) * size) file)
block_is file size zero counted = absurd (omega arith)
block_is file size (suc before) counted =
    let e : before ≡ suc before - 1 = omega arith in
    ap (λ (m : ℕ). take size (drop (m * size) file)) e

-- the part of a block in the first list, and what is left of it in the second
pub block_joins : (body tail : List ℕ) (size n : ℕ) (first rest : List ℕ) → 1 ≤ n → first ≡ take size (drop ((n - 1) * size) body)
    → rest ≡ take (size - length first) (drop ((n - 1) * size - length body) tail) → first ++ rest ≡ block (body ++ tail) size n
block_joins body tail size n first rest counted f r =
    let start : ℕ = (n - 1) * size in
    let front : List ℕ = drop ((n - 1) * size) body in
    ap (λ (x : List ℕ). first ++ x) r
    ∙ ap (λ (x : List ℕ). x ++ take (size - length x) (drop ((n - 1) * size - length body) tail)) f
    ∙ sym (take_join size (drop ((n - 1) * size) body) (drop ((n - 1) * size - length body) tail))
    ∙ ap (take size) (sym (drop_join ((n - 1) * size) body tail))
    ∙ sym (block_is (body ++ tail) size n counted)
