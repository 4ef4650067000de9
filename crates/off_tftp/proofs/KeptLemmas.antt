-- A place in a list of entries in order, by a test that parts them. For any keys, values and order.
use Rattle.std.proofs.Common.{◌≡◌, ℕ, zero, suc, ◌<◌, ◌≤◌, Bool, true, false, T, List, [], ◌∷◌, length, slice_index_or, refl, sym, ap, ◌∙◌, arith}
use Rattle.std.specs.List.{prefix_len}
use Rattle.std.specs.List.Sorted.{IsPartitionPoint}
use Rattle.std.proofs.lemmas.List.Sums.{prefix_len_is}
use Rattle.std.specs.Cmp.{IsTotalOrder}
use Rattle.std.specs.Ordering.{is_gt}
use Rattle.std.specs.declared.cmp.Ordering.{Ordering}
use Rattle.std.specs.declared.cmp.Ordering.TheVariants.{Less}
use Rattle.std.specs.FinMap.Entries.{below_all, is_sorted}
use Rattle.off_defs.proofs.EntryLemmas.{is_less, holds, first, second}
use Rattle.off_defs.proofs.PlaceLemmas.{lower}

above_front : {K : Type 0} (R : K → K → Ordering) → IsTotalOrder R → (k e x : K) → R e x ≡ Less → is_gt (R k x) ≡ true → (b : Bool) → is_gt (R k e) ≡ b → b ≡ true
above_front R total k e x is over true low = refl
above_front R total k e x is over false low = ap is_gt (sym (lower R total k e (R k e) refl low x is)) ∙ over

-- a point that parts a list by a test is how many pass it in front
pub point_is : {X : Type 0} (p : X → Bool) (xs : List X) (n : ℕ) → n ≤ length xs → IsPartitionPoint (λ y. p y ≡ true) (λ y. p y ≡ false) xs n → n ≡ prefix_len p xs
point_is p [] n bound parts = omega (arith, bound)
point_is p (x ∷ xs) n bound parts = sym (prefix_len_is p (x ∷ xs) n x bound (λ k l. parts.0 k x (omega arith) l) (λ l. parts.1 n x (omega arith) l))

module _ {K X : Type 0} (R : K → K → Ordering) (k : K) (total : IsTotalOrder R) where
  -- a key that is above an entry is above all in front of it
  below_at : (key : K) (es : List (K × X)) → T (below_all R key es) → (n : ℕ) (d : K × X) → n < length es → R key (slice_index_or es n d).0 ≡ Less
  below_at key [] h n d within = absurd (omega (arith, within))
  below_at key (e ∷ es) h zero d within = is_less (R key e.0) (holds _ (first _ _ h))
  below_at key (e ∷ es) h (suc n) d within = below_at key es (second _ _ h) n d (omega (arith, within))

  pub parted : (es : List (K × X)) → T (is_sorted R es) → (i j : ℕ) (d : K × X) → i ≤ j → j < length es
      → is_gt (R k (slice_index_or es j d).0) ≡ true → is_gt (R k (slice_index_or es i d).0) ≡ true
  parted [] h i j d below within over = absurd (omega (arith, within))
  parted (e ∷ es) h zero zero d below within over = over
  parted (e ∷ es) h zero (suc j) d below within over =
      above_front R total k e.0 (slice_index_or es j d).0 (below_at e.0 es (first _ _ h) j d (omega (arith, within))) over (is_gt (R k e.0)) refl
  parted (e ∷ es) h (suc i) zero d below within over = absurd (omega (arith, below))
  parted (e ∷ es) h (suc i) (suc j) d below within over = parted es (second _ _ h) i j d (omega (arith, below)) (omega (arith, within)) over
