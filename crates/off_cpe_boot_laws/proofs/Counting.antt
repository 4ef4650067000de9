-- A list of different addresses, each of an entry that counts, is no longer than the count.
use Rattle.std.proofs.Common.{◌≡◌, ◌≢◌, ◌≤◌, ◌+◌, Bool, true, cond, length, List, [], ◌∷◌, inl, inr, sym, ap, ◌∙◌, arith}
use Rattle.std.specs.List.{AllByRecursion, count_by}
use Rattle.off_base.specs.declared.addresses.Ip4.{Ip4}
use Rattle.off_table_laws.proofs.ListLemmas.{In, count_first}
use Rattle.off_cpe_boot_laws.specs.Known.{Differ}

-- a list without one of its elements
rest : {A : Type 0} (e : A) (es : List A) → In e es → List A
rest e [] i = elim i [ ]
rest e (x ∷ xs) (inl same) = xs
rest e (x ∷ xs) (inr i) = x ∷ rest e xs i

in_rest : {A : Type 0} (e : A) (es : List A) (i : In e es) (y : A) → In y es → (y ≡ e → ⊥) → In y (rest e es i)
unfolding rest
in_rest e [] i y j apart = elim i [ ]
in_rest e (x ∷ xs) (inl same) y (inl here) apart = absurd (apart (here ∙ sym same))
in_rest e (x ∷ xs) (inl same) y (inr j) apart = j
in_rest e (x ∷ xs) (inr i) y (inl here) apart = inl here
in_rest e (x ∷ xs) (inr i) y (inr j) apart = inr (in_rest e xs i y j apart)

count_rest : {A : Type 0} (p : A → Bool) (e : A) (es : List A) (i : In e es) → p e ≡ true → count_by p es ≡ 1 + count_by p (rest e es i)
unfolding rest
count_rest p e [] i h = elim i [ ]
count_rest p e (x ∷ xs) (inl same) h = count_first p x xs ∙ ap (λ b. cond b 1 0 + count_by p xs) (ap p (sym same) ∙ h)
count_rest p e (x ∷ xs) (inr i) h = omega (arith, count_first p x xs, count_first p x (rest e xs i), count_rest p e xs i h)

module _ {X : Type 0} (p : Ip4 × X → Bool) where
  -- an entry at the address counts
  pub record Counts (es : List (Ip4 × X)) (address : Ip4) : Type 0 where
    pub entry : Ip4 × X
    pub is : entry.0 ≡ address
    pub inside : In entry es
    pub passes : p entry ≡ true

  narrowed : (es : List (Ip4 × X)) (x : Ip4) (c : Counts es x) (xs : List Ip4) → AllByRecursion (λ y. x ≢ y) xs → AllByRecursion (Counts es) xs
      → AllByRecursion (Counts (rest c.entry es c.inside)) xs
  narrowed es x c [] apart all = tt
  narrowed es x c (y ∷ ys) apart all = (
    record {
      entry = all.0.entry;
      is = all.0.is;
      inside = in_rest c.entry es c.inside all.0.entry all.0.inside (λ same. apart.0 (sym c.is ∙ ap (λ (e : Ip4 × X). e.0) (sym same) ∙ all.0.is));
      passes = all.0.passes;
    },
    narrowed es x c ys apart.1 all.1,
  )

  pub at_least : (xs : List Ip4) (es : List (Ip4 × X)) → Differ xs → AllByRecursion (Counts es) xs → length xs ≤ count_by p es
  at_least [] es differ all = omega arith
  at_least (x ∷ xs) es differ all =
      let c = all.0 in
      let fewer = at_least xs (rest c.entry es c.inside) differ.1 (narrowed es x c xs differ.0 all.1) in
      omega (arith, fewer, count_rest p c.entry es c.inside c.passes)
