-- Two lists of entries whose keys differ, and in which each key has the same value, count alike.
use Rattle.std.proofs.Common.{◌≡◌, Bool, true, false, cond, List, [], ◌∷◌, Some, None, option_map, count_by, refl, sym, ap, ◌∙◌, arith}
use Rattle.std.specs.Cmp.{IsEquivalence}
use Rattle.std.specs.List.{AllByRecursion, IsDistinct}
use Rattle.std.specs.Map.{lookup, remove_entry, keys_of, values_of}
use Rattle.std.specs.Option.{unwrap_or}
use Rattle.std.proofs.lemmas.List.Sums.{sum_by-cons}
use Rattle.std.proofs.lemmas.Map.{lookup-none, lookup-remove_entry}
use Rattle.std.proofs.lemmas.Map.Entries.{none_past_head, sum_by-remove_entry}
use Rattle.std.proofs.lemmas.Map.Keys.{IsDistinct-head, IsDistinct-tail, IsDistinct-cons}
use Rattle.std.proofs.lemmas.Map.Made.{nil_from_lookup}

module _ {K X : Type 0} {eq : K → K → Bool} (laws : IsEquivalence eq) where
  all_left : (P : K → Type 0) (test : K → Bool) (es : List (K × X)) → AllByRecursion P (keys_of es) → AllByRecursion P (keys_of (remove_entry test es))
  all_left P test [] h = h
  all_left P test (e ∷ es) h = elim (test e.0) as (λ b. AllByRecursion P (keys_of (cond b es (e ∷ remove_entry test es)))) [ true ↦ h.1 | false ↦ (h.0, all_left P test es h.1) ]

  distinct_left : (test : K → Bool) (es : List (K × X)) → IsDistinct eq (keys_of es) → IsDistinct eq (keys_of (remove_entry test es))
  distinct_left test [] h = h
  distinct_left test (e ∷ es) h =
      let rest = IsDistinct-tail eq e.0 (keys_of es) h in
      elim (test e.0) as (λ b. IsDistinct eq (keys_of (cond b es (e ∷ remove_entry test es)))) [
        | true ↦ rest
        | false ↦ IsDistinct-cons eq e.0 (keys_of (remove_entry test es)) (all_left (λ y. eq e.0 y ≡ false) test es (IsDistinct-head eq e.0 (keys_of es) h)) (distinct_left test es rest)
      ]

  -- without an entry, each other key has what it had
  left : (e : K × X) (es fs : List (K × X)) → IsDistinct eq (keys_of es) → IsDistinct eq (keys_of (e ∷ fs)) → ((q : K) → lookup (eq q) es ≡ lookup (eq q) (e ∷ fs))
      → (q : K) → lookup (eq q) (remove_entry (eq e.0) es) ≡ lookup (eq q) fs
  left e es fs d d' same q =
      lookup-remove_entry laws (eq e.0) (λ x y t. laws.congr e.0 x y t) q es d
      ∙ elim (eq e.0 q) as (λ b. eq e.0 q ≡ b → cond b None (lookup (eq q) es) ≡ lookup (eq q) fs) [
        | true ↦ λ t. sym (lookup-none (eq q) fs (none_past_head laws q e fs d' (laws.symm q e.0 ∙ t)))
        | false ↦ λ t. same q ∙ ap (λ b. cond b (Some e.1) (lookup (eq q) fs)) (laws.symm q e.0 ∙ t)
      ] refl

  pub same_counts : (p : X → Bool) (es fs : List (K × X)) → IsDistinct eq (keys_of es) → IsDistinct eq (keys_of fs) → ((q : K) → lookup (eq q) es ≡ lookup (eq q) fs)
      → count_by p (values_of es) ≡ count_by p (values_of fs)
  same_counts p es [] d d' same = ap (λ (l : List (K × X)). count_by p (values_of l)) (nil_from_lookup laws es same)
  same_counts p es (e ∷ fs) d d' same =
      let weight = λ (x : X). cond (p x) 1 0 in
      let there : lookup (eq e.0) es ≡ Some e.1 = same e.0 ∙ ap (λ b. cond b (Some e.1) (lookup (eq e.0) fs)) (laws.refl e.0) in
      let taken : unwrap_or (option_map weight (lookup (eq e.0) es)) 0 ≡ weight e.1 = ap (λ o. unwrap_or (option_map weight o) 0) there in
      let sum = sum_by-remove_entry weight (eq e.0) es in
      let rest : count_by p (values_of (remove_entry (eq e.0) es)) ≡ count_by p (values_of fs) =
      same_counts p (remove_entry (eq e.0) es) fs (distinct_left (eq e.0) es d) (IsDistinct-tail eq e.0 (keys_of fs) d') (left e es fs d d' same) in
      let more = sum_by-cons weight e.1 (values_of fs) in
      omega (arith, taken, sum, rest, more)
