-- What rules refuse: a message that breaks none of them is refused by none; and of two lists, one behind the other, the second only where the first refuses nothing.
use Rattle.std.proofs.Common.{◌≡◌, Bool, true, false, cond, List, [], ◌∷◌, ◌++◌, Some, None, refl, sym, ap, ◌∙◌}
use Rattle.std.proofs.lemmas.Bool.{and_parts}
use Rattle.std.proofs.lemmas.Option.{none-some}
use Rattle.std.specs.List.{AllByRecursion, list_all}
use Rattle.off_asking.specs.Claims.{refused_by}

module _ {W : Type 0} where
  pub none_broken : (rules : List (W × Bool)) → AllByRecursion (λ (rule : W × Bool). rule.1 ≡ false) rules → refused_by rules ≡ None
  none_broken [] all = refl
  none_broken (rule ∷ rules) all = ap (λ b. cond b (Some rule.0) (refused_by rules)) all.0 ∙ none_broken rules all.1

  pub all_unbroken : (rules : List (W × Bool)) → refused_by rules ≡ None → AllByRecursion (λ (rule : W × Bool). rule.1 ≡ false) rules
  all_unbroken [] e = tt
  all_unbroken ((w, true) ∷ rules) e = absurd (none-some w (sym e))
  all_unbroken ((w, false) ∷ rules) e = (refl, all_unbroken rules e)

  pub refused_none : (xs ys : List (W × Bool)) → refused_by xs ≡ None → refused_by (xs ++ ys) ≡ refused_by ys
  refused_none [] ys none = refl
  refused_none (x ∷ xs) ys none =
      elim x.1 as (λ b. cond b (Some x.0) (refused_by xs) ≡ None → cond b (Some x.0) (refused_by (xs ++ ys)) ≡ refused_by ys) [
        | true ↦ λ e. cc
        | false ↦ λ e. refused_none xs ys e
      ] none

  pub refused_some : (xs ys : List (W × Bool)) (w : W) → refused_by xs ≡ Some w → refused_by (xs ++ ys) ≡ Some w
  refused_some [] ys w some = cc
  refused_some (x ∷ xs) ys w some =
      elim x.1 as (λ b. cond b (Some x.0) (refused_by xs) ≡ Some w → cond b (Some x.0) (refused_by (xs ++ ys)) ≡ Some w) [
        | true ↦ λ e. e
        | false ↦ λ e. refused_some xs ys w e
      ] some

  -- what all words of the rules pass, the word of the one that is broken does
  pub refused_passes : (p : W → Bool) (rules : List (W × Bool)) (w : W) → list_all (λ rule. p rule.0) rules ≡ true → refused_by rules ≡ Some w → p w ≡ true
  refused_passes p [] w all e = cc
  refused_passes p ((v, true) ∷ rules) w all e = let same : v ≡ w = cc in ap p (sym same) ∙ (and_parts (p v) (list_all (λ rule. p rule.0) rules) all).0
  refused_passes p ((v, false) ∷ rules) w all e = refused_passes p rules w (and_parts (p v) (list_all (λ rule. p rule.0) rules) all).1 e
