-- What is told of the outside. A link, a source or a sink may tell what it holds (the events still
-- to come, the bytes written, ..) or keep it to itself, so such a meaning is a relation to values:
-- it holds of the one value that is told, or of none.
use Rattle.std.specs.Prelude.{◌≡◌}
use Rattle.std.proofs.Common.{sym, ◌∙◌}

-- a value that is told, of which P holds
pub record Goes {X : Type 0} (tells : X → Type 0) (P : X → Type 0) : Type 0 where
  pub value : X
  pub told : tells value
  pub fits : P value

-- whatever was told before, a value is told after it that P relates to it
pub record Told {X : Type 0} (old new : X → Type 0) (P : X → X → Type 0) : Type 0 where
  pub each : (x : X) → old x → Goes new (P x)

-- what was told is told still, and is the same
abbrev pub Stays : {X : Type 0} → (X → Type 0) → (X → Type 0) → Type 0
Stays old new = Told old new (λ x y. y ≡ x)

-- no two values are told. Each trait of the outside has this as a law for each of its meanings,
-- since `Told` would say little of an object that tells every value
abbrev pub IsOne : {X : Type 0} → (X → Type 0) → Type 0
IsOne {X} tells = (x y : X) → tells x → tells y → x ≡ y

-- what holds one value tells one
pub one_exact : {X : Type 0} (n : X) → IsOne (λ x. x ≡ n)
one_exact n x y p q = p ∙ sym q

-- what tells nothing tells no two values
pub one_none : {X : Type 0} → IsOne {X = X} (λ x. ⊥)
one_none x y p q = absurd p
