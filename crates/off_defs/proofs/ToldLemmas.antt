-- Calls in a row: what is told across them.
use Rattle.std.proofs.Common.{◌≡◌, refl, sym, subst}
use Rattle.off_defs.specs.Told.{Told, Stays}

-- one call, then another
pub told_then : {X : Type 0} {a b c : X → Type 0} {P Q R : X → X → Type 0} → Told a b P → Told b c Q → ((x y z : X) → P x y → Q y z → R x z) → Told a c R
told_then p q join = record {
  each = λ x t.
      let g = p.each x t in
      let h = q.each g.value g.told in
      record { value = h.value; told = h.told; fits = join x g.value h.value g.fits h.fits };
}

pub told_weaker : {X : Type 0} {a b : X → Type 0} {P Q : X → X → Type 0} → Told a b P → ((x y : X) → P x y → Q x y) → Told a b Q
told_weaker p weaker = record {
  each = λ x t. let g = p.each x t in record { value = g.value; told = g.told; fits = weaker x g.value g.fits };
}

pub told_self : {X : Type 0} {a : X → Type 0} {P : X → X → Type 0} → ((x : X) → P x x) → Told a a P
told_self same = record { each = λ x t. record { value = x; told = t; fits = same x } }

pub stays_self : {X : Type 0} {a : X → Type 0} → Stays a a
stays_self = record { each = λ x t. record { value = x; told = t; fits = refl } }

-- a call that leaves the value, before or behind another
pub stays_then : {X : Type 0} {a b c : X → Type 0} {P : X → X → Type 0} → Stays a b → Told b c P → Told a c P
stays_then {P = P} s p = told_then s p (λ x y z same fits. subst (λ v. P v z) same fits)

pub then_stays : {X : Type 0} {a b c : X → Type 0} {P : X → X → Type 0} → Told a b P → Stays b c → Told a c P
then_stays {P = P} p s = told_then p s (λ x y z fits same. subst (P x) (sym same) fits)

-- of an object in memory, which tells the value that it holds
pub told_known : {X : Type 0} {a b : X} {P : X → X → Type 0} → P a b → Told (λ x. x ≡ a) (λ y. y ≡ b) P
told_known {a = a} {b = b} {P = P} p = record {
  each = λ x same. record { value = b; told = refl; fits = subst (λ v. P v b) (sym same) p };
}
