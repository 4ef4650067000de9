-- What stays up, or has counted something, over calls in a row.
use Rattle.std.proofs.Common.{ℕ, ◌≤◌, ◌⊎◌, inl, inr}
use Rattle.off_defs.specs.Counts.{Grew}
use Rattle.off_defs.proofs.CountLemmas.{grew_later, later_grew}

-- by one count
pub up_behind : {P : Type 0} {x y z : ℕ} → x ≤ y → P ⊎ Grew 1 y z → P ⊎ Grew 1 x z
up_behind first (inl up) = inl up
up_behind first (inr grew) = inr (later_grew first grew)

up_onward : {P Q : Type 0} {x y z : ℕ} → x ≤ y → y ≤ z → (P → Q ⊎ Grew 1 y z) → P ⊎ Grew 1 x y → Q ⊎ Grew 1 x z
up_onward first second next (inl up) = up_behind first (next up)
up_onward first second next (inr grew) = inr (grew_later grew second)

pub up_chain : {P Q R : Type 0} {x y z : ℕ} → x ≤ y → y ≤ z → (P → Q ⊎ Grew 1 x y) → (Q → R ⊎ Grew 1 y z) → P → R ⊎ Grew 1 x z
up_chain first second p q up = up_onward first second q (p up)

-- by two counts
abbrev pub UpBy : Type 0 → ℕ → ℕ → ℕ → ℕ → Type 0
UpBy P x y u v = P ⊎ (Grew 1 x y ⊎ Grew 1 u v)

pub by_first : {P : Type 0} {x y u v : ℕ} → P ⊎ Grew 1 x y → UpBy P x y u v
by_first (inl up) = inl up
by_first (inr grew) = inr (inl grew)

pub by_second : {P : Type 0} {x y u v : ℕ} → P ⊎ Grew 1 u v → UpBy P x y u v
by_second (inl up) = inl up
by_second (inr grew) = inr (inr grew)

both_behind : {P : Type 0} {x y z u v w : ℕ} → x ≤ y → u ≤ v → UpBy P y z v w → UpBy P x z u w
both_behind first other (inl up) = inl up
both_behind first other (inr (inl grew)) = inr (inl (later_grew first grew))
both_behind first other (inr (inr grew)) = inr (inr (later_grew other grew))

both_onward : {P Q : Type 0} {x y z u v w : ℕ} → x ≤ y → y ≤ z → u ≤ v → v ≤ w → (P → UpBy Q y z v w) → UpBy P x y u v → UpBy Q x z u w
both_onward first second other more next (inl up) = both_behind first other (next up)
both_onward first second other more next (inr (inl grew)) = inr (inl (grew_later grew second))
both_onward first second other more next (inr (inr grew)) = inr (inr (grew_later grew more))

pub both_chain : {P Q R : Type 0} {x y z u v w : ℕ} → x ≤ y → y ≤ z → u ≤ v → v ≤ w → (P → UpBy Q x y u v) → (Q → UpBy R y z v w) → P → UpBy R x z u w
both_chain first second other more p q up = both_onward first second other more q (p up)
