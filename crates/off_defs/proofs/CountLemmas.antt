-- How counters add up.
use Rattle.std.proofs.Common.{◌≡◌, ℕ, ◌+◌, ◌≤◌, refl, ◌∙◌, arith}
use Rattle.off_defs.specs.Counts.{Grew, Tallied}

pub grew_then : {m n a b c : ℕ} → Grew m a b → Grew n b c → Grew (m + n) a c
grew_then p q = record { later = omega arith; grew = omega arith }

pub grew_self : (a : ℕ) → Grew 0 a a
grew_self a = record { later = omega arith; grew = omega arith }

pub grew_later : {n a b c : ℕ} → Grew n a b → b ≤ c → Grew n a c
grew_later p q = record { later = omega arith; grew = omega arith }

pub later_grew : {n a b c : ℕ} → a ≤ b → Grew n b c → Grew n a c
later_grew p q = record { later = omega arith; grew = omega arith }

-- beside another count, which stays
pub grew_beside : (n x y own same : ℕ) → Grew n x y → same ≡ own → Grew n (x + own) (y + same)
grew_beside n x y own same grew is = record { later = omega (arith, grew.later, is); grew = omega (arith, grew.later, grew.grew, is) }

pub tallied_none : (a : ℕ) → Tallied 0 a a
tallied_none a = record { grew = grew_self a; stands = λ none. refl }

pub tallied_one : {a b : ℕ} → Grew 1 a b → Tallied 1 a b
tallied_one p = record { grew = p; stands = λ none. absurd (omega (arith, none)) }

pub tallied_then : {m n a b c : ℕ} → Tallied m a b → Tallied n b c → Tallied (m + n) a c
tallied_then p q = record {
  grew = grew_then p.grew q.grew;
  stands = λ none. q.stands (omega (arith, none)) ∙ p.stands (omega (arith, none));
}

pub tallied_stays : {n a b c : ℕ} → Tallied n a b → c ≡ b → Tallied n a c
tallied_stays p same = record { grew = grew_later p.grew (omega (arith, same)); stands = λ none. same ∙ p.stands none }
