-- Where the first mark of a text stands, and the first of several places.
use Rattle.std.proofs.Common.{◌≡◌, ℕ, ◌≤◌, Bool, true, false, List, length, refl, sym, subst, arith, Option, Some, None, IfSome, unwrap_or, nat_lt, cond, not}
use Rattle.std.proofs.lemmas.Bool.{ltb-false}
use Rattle.std.proofs.lemmas.List.Sums.{prefix_len-le-length}
use Rattle.std.specs.List.{position, position_or_len}
use Rattle.std.specs.Option.{option_or}
use Rattle.off_clerk_rules.specs.Paths.{IsNamed}
use Rattle.off_clerk_rules.specs.declared.places.Place.{Place}

larger : (n most : ℕ) (b : Bool) → nat_lt n most ≡ b → n ≤ most → unwrap_or (cond b (Some n) None) most ≡ n
larger n most true e le = refl
larger n most false e le = omega (arith, ltb-false n most e)

pub place_or_length : (p : ℕ → Bool) (xs : List ℕ) → unwrap_or (position p xs) (length xs) ≡ position_or_len p xs
place_or_length p xs = larger (position_or_len p xs) (length xs) _ refl (prefix_len-le-length (λ x. not (p x)) xs)

abbrev pub NamesOne : Option Place → Type 0
NamesOne found = IfSome found IsNamed

pub either_named : (a b found : Option Place) → found ≡ option_or a b → NamesOne a → NamesOne b → NamesOne found
either_named None b found e x y = subst NamesOne (sym e) y
either_named (Some place) b found e x y = subst NamesOne (sym e) x
