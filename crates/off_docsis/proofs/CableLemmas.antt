-- The test of a modem's class against the form of its text.
use Rattle.std.proofs.Common.{◌≡◌, ℕ, ◌≤◌, true, false, ◌&&◌, eqb, leb, List, ◌∷◌, length, take, ◌<◌, refl, ap, arith}
use Rattle.std.proofs.lemmas.List.{get_or-take}
use Rattle.std.specs.Char.{IsAsciiDigit, is_ascii_digit}
use Rattle.std.proofs.lemmas.Bool.{both_ways, and_parts, and_from, eqb-true, leb-true, le-leb, lt-leb}
use Rattle.off_docsis.specs.Cable.{begins_as_modem, spells_docsis, has_version, BeginsAsModem}

digit_is : (c : ℕ) → is_ascii_digit c ≡ true → IsAsciiDigit c
digit_is c h = let both = and_parts (leb 48 c) (leb c 57) h in (leb-true 48 c both.0, leb-true c 57 both.1)

is_digit : (c : ℕ) → IsAsciiDigit c → is_ascii_digit c ≡ true
is_digit c h = and_from (leb 48 c) (leb c 57) (le-leb 48 c h.0) (le-leb c 57 h.1)

pub modem_from_test : (v : List ℕ) → begins_as_modem v ≡ true → BeginsAsModem v
unfolding begins_as_modem
modem_from_test (d ∷ o ∷ c ∷ s ∷ i ∷ t ∷ major ∷ dot ∷ minor ∷ colon ∷ rest) h =
    let v = d ∷ o ∷ c ∷ s ∷ i ∷ t ∷ major ∷ dot ∷ minor ∷ colon ∷ rest in
    let whole = and_parts (leb 10 (length v)) (spells_docsis v && has_version v) h in
    let both = and_parts (spells_docsis v) (has_version v) whole.1 in
    let p5 = and_parts (eqb d 100 && eqb o 111 && eqb c 99 && eqb s 115 && eqb i 105) (eqb t 115) both.0 in
    let p4 = and_parts (eqb d 100 && eqb o 111 && eqb c 99 && eqb s 115) (eqb i 105) p5.0 in
    let p3 = and_parts (eqb d 100 && eqb o 111 && eqb c 99) (eqb s 115) p4.0 in
    let p2 = and_parts (eqb d 100 && eqb o 111) (eqb c 99) p3.0 in
    let p1 = and_parts (eqb d 100) (eqb o 111) p2.0 in
    let v3 = and_parts (is_ascii_digit major && eqb dot 46 && is_ascii_digit minor) (eqb colon 58) both.1 in
    let v2 = and_parts (is_ascii_digit major && eqb dot 46) (is_ascii_digit minor) v3.0 in
    let v1 = and_parts (is_ascii_digit major) (eqb dot 46) v2.0 in
    let e0 = eqb-true d 100 p1.0 in
    let e1 = eqb-true o 111 p1.1 in
    let e2 = eqb-true c 99 p2.1 in
    let e3 = eqb-true s 115 p3.1 in
    let e4 = eqb-true i 105 p4.1 in
    let e5 = eqb-true t 115 p5.1 in
    let e7 = eqb-true dot 46 v1.1 in
    let e9 = eqb-true colon 58 v3.1 in
    record { major = major; minor = minor; rest = rest; digits = (digit_is major v1.0, digit_is minor v2.1); whole = rw (e0, e1, e2, e3, e4, e5, e7, e9) refl }
modem_from_test _ h = absurd (both_ways _ refl h)

pub test_from_modem : (v : List ℕ) → BeginsAsModem v → begins_as_modem v ≡ true
unfolding begins_as_modem
test_from_modem v modem =
    let first = is_digit modem.major modem.digits.0 in
    let second = is_digit modem.minor modem.digits.1 in
    let size = ap length modem.whole in
    let long : leb 10 (length v) ≡ true = le-leb 10 (length v) (omega arith) in
    rw long (rw modem.whole (rw (first, second) refl))

pub not_modem_if_short : (v : List ℕ) → length v < 10 → begins_as_modem v ≡ false
unfolding begins_as_modem
not_modem_if_short v short = let test : leb 10 (length v) ≡ false = lt-leb 10 (length v) short in rw test refl

pub test_if_long : (v : List ℕ) → 10 ≤ length v → begins_as_modem v ≡ (spells_docsis v && has_version v)
unfolding begins_as_modem
test_if_long v long = let test : leb 10 (length v) ≡ true = le-leb 10 (length v) long in rw test refl

-- the tests look at the first ten bytes alone
pub docsis_in_front : (v : List ℕ) → spells_docsis (take 10 v) ≡ spells_docsis v
docsis_in_front v =
    rw (get_or-take 10 v 0 0 (omega arith), get_or-take 10 v 1 0 (omega arith), get_or-take 10 v 2 0 (omega arith), get_or-take 10 v 3 0 (omega arith), get_or-take 10 v 4 0 (omega arith), get_or-take 10 v 5 0 (omega arith))
    refl

pub version_in_front : (v : List ℕ) → has_version (take 10 v) ≡ has_version v
version_in_front v =
    rw (get_or-take 10 v 6 0 (omega arith), get_or-take 10 v 7 0 (omega arith), get_or-take 10 v 8 0 (omega arith), get_or-take 10 v 9 0 (omega arith)) refl
