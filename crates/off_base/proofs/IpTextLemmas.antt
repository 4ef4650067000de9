-- A text in dotted decimal spells its address, and is at most 15 bytes long.
use Rattle.std.proofs.Common.{◌≡◌, ℕ, zero, suc, cond, nat_lt, map, Option, ◌+◌, ◌-◌, ◌*◌, ◌/◌, ◌%◌, ◌<◌, ◌≤◌, ◌^◌, Bool, true, false, eqb, List, [], ◌∷◌, ◌++◌, length, take, replicate, Some, None, refl, sym, ap, ◌∙◌, arith, append_assoc}
use Rattle.std.specs.Fmt.{decimal}
use Rattle.std.specs.Str.{bytes_eq}
use Rattle.std.specs.Str.Parse.{AllDigits}
use Rattle.std.specs.Int.{IsInRange}
use Rattle.std.specs.Prelude.{◌&&◌}
use Rattle.std.specs.List.{All, join_with_byte, slice_split}
use Rattle.std.proofs.lemmas.Bool.Decides.{nat_tests}
use Rattle.std.proofs.lemmas.Bool.{both_ways, ne_eqb}
use Rattle.std.proofs.lemmas.Fmt.{decimal_by_steps, length-decimal-le}
use Rattle.std.proofs.lemmas.List.{append-nil, length-append}
use Rattle.std.proofs.Math.Seq.{take-append_seam}
use Rattle.std.proofs.lemmas.Slice.Eq.{bytes_eq-Decides}
use Rattle.std.proofs.lemmas.Fmt.{digits_value-decimal, decimal_is_IsNumeral}
use Rattle.std.proofs.lemmas.List.Splits.{slice_split_at, slice_split_none, join_with_byte-slice_split}
use Rattle.std.proofs.lemmas.Str.Parse.{digit_at}
use Rattle.off_base.specs.AddressText.{ip_bytes, octet_of, address_of, ip_text_of, ip_of}
use Rattle.off_base.specs.Dotted.{dotted_value}
use Rattle.off_base.specs.Number.{number_of}
use Rattle.off_base.proofs.NumberLemmas.{number_model}

-- digits of one byte, in front of more text
abbrev Spells : ℕ → List ℕ → Type 0
Spells n digits = n < 256 → (whole : ℕ) (more : List ℕ) → dotted_value whole 0 (digits ++ more) ≡ dotted_value whole n more

digit_steps : (whole last d : ℕ) (more : List ℕ) → d < 10 → last * 10 + d < 256
    → dotted_value whole last ((48 + d) ∷ more) ≡ dotted_value whole (last * 10 + d) more
digit_steps whole last d more small fits =
    let no_dot : eqb (48 + d) 46 ≡ false = ne_eqb (48 + d) 46 (λ e. omega arith) in
    let value : (last * 10 + (48 + d) % 16) % 256 ≡ last * 10 + d = omega arith in
    rw (no_dot, value) refl

byte_spells : (n : ℕ) → n < 2 ^ 64 → Spells n (decimal n)
byte_spells n = decimal_by_steps Spells
    (λ n small fits whole more.
    let value : 0 * 10 + n ≡ n = omega arith in
    let step = digit_steps whole 0 n more small (omega arith) in
    step ∙ ap (λ k. dotted_value whole k more) value)
    (λ n digits large front fits whole more.
    let low : n % 10 < 10 = omega arith in
    let value : n / 10 * 10 + n % 10 ≡ n = omega arith in
    let one = front (omega arith) whole ((48 + n % 10) ∷ more) in
    let two = digit_steps whole (n / 10) (n % 10) more low (omega arith) in
    rw append_assoc (one ∙ two ∙ ap (λ k. dotted_value whole k more) value))
    n

pub dotted_value-decimal : (n whole : ℕ) (more : List ℕ) → n < 256 → dotted_value whole 0 (decimal n ++ more) ≡ dotted_value whole n more
dotted_value-decimal n whole more fits = byte_spells n (omega arith) fits whole more

-- a dot behind digits
with_dot : (n whole : ℕ) (more : List ℕ) → n < 256
    → dotted_value whole 0 (decimal n ++ 46 ∷ more) ≡ dotted_value (whole % 2 ^ 24 * 256 + n) 0 more
with_dot n whole more fits = dotted_value-decimal n whole (46 ∷ more) fits

last_byte : (n whole : ℕ) → n < 256 → dotted_value whole 0 (decimal n) ≡ whole % 2 ^ 24 * 256 + n
last_byte n whole fits = ap (dotted_value whole 0) (sym (append-nil (decimal n))) ∙ dotted_value-decimal n whole [] fits

four_bytes : (a first second third fourth : ℕ) → a < 2 ^ 32
    → first ≡ a / 2 ^ 24 % 256 → second ≡ a / 2 ^ 16 % 256 → third ≡ a / 2 ^ 8 % 256 → fourth ≡ a % 256
    → (((0 % 2 ^ 24 * 256 + first) % 2 ^ 24 * 256 + second) % 2 ^ 24 * 256 + third) % 2 ^ 24 * 256 + fourth ≡ a
four_bytes a first second third fourth fits e1 e2 e3 e4 =
    let one : 0 % 2 ^ 24 * 256 + first ≡ a / 2 ^ 24 = omega arith in
    let two : (a / 2 ^ 24) % 2 ^ 24 * 256 + second ≡ a / 2 ^ 16 = omega arith in
    let three : (a / 2 ^ 16) % 2 ^ 24 * 256 + third ≡ a / 2 ^ 8 = omega arith in
    let four : (a / 2 ^ 8) % 2 ^ 24 * 256 + fourth ≡ a = omega arith in
    rw (one, two, three) four

pub dotted_value-ip_text_of : (a : ℕ) → a < 2 ^ 32 → dotted_value 0 0 (ip_text_of a) ≡ a
unfolding ip_text_of
dotted_value-ip_text_of a fits =
    let b1 : a / 2 ^ 24 % 256 < 256 = omega arith in
    let b2 : a / 2 ^ 16 % 256 < 256 = omega arith in
    let b3 : a / 2 ^ 8 % 256 < 256 = omega arith in
    let b4 : a % 256 < 256 = omega arith in
    with_dot (a / 2 ^ 24 % 256) _ _ b1
    ∙ with_dot (a / 2 ^ 16 % 256) _ _ b2
    ∙ with_dot (a / 2 ^ 8 % 256) _ _ b3
    ∙ last_byte (a % 256) _ b4
    ∙ four_bytes a _ _ _ _ fits refl refl refl refl

-- ---- four numbers between dots

no_dots : (ds : List ℕ) → AllDigits 10 ds → All (λ c. eqb c 46 ≡ false) ds
no_dots [] digits k d at = absurd (omega arith)
no_dots (c ∷ ds) digits zero d at =
    let range : IsInRange 48 57 c = digit_at (c ∷ ds) 0 digits (omega arith) in
    ne_eqb c 46 (λ e. omega (arith, range.0))
no_dots (c ∷ ds) digits (suc k) d at = no_dots ds digits.1 k d (omega arith)

decimal_has_no_dot : (n : ℕ) → n < 256 → All (λ c. eqb c 46 ≡ false) (decimal n)
decimal_has_no_dot n fits = no_dots (decimal n) ((decimal_is_IsNumeral n (omega arith)).0.1)

octet_when : (text : List ℕ) (n : ℕ) → number_of text ≡ n → n < 256 → decimal n ≡ text → octet_of text ≡ Some n
octet_when text n value fits written =
    let small : nat_lt (number_of text) 256 ≡ true = grind (arith, nat_tests) in
    let same : bytes_eq (decimal (number_of text)) text ≡ true = (bytes_eq-Decides _ _).1 (ap decimal value ∙ written) in
    rw (small, same) (ap Some value)

octet_of-decimal : (n : ℕ) → n < 256 → octet_of (decimal n) ≡ Some n
octet_of-decimal n fits = octet_when (decimal n) n (digits_value-decimal number_model n (omega arith)) fits refl

octet_by : (small same : Bool) (m n : ℕ) → cond (small && same) (Some m) None ≡ Some n → (small ≡ true) × (same ≡ true) × (m ≡ n)
octet_by true true m n e = (refl, refl, cc)
octet_by true false m n e = cc
octet_by false same m n e = cc

octet_says : (text : List ℕ) (n : ℕ) → octet_of text ≡ Some n → (n < 256) × (decimal n ≡ text)
octet_says text n e =
    let all = octet_by (nat_lt (number_of text) 256) (bytes_eq (decimal (number_of text)) text) (number_of text) n e in
    let small : nat_lt (number_of text) 256 ≡ true = all.0 in
    let value : number_of text ≡ n = all.2 in
    (grind (arith, nat_tests), ap decimal (sym value) ∙ (bytes_eq-Decides _ _).0 all.1)

four_octets : (os : List (Option ℕ)) (a : ℕ) → address_of os ≡ Some a
    → (first second third fourth : ℕ) × (os ≡ Some first ∷ Some second ∷ Some third ∷ Some fourth ∷ []) × (((first * 256 + second) * 256 + third) * 256 + fourth ≡ a)
four_octets [] a e = cc
four_octets (None ∷ os) a e = cc
four_octets (Some x ∷ []) a e = cc
four_octets (Some x ∷ None ∷ os) a e = cc
four_octets (Some x ∷ Some y ∷ []) a e = cc
four_octets (Some x ∷ Some y ∷ None ∷ os) a e = cc
four_octets (Some x ∷ Some y ∷ Some z ∷ []) a e = cc
four_octets (Some x ∷ Some y ∷ Some z ∷ None ∷ os) a e = cc
four_octets (Some x ∷ Some y ∷ Some z ∷ Some w ∷ []) a e = (x, y, z, w, refl, cc)
four_octets (Some x ∷ Some y ∷ Some z ∷ Some w ∷ v ∷ os) a e = cc

four_parts : (parts : List (List ℕ)) (x y z w : ℕ) → map octet_of parts ≡ Some x ∷ Some y ∷ Some z ∷ Some w ∷ []
    → (x < 256) × (y < 256) × (z < 256) × (w < 256) × (decimal x ∷ decimal y ∷ decimal z ∷ decimal w ∷ [] ≡ parts)
four_parts [] x y z w e = cc
four_parts (p ∷ []) x y z w e = cc
four_parts (p ∷ q ∷ []) x y z w e = cc
four_parts (p ∷ q ∷ r ∷ []) x y z w e = cc
four_parts (p ∷ q ∷ r ∷ s ∷ []) x y z w e =
    let ep : octet_of p ≡ Some x = cc in
    let eq : octet_of q ≡ Some y = cc in
    let er : octet_of r ≡ Some z = cc in
    let es : octet_of s ≡ Some w = cc in
    let one = octet_says p x ep in
    let two = octet_says q y eq in
    let three = octet_says r z er in
    let four = octet_says s w es in
    (one.0, two.0, three.0, four.0, rw (one.1, two.1, three.1, four.1) refl)
four_parts (p ∷ q ∷ r ∷ s ∷ t ∷ ts) x y z w e = cc

four_numbers : (x y z w a : ℕ) → x < 256 → y < 256 → z < 256 → w < 256 → ((x * 256 + y) * 256 + z) * 256 + w ≡ a
    → (a < 2 ^ 32) × (ip_bytes a ≡ x ∷ y ∷ z ∷ w ∷ [])
four_numbers x y z w a fx fy fz fw is =
    let e1 : a / 2 ^ 24 % 256 ≡ x = omega arith in
    let e2 : a / 2 ^ 16 % 256 ≡ y = omega arith in
    let e3 : a / 2 ^ 8 % 256 ≡ z = omega arith in
    let e4 : a % 256 ≡ w = omega arith in
    (omega arith, rw (e1, e2, e3, e4) refl)

parts_say : (parts : List (List ℕ)) (a : ℕ) → address_of (map octet_of parts) ≡ Some a → (a < 2 ^ 32) × (map decimal (ip_bytes a) ≡ parts)
parts_say parts a e =
    let four = four_octets (map octet_of parts) a e in
    let each = four_parts parts four.0 four.1 four.2 four.3 four.4 in
    let whole = four_numbers four.0 four.1 four.2 four.3 a each.0 each.1 each.2 each.3 four.5 in
    (whole.0, ap (map decimal) whole.1 ∙ each.4)

-- a text with an address is the address's text
pub ip_says : (text : List ℕ) (a : ℕ) → ip_of text ≡ Some a → (a < 2 ^ 32) × (ip_text_of a ≡ text)
unfolding ip_of ip_text_of
ip_says text a e =
    let said = parts_say (slice_split (λ c. eqb c 46) text) a e in
    (said.0, ap (join_with_byte 46) said.1 ∙ join_with_byte-slice_split 46 text)

splits : (x y z w : ℕ) → x < 256 → y < 256 → z < 256 → w < 256
    → slice_split (λ c. eqb c 46) (join_with_byte 46 (decimal x ∷ decimal y ∷ decimal z ∷ decimal w ∷ [])) ≡ decimal x ∷ decimal y ∷ decimal z ∷ decimal w ∷ []
splits x y z w fx fy fz fw =
    slice_split_at (λ c. eqb c 46) (decimal x) 46 (join_with_byte 46 (decimal y ∷ decimal z ∷ decimal w ∷ [])) (decimal_has_no_dot x fx) refl
    ∙ ap (λ (l : List (List ℕ)). decimal x ∷ l)
    (slice_split_at (λ c. eqb c 46) (decimal y) 46 (join_with_byte 46 (decimal z ∷ decimal w ∷ [])) (decimal_has_no_dot y fy) refl
    ∙ ap (λ (l : List (List ℕ)). decimal y ∷ l)
    (slice_split_at (λ c. eqb c 46) (decimal z) 46 (decimal w) (decimal_has_no_dot z fz) refl
    ∙ ap (λ (l : List (List ℕ)). decimal z ∷ l) (slice_split_none (λ c. eqb c 46) (decimal w) (decimal_has_no_dot w fw))))

address_of-decimals : (x y z w : ℕ) → x < 256 → y < 256 → z < 256 → w < 256
    → address_of (map octet_of (decimal x ∷ decimal y ∷ decimal z ∷ decimal w ∷ [])) ≡ Some (((x * 256 + y) * 256 + z) * 256 + w)
address_of-decimals x y z w fx fy fz fw =
    let one = octet_of-decimal x fx in
    let two = octet_of-decimal y fy in
    let three = octet_of-decimal z fz in
    let four = octet_of-decimal w fw in
    let all : map octet_of (decimal x ∷ decimal y ∷ decimal z ∷ decimal w ∷ []) ≡ Some x ∷ Some y ∷ Some z ∷ Some w ∷ [] = rw (one, two, three, four) refl in
    ap address_of all

pub ip_of-ip_text_of : (a : ℕ) → a < 2 ^ 32 → ip_of (ip_text_of a) ≡ Some a
unfolding ip_of ip_text_of
ip_of-ip_text_of a fits =
    let b1 : a / 2 ^ 24 % 256 < 256 = omega arith in
    let b2 : a / 2 ^ 16 % 256 < 256 = omega arith in
    let b3 : a / 2 ^ 8 % 256 < 256 = omega arith in
    let b4 : a % 256 < 256 = omega arith in
    let value : ((a / 2 ^ 24 % 256 * 256 + a / 2 ^ 16 % 256) * 256 + a / 2 ^ 8 % 256) * 256 + a % 256 ≡ a = omega arith in
    ap (λ (l : List (List ℕ)). address_of (map octet_of l)) (splits _ _ _ _ b1 b2 b3 b4) ∙ address_of-decimals _ _ _ _ b1 b2 b3 b4 ∙ ap Some value

pub length-ip_text_of : (a : ℕ) → length (ip_text_of a) ≤ 15
unfolding ip_text_of
length-ip_text_of a =
    let few : (n : ℕ) → n < 256 → length (decimal n) ≤ 3 = λ n fits. length-decimal-le 3 n (omega arith) (omega arith) (omega arith) in
    let b1 = few (a / 2 ^ 24 % 256) (omega arith) in
    let b2 = few (a / 2 ^ 16 % 256) (omega arith) in
    let b3 = few (a / 2 ^ 8 % 256) (omega arith) in
    let b4 = few (a % 256) (omega arith) in
    simp length-append (omega (arith, b1, b2, b3, b4))

-- what is shown of a text with zeros behind it
abbrev pub Shows : List ℕ → ℕ → List ℕ → List ℕ → Type 0
Shows bytes len text shown = (bytes ≡ text ++ replicate (15 - length text) 0) × (len ≡ length text) × (shown ≡ take len bytes)

shown_is : (bytes : List ℕ) (len : ℕ) (text shown : List ℕ) → Shows bytes len text shown → shown ≡ text
shown_is bytes len text shown is = is.2 ∙ rw (is.0, is.1) (take-append_seam text (replicate (15 - length text) 0))

-- the text of the number that a text spells is that text
pub ip_read : (text bytes shown : List ℕ) (len a : ℕ) (b : Bool) → a < 2 ^ 32 → Shows bytes len (ip_text_of a) shown
    → b ≡ bytes_eq shown text → b ≡ true → (ip_text_of a ≡ text) × (ip_of text ≡ Some a)
ip_read text bytes shown len a b fits shows is holds =
    let same : ip_text_of a ≡ text = sym (shown_is bytes len _ shown shows) ∙ (bytes_eq-Decides shown text).0 (sym is ∙ holds) in
    (same, ap ip_of (sym same) ∙ ip_of-ip_text_of a fits)

never_some : {X : Type 0} (o : Option X) → ((x : X) → o ≡ Some x → ⊥) → o ≡ None
never_some None never = refl
never_some (Some x) never = absurd (never x refl)

-- it is another text
pub ip_not_read : (text bytes shown : List ℕ) (len a : ℕ) (b : Bool) → a ≡ dotted_value 0 0 text → Shows bytes len (ip_text_of a) shown
    → b ≡ bytes_eq shown text → b ≡ false → ((x : ℕ) → x < 2 ^ 32 → ip_text_of x ≡ text → ⊥) × (ip_of text ≡ None)
ip_not_read text bytes shown len a b spells shows is fails =
    let never : (x : ℕ) → x < 2 ^ 32 → ip_text_of x ≡ text → ⊥ =
    λ x fits e. both_ways _ (sym is ∙ fails)
    ((bytes_eq-Decides shown text).1 (shown_is bytes len _ shown shows ∙ ap ip_text_of (spells ∙ ap (dotted_value 0 0) (sym e) ∙ dotted_value-ip_text_of x fits) ∙ e)) in
    (never, never_some (ip_of text) (λ x e. let said = ip_says text x e in never x said.0 said.1))
