-- What `mac_text` writes is read again, and no text of a MAC is longer than 17 bytes.
use Rattle.std.proofs.Common.{◌≡◌, ℕ, ◌<◌, ◌≤◌, Bool, true, false, eqb, leb, List, [], ◌∷◌, length, filter, Some, None, Ok, Err, Result, refl, sym, ap, arith, inl, inr}
use Rattle.std.specs.Prelude.{MatchResult}
use Rattle.std.specs.Str.{bytes_eq}
use Rattle.std.specs.List.{AllPass, list_any, list_all}
use Rattle.std.specs.Result.{result_ok}
use Rattle.std.proofs.lemmas.Bool.{both_ways, eqb-true, leb-true, or_cases, and_parts, false_from_ne_true}
use Rattle.std.proofs.lemmas.List.Elements.{All-head, All-tail}
use Rattle.std.proofs.lemmas.Slice.Eq.{bytes_eq-Decides}
use Rattle.hex.specs.Hex.{IsBytes, encode_lower, decode_of, decode_sized, is_hex_digit, lower_digits}
use Rattle.hex.specs.declared.error.FromHexError.{FromHexError}
use Rattle.hex.proofs.HexLemmas.{decode_of-encode_lower, decode_of-ok, decode_sized-twice, length-encode_with}
use Rattle.off_base.specs.AddressText.{mac_of, mac_text_of, mac_forms, digits_in, is_mac_text}

filter_all : (p : ℕ → Bool) (xs : List ℕ) → AllPass p xs → filter p xs ≡ xs
filter_all p [] all = refl
filter_all p (x ∷ xs) all =
    let head = All-head (λ c. p c ≡ true) x xs all in
    let tail = filter_all p xs (All-tail (λ c. p c ≡ true) x xs all) in
    rw (head, tail) refl

bytes_eq_same : (xs : List ℕ) → bytes_eq xs xs ≡ true
bytes_eq_same xs = (bytes_eq-Decides xs xs).1 refl

pub mac_of-mac_text_of : (bytes : List ℕ) → length bytes ≡ 6 → IsBytes bytes → mac_of (mac_text_of bytes) ≡ Some bytes
unfolding mac_of
mac_of-mac_text_of bytes six fit =
    let text = encode_lower bytes in
    let back : decode_of (encode_lower bytes) ≡ Ok bytes = decode_of-encode_lower bytes fit in
    let digits : digits_in (encode_lower bytes) ≡ encode_lower bytes = filter_all is_hex_digit _ (decode_of-ok _ bytes back).1 in
    let twelve : eqb (length (encode_lower bytes)) 12 ≡ true = rw (length-encode_with lower_digits bytes, six) refl in
    rw (digits, twelve, bytes_eq_same (encode_lower bytes), back) refl

as_long : (text form : List ℕ) → bytes_eq text form ≡ true → length text ≡ length form
as_long text form same = ap length ((bytes_eq-Decides text form).0 same)

-- a text that is one of these is no longer than the longest of them
any_short : (text : List ℕ) (forms : List (List ℕ)) → list_all (λ form. leb (length form) 17) forms ≡ true
    → list_any (λ form. bytes_eq text form) forms ≡ true → length text ≤ 17
any_short text [] short one = absurd (both_ways false refl one)
any_short text (form ∷ forms) short one =
    let here = and_parts (leb (length form) 17) (list_all (λ form. leb (length form) 17) forms) short in
    elim (or_cases (bytes_eq text form) (list_any (λ form. bytes_eq text form) forms) one) [
      | inl same ↦
          let long = as_long text form same in
          let few = leb-true (length form) 17 here.0 in
          omega arith
      | inr later ↦ any_short text forms here.1 later
    ]

-- each form of twelve digits is at most 17 bytes long
length-mac_forms : (text digits : List ℕ) → length digits ≡ 12 → list_any (λ form. bytes_eq text form) (mac_forms digits) ≡ true → length text ≤ 17
length-mac_forms text (a ∷ b ∷ c ∷ d ∷ e ∷ f ∷ g ∷ h ∷ i ∷ j ∷ k ∷ l ∷ []) twelve fits =
    any_short text (mac_forms (a ∷ b ∷ c ∷ d ∷ e ∷ f ∷ g ∷ h ∷ i ∷ j ∷ k ∷ l ∷ [])) refl fits
length-mac_forms text _ twelve fits = absurd (omega arith)

none_unless : (text : List ℕ) → (is_mac_text text ≡ true → ⊥) → mac_of text ≡ None
unfolding mac_of
none_unless text never =
    let other : is_mac_text text ≡ false = false_from_ne_true _ never in
    rw other refl

pub mac_of_long : (text : List ℕ) → 17 < length text → mac_of text ≡ None
mac_of_long text long = none_unless text (λ is.
    let parts = and_parts _ _ is in
    let twelve = eqb-true (length (digits_in text)) 12 parts.0 in
    let few = length-mac_forms text (digits_in text) twelve parts.1 in
    omega arith)

pub mac_of_other_count : (text : List ℕ) → (length (digits_in text) ≡ 12 → ⊥) → mac_of text ≡ None
mac_of_other_count text other = none_unless text (λ is. other (eqb-true (length (digits_in text)) 12 (and_parts _ _ is).0))

pub mac_of_other_form : (text digits : List ℕ) → digits ≡ digits_in text
    → list_any (λ form. bytes_eq text form) (mac_forms digits) ≡ false → mac_of text ≡ None
mac_of_other_form text digits is other = none_unless text (λ whole. both_ways _ (rw is at other) (and_parts _ _ whole).1)

-- twelve digits in one of the forms say what they decode to
pub mac_of_digits : (text digits : List ℕ) → digits ≡ digits_in text → length digits ≡ 12
    → list_any (λ form. bytes_eq text form) (mac_forms digits) ≡ true → mac_of text ≡ result_ok (decode_sized digits 6)
unfolding mac_of
mac_of_digits text digits is twelve form =
    let count : eqb (length (digits_in text)) 12 ≡ true = rw (← is, twelve) refl in
    let fits : list_any (λ f. bytes_eq text f) (mac_forms (digits_in text)) ≡ true = rw is at form in
    let decoded : decode_sized (digits_in text) 6 ≡ decode_of (digits_in text) = decode_sized-twice (digits_in text) 6 (rw (← is) twelve) in
    rw (count, fits, is, decoded) refl

-- what `decode_to_slice` says of its result
abbrev pub Decodes : Result (List ℕ) FromHexError → Result Unit FromHexError → List ℕ → Type 0
Decodes d r out = MatchResult d (λ bytes. (r ≡ Ok tt) × (out ≡ bytes)) (λ e. r ≡ Err e)

pub decoded : (d : Result (List ℕ) FromHexError) (r : Result Unit FromHexError) (out : List ℕ) {u : Unit}
    → Decodes d r out → r ≡ Ok u → result_ok d ≡ Some out
decoded (Ok bytes) r out is ok = ap Some (sym is.1)
decoded (Err e) r out is ok = cc

pub undecoded : (d : Result (List ℕ) FromHexError) (r : Result Unit FromHexError) (out : List ℕ) {e : FromHexError}
    → Decodes d r out → r ≡ Err e → result_ok d ≡ None
undecoded (Ok bytes) r out is err = cc
undecoded (Err e) r out is err = refl
