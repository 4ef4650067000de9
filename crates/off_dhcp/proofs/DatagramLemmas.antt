-- What is known of a datagram without a fault, and how its faults are looked for in two stages.
use Rattle.std.proofs.Common.{◌≡◌, ℕ, ◌+◌, ◌<◌, ◌≤◌, Bool, true, false, not, eqb, ltb, leb, ◌&&◌, get_or, List, [], ◌∷◌, ◌++◌, length, Option, Some, None, Result, Ok, Err, refl, ap, ◌∙◌, arith, length-append}
use Rattle.std.specs.Prelude.{IsOk, is_ok}
use Rattle.std.specs.Option.{option_map}
use Rattle.std.specs.Result.{result_err}
use Rattle.std.specs.List.{slice_range}
use Rattle.std.specs.Str.{bytes_eq}
use Rattle.std.proofs.lemmas.Bool.{ltb-false, leb-true, le-leb, eqb-true, not-false, and_parts, and_from}
use Rattle.off_base.specs.Choices.{when, first_there}
use Rattle.off_base.specs.Parts.{Part, Cut, IsReading, parts_in, bytes_of}
use Rattle.off_base.specs.Parts.Cut.{cut_length, cut_value, cut_behind_pad, cut_behind_part}
use Rattle.off_dhcp.specs.declared.faults.DhcpFault.{DhcpFault}
use Rattle.off_dhcp.specs.declared.faults.DhcpFault.TheVariants.{Short, Long, NotRequest, Cookie, NoType, OptionCut}
use Rattle.off_dhcp.specs.Datagram.{message_fault, fixed_faults, option_faults, options_in, option_in, message_of, received, received_unless, magic_cookie, has_fixed_part, has_head}

-- ---- the first of several

there_first : {X : Type 0} (xs ys : List (Option X)) (x : X) → first_there xs ≡ Some x → first_there (xs ++ ys) ≡ Some x
there_first [] ys x is = cc
there_first (Some y ∷ xs) ys x is = is
there_first (None ∷ xs) ys x is = there_first xs ys x is

none_first : {X : Type 0} (xs ys : List (Option X)) → first_there xs ≡ None → first_there (xs ++ ys) ≡ first_there ys
none_first [] ys is = refl
none_first (Some y ∷ xs) ys is = cc
none_first (None ∷ xs) ys is = none_first xs ys is

both_none : {X : Type 0} (o : Option X) (more : List (Option X)) → first_there (o ∷ more) ≡ None → (o ≡ None) × (first_there more ≡ None)
both_none None more is = (refl, is)
both_none (Some x) more is = cc

not_if_none : (test : Bool) (fault : DhcpFault) → when test fault ≡ None → test ≡ false
not_if_none true fault is = cc
not_if_none false fault is = refl

pub in_fixed : (bytes : List ℕ) (fault : DhcpFault) → first_there (fixed_faults bytes) ≡ Some fault → message_of bytes ≡ Err fault
unfolding message_fault
in_fixed bytes fault is = ap (λ o. received_unless o (received bytes)) (there_first (fixed_faults bytes) (option_faults (options_in bytes)) fault is)

pub fixed_first : (bytes : List ℕ) (fault : DhcpFault) → first_there (fixed_faults bytes) ≡ Some fault → message_fault bytes ≡ Some fault
unfolding message_fault
fixed_first bytes fault is = there_first (fixed_faults bytes) (option_faults (options_in bytes)) fault is

pub options_first : (bytes : List ℕ) → first_there (fixed_faults bytes) ≡ None → message_fault bytes ≡ first_there (option_faults (options_in bytes))
unfolding message_fault
options_first bytes none = none_first (fixed_faults bytes) (option_faults (options_in bytes)) none

pub in_options : (bytes : List ℕ) (fault : DhcpFault) → first_there (fixed_faults bytes) ≡ None → first_there (option_faults (options_in bytes)) ≡ Some fault
    → message_of bytes ≡ Err fault
unfolding message_fault
in_options bytes fault none is =
    ap (λ o. received_unless o (received bytes)) (none_first (fixed_faults bytes) (option_faults (options_in bytes)) none ∙ is)

pub no_fault : (bytes : List ℕ) → first_there (fixed_faults bytes) ≡ None → first_there (option_faults (options_in bytes)) ≡ None → message_fault bytes ≡ None
unfolding message_fault
no_fault bytes none none' = none_first (fixed_faults bytes) (option_faults (options_in bytes)) none ∙ none'

pub read_whole : (bytes : List ℕ) → message_fault bytes ≡ None → message_of bytes ≡ Ok (received bytes)
read_whole bytes none = ap (λ o. received_unless o (received bytes)) none

-- ---- a datagram without a fault

pub record IsSound (bytes : List ℕ) : Type 0 where
  pub long : 240 ≤ length bytes
  pub short : length bytes ≤ 1500
  pub uncut : IsOk (parts_in true (options_in bytes))
  pub one : length (bytes_of (option_in 53 (options_in bytes))) ≡ 1

is_ok_if_none : (read : Result (List Part) ℕ) → option_map OptionCut (option_map (λ place. place + 240) (result_err read)) ≡ None → IsOk read
is_ok_if_none (Ok parts) none = refl
is_ok_if_none (Err place) none = cc

abbrev AllNone : {X : Type 0} → List (Option X) → Type 0
AllNone [] = Unit {0}
AllNone (o ∷ more) = (o ≡ None) × AllNone more

all_none : {X : Type 0} (xs : List (Option X)) → first_there xs ≡ None → AllNone xs
all_none [] is = tt
all_none (o ∷ more) is = let both = both_none o more is in (both.0, all_none more both.1)

pub is_sound : (bytes : List ℕ) → message_fault bytes ≡ None → IsSound bytes
unfolding message_fault
is_sound bytes none =
    let all = all_none (fixed_faults bytes ++ option_faults (options_in bytes)) none in
    let long = ltb-false (length bytes) 240 (not_if_none (ltb (length bytes) 240) Short all.0) in
    let short = ltb-false 1500 (length bytes) (not_if_none (ltb 1500 (length bytes)) Long all.1.0) in
    let kind = all.1.1.1.1.1.1.0 in
    record {
      long = long;
      short = short;
      uncut = is_ok_if_none (parts_in true (options_in bytes)) all.1.1.1.1.1.0;
      one = eqb-true (length (bytes_of (option_in 53 (options_in bytes)))) 1
          (not-false (eqb (length (bytes_of (option_in 53 (options_in bytes)))) 1) (not_if_none (not (eqb (length (bytes_of (option_in 53 (options_in bytes)))) 1)) NoType kind));
    }

-- ---- a head

pub record IsLong (bytes : List ℕ) : Type 0 where
  pub long : 240 ≤ length bytes
  pub short : length bytes ≤ 1500
  pub uncut : IsOk (parts_in true (options_in bytes))

pub is_long : (bytes : List ℕ) → has_head bytes ≡ true → IsLong bytes
is_long bytes head =
    let cookie = bytes_eq (slice_range bytes 236 240) magic_cookie in
    let both = and_parts (has_fixed_part bytes) (is_ok (parts_in true (options_in bytes))) head in
    let fixed = and_parts (leb 240 (length bytes) && leb (length bytes) 1500 && eqb (get_or bytes 0 0) 1) cookie both.0 in
    let sized = and_parts (leb 240 (length bytes) && leb (length bytes) 1500) (eqb (get_or bytes 0 0) 1) fixed.0 in
    let bounds = and_parts (leb 240 (length bytes)) (leb (length bytes) 1500) sized.0 in
    record { long = leb-true 240 (length bytes) bounds.0; short = leb-true (length bytes) 1500 bounds.1; uncut = both.1 }

pub has_its_head : (bytes : List ℕ) → message_fault bytes ≡ None → has_head bytes ≡ true
unfolding message_fault
has_its_head bytes none =
    let sound = is_sound bytes none in
    let all = all_none (fixed_faults bytes ++ option_faults (options_in bytes)) none in
    let cookie = bytes_eq (slice_range bytes 236 240) magic_cookie in
    let long = le-leb 240 (length bytes) sound.long in
    let short = le-leb (length bytes) 1500 sound.short in
    let request = not-false (eqb (get_or bytes 0 0) 1) (not_if_none (not (eqb (get_or bytes 0 0) 1)) NotRequest all.1.1.0) in
    let magic = not-false cookie (not_if_none (not cookie) Cookie all.1.1.1.1.0) in
    and_from (has_fixed_part bytes) (is_ok (parts_in true (options_in bytes)))
    (and_from (leb 240 (length bytes) && leb (length bytes) 1500 && eqb (get_or bytes 0 0) 1) cookie
    (and_from (leb 240 (length bytes) && leb (length bytes) 1500) (eqb (get_or bytes 0 0) 1) (and_from (leb 240 (length bytes)) (leb (length bytes) 1500) long short) request) magic)
    sound.uncut

-- ---- where an option is cut

pub cut_within : (m : Bool) (here place : ℕ) (bytes : List ℕ) → Cut m here place bytes → place < here + length bytes
cut_within m _ _ _ (cut_length here code ok) = omega arith
cut_within m _ _ _ (cut_value here code len value ok over) = omega arith
cut_within m _ _ _ (cut_behind_pad here place bytes marked rest) = let more = cut_within m (here + 1) place bytes rest in omega arith
cut_within m _ _ _ (cut_behind_part here place code value bytes ok rest) =
    let more = cut_within m (here + 2 + length value) place bytes rest in
    let size = length-append value bytes in
    omega arith

pub place_within : (bytes : List ℕ) (place : ℕ) → IsReading true bytes (parts_in true bytes) → parts_in true bytes ≡ Err place → place < length bytes
place_within bytes place reading is =
    let cut : Cut true 0 place bytes = rw is at reading.said in
    let within = cut_within true 0 place bytes cut in
    omega arith
