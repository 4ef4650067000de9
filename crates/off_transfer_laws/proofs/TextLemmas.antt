-- The texts of a request are those that spell its bytes; and the size and the seconds that are read of them.
use Rattle.std.proofs.Common.{◌≡◌, ℕ, suc, ◌-◌, ◌≤◌, Bool, true, false, cond, ◌&&◌, nat_le, nat_lt, List, [], ◌∷◌, ◌++◌, length, take, append_assoc, Option, Some, None, option_and_then, Result, Ok, Err, if◌then◌else◌, ◌==◌, codes, refl, sym, ap, subst, ◌∙◌, arith}
use Rattle.std.proofs.lemmas.Bool.{or_parts, or_from, eqb-true, leb-true, le-ltb, and_parts}
use Rattle.std.specs.List.{flat_map, slice_split, onto_first, AllByRecursion}
use Rattle.std.specs.Str.{str_eq_ignore_ascii_case}
use Rattle.off_packets.specs.declared.packets.Options.{Options}
use Rattle.off_base.specs.Number.{number_of, is_number_text, number_read}
use Rattle.off_packets.specs.Packets.{Meant, Reads, Writes, GivesUp, IsOther, is_zero, all_but_last, ended_texts, at_least, value_of, size_read, seconds_read, options_asked, request_of, two_byte_number, acknowledgement_of, short_packet_of, packet_of}
use Rattle.off_packets.specs.declared.faults.PacketFault.{PacketFault}
use Rattle.off_packets.specs.declared.faults.PacketFault.TheVariants as fault
use Rattle.off_transfer_laws.specs.Texts.{has_zero, with_zero, IsEnded, TextsAreThese, RequestsAreRead, SizesFit, SecondsFit}

split_free : (xs : List ℕ) → has_zero xs ≡ false → slice_split is_zero xs ≡ xs ∷ []
split_free [] e = refl
split_free (x ∷ xs) e =
    let parts = or_parts (is_zero x) (has_zero xs) e in
    ap (λ b. cond b ([] ∷ slice_split is_zero xs) (onto_first x (slice_split is_zero xs))) parts.0 ∙ ap (onto_first x) (split_free xs parts.1)

split_ended : (text rest : List ℕ) → has_zero text ≡ false → slice_split is_zero (text ++ 0 ∷ rest) ≡ text ∷ slice_split is_zero rest
split_ended [] rest e = refl
split_ended (x ∷ xs) rest e =
    let parts = or_parts (is_zero x) (has_zero xs) e in
    ap (λ b. cond b ([] ∷ slice_split is_zero (xs ++ 0 ∷ rest)) (onto_first x (slice_split is_zero (xs ++ 0 ∷ rest)))) parts.0
    ∙ ap (onto_first x) (split_ended xs rest parts.1)

-- there is always a last piece
record Pieces (pieces : List (List ℕ)) : Type 0 where
  first : List ℕ
  more : List (List ℕ)
  are : pieces ≡ first ∷ more

first_of : (x : ℕ) (pieces : List (List ℕ)) → Pieces (onto_first x pieces)
first_of x [] = record { first = x ∷ []; more = []; are = refl }
first_of x (piece ∷ pieces) = record { first = x ∷ piece; more = pieces; are = refl }

pieces_by : (b : Bool) (x : ℕ) (pieces : List (List ℕ)) → Pieces (cond b ([] ∷ pieces) (onto_first x pieces))
pieces_by true x pieces = record { first = []; more = pieces; are = refl }
pieces_by false x pieces = first_of x pieces

pieces_of : (xs : List ℕ) → Pieces (slice_split is_zero xs)
pieces_of [] = record { first = []; more = []; are = refl }
pieces_of (x ∷ xs) = pieces_by (is_zero x) x (slice_split is_zero xs)

but_last_more : (text piece : List ℕ) (pieces : List (List ℕ)) → all_but_last (text ∷ piece ∷ pieces) ≡ text ∷ all_but_last (piece ∷ pieces)
but_last_more text piece pieces =
    let less : suc (suc (length pieces)) - 1 ≡ suc (suc (length pieces) - 1) = omega arith in ap (λ n. take n (text ∷ piece ∷ pieces)) less

ended_more : (text rest : List ℕ) → has_zero text ≡ false → ended_texts (text ++ 0 ∷ rest) ≡ text ∷ ended_texts rest
ended_more text rest e =
    let pieces = pieces_of rest in
    ap all_but_last (split_ended text rest e)
    ∙ ap (λ ps. all_but_last (text ∷ ps)) pieces.are
    ∙ but_last_more text pieces.first pieces.more
    ∙ ap (λ ps. text ∷ all_but_last ps) (sym pieces.are)

ended_none : (xs : List ℕ) → has_zero xs ≡ false → ended_texts xs ≡ []
ended_none xs e = ap all_but_last (split_free xs e)

ended_joined : (texts : List (List ℕ)) (rest : List ℕ) → AllByRecursion (λ text. has_zero text ≡ false) texts → has_zero rest ≡ false
    → ended_texts (flat_map with_zero texts ++ rest) ≡ texts
ended_joined [] rest free none = ended_none rest none
ended_joined (text ∷ texts) rest free none =
    ap ended_texts (append_assoc (with_zero text) (flat_map with_zero texts) rest ∙ append_assoc text (0 ∷ []) (flat_map with_zero texts ++ rest))
    ∙ ended_more text (flat_map with_zero texts ++ rest) free.0
    ∙ ap (λ ts. text ∷ ts) (ended_joined texts rest free.1 none)

pub only_texts : (bytes : List ℕ) (texts : List (List ℕ)) → IsEnded bytes texts → ended_texts bytes ≡ texts
only_texts bytes texts is = ap ended_texts is.whole ∙ ended_joined texts is.rest is.texts_free is.rest_free

longer : (x : ℕ) (xs : List ℕ) (b : Bool) → is_zero x ≡ b → (texts : List (List ℕ)) → IsEnded xs texts → (more : List (List ℕ)) × IsEnded (x ∷ xs) more
longer x xs true e texts is =
    let zero_is : x ≡ 0 = eqb-true x 0 e in
    ([] ∷ texts, record { rest = is.rest; whole = λ i. zero_is i ∷ is.whole i; texts_free = (refl, is.texts_free); rest_free = is.rest_free })
longer x xs false e [] is =
    ([], record { rest = x ∷ is.rest; whole = ap (λ ys. x ∷ ys) is.whole; texts_free = tt; rest_free = or_from (is_zero x) (has_zero is.rest) e is.rest_free })
longer x xs false e (text ∷ texts) is = (
  (x ∷ text) ∷ texts,
  record {
    rest = is.rest;
    whole = ap (λ ys. x ∷ ys) is.whole;
    texts_free = (or_from (is_zero x) (has_zero text) e is.texts_free.0, is.texts_free.1);
    rest_free = is.rest_free;
  },
)

texts_there : (bytes : List ℕ) → (texts : List (List ℕ)) × IsEnded bytes texts
texts_there [] = ([], record { rest = []; whole = refl; texts_free = tt; rest_free = refl })
texts_there (x ∷ xs) = let there = texts_there xs in longer x xs (is_zero x) refl there.0 there.1

pub texts_are_these : TextsAreThese
texts_are_these bytes texts = (
  λ e. let there = texts_there bytes in subst (IsEnded bytes) (sym (only_texts bytes there.0 there.1) ∙ e) there.1,
  only_texts bytes texts,
)

pub requests_are_read : RequestsAreRead
unfolding packet_of
requests_are_read bytes texts is few =
    let fits : nat_lt 1500 (suc (suc (length bytes))) ≡ false = le-ltb 1500 (suc (suc (length bytes))) (omega (arith, few)) in
    ap (λ b. cond b (Err fault.Form) (request_of (ended_texts bytes))) fits ∙ ap request_of (only_texts bytes texts is)

-- ---- sizes and seconds

abbrev pub IsWithin : ℕ → ℕ → Option ℕ → Type 0
IsWithin least most None = Unit {0}
IsWithin least most (Some n) = (least ≤ n) × (n ≤ most)

pub record Fits (asked : Options) : Type 0 where
  pub size : IsWithin 8 65464 asked.blksize
  pub seconds : IsWithin 1 255 asked.timeout

abbrev pub Fitting : Result Meant PacketFault → Type 0
Fitting (Ok (Reads name asked)) = Fits asked
Fitting other = Unit {0}

module _ (least most : ℕ) where
  least_by : (n : ℕ) (b : Bool) → nat_le least n ≡ b → n ≤ most → IsWithin least most (if b then Some n else None)
  least_by n true e few = (leb-true least n e, few)
  least_by n false e few = tt

  number_by : (n : ℕ) (text : Bool) (b : Bool) → (text && nat_le n most) ≡ b → IsWithin least most (option_and_then (at_least least) (if b then Some n else None))
  number_by n text true e = least_by n (nat_le least n) refl (leb-true n most (and_parts text (nat_le n most) e).1)
  number_by n text false e = tt

  number_fits : (value : List ℕ) (b : Bool) → IsWithin least most (option_and_then (at_least least) (if b then number_read most value else None))
  unfolding number_read
  number_fits value true = number_by (number_of value) (is_number_text value) (is_number_text value && nat_le (number_of value) most) refl
  number_fits value false = tt

asked_fits : (o : Option (List ℕ)) → IsWithin 8 65464 (option_and_then size_read o)
asked_fits None = tt
asked_fits (Some value) = number_fits 8 65464 value (nat_le (length value) 5)

seconds_fit_in : (o : Option (List ℕ)) → IsWithin 1 255 (option_and_then seconds_read o)
seconds_fit_in None = tt
seconds_fit_in (Some value) = number_fits 1 255 value (nat_le (length value) 3)

octet_fits : (name : List ℕ) (texts : List (List ℕ)) (b : Bool) → Fitting (if b then Ok (Reads name (options_asked texts)) else Err fault.Mode)
octet_fits name texts true = record { size = asked_fits (value_of (codes "blksize") texts); seconds = seconds_fit_in (value_of (codes "timeout") texts) }
octet_fits name texts false = tt

request_fits : (texts : List (List ℕ)) → Fitting (request_of texts)
request_fits [] = tt
request_fits (name ∷ []) = tt
request_fits (name ∷ mode ∷ texts) = octet_fits name texts (str_eq_ignore_ascii_case mode (codes "octet"))

acknowledgement_fits : (bytes : List ℕ) → Fitting (acknowledgement_of bytes)
acknowledgement_fits [] = tt
acknowledgement_fits (high ∷ []) = tt
acknowledgement_fits (high ∷ low ∷ rest) = tt

kind_fits : (bytes : List ℕ) (reads writes acknowledges fails : Bool)
    → Fitting (if reads then request_of (ended_texts bytes) else if writes then Ok Writes else if acknowledges then acknowledgement_of bytes else if fails then Ok GivesUp else Ok IsOther)
kind_fits bytes true writes acknowledges fails = request_fits (ended_texts bytes)
kind_fits bytes false true acknowledges fails = tt
kind_fits bytes false false true fails = acknowledgement_fits bytes
kind_fits bytes false false false true = tt
kind_fits bytes false false false false = tt

short_fits : (bytes : List ℕ) → Fitting (short_packet_of bytes)
short_fits [] = tt
short_fits (high ∷ []) = tt
short_fits (high ∷ low ∷ bytes) =
    let code = two_byte_number high low in kind_fits bytes (code == 1) (code == 2) (code == 4) (code == 5)

long_fits : (bytes : List ℕ) (b : Bool) → Fitting (if b then Err fault.Form else short_packet_of bytes)
long_fits bytes true = tt
long_fits bytes false = short_fits bytes

pub packet_fits : (bytes : List ℕ) → Fitting (packet_of bytes)
unfolding packet_of
packet_fits bytes = long_fits bytes (nat_lt 1500 (length bytes))

read_fits : (bytes name : List ℕ) (asked : Options) → packet_of bytes ≡ Ok (Reads name asked) → Fits asked
read_fits bytes name asked e = subst Fitting e (packet_fits bytes)

pub sizes_fit : SizesFit
sizes_fit bytes name asked size e is = subst (IsWithin 8 65464) is (read_fits bytes name asked e).size

pub seconds_fit : SecondsFit
seconds_fit bytes name asked seconds e is = subst (IsWithin 1 255) is (read_fits bytes name asked e).seconds
