-- What one read takes of the records that are left.
use Rattle.std.proofs.Common.{◌≡◌, ◌<◌, ◌≤◌, ◌+◌, ℕ, zero, suc, Bool, true, false, List, [], ◌∷◌, ◌++◌, length, refl, ap, subst, ◌∙◌, inl, arith, add-one, Option, Some, None, cond, ◌==◌}
use Rattle.std.specs.Borrow.{Bor}
use Rattle.csv.specs.Machine.{Read, step, in_field, start_field, start_record, after_end, ends_with, is_end, ends_at_end, fields_after, field_after, next_record}
use Rattle.csv.specs.Reading.{ReadRecord, Reached, default_config, records, records_from, records_next, strip_bom}
use Rattle.csv.specs.declared.parser.Action.{Action}
use Rattle.csv.specs.declared.parser.State.{State}
use Rattle.csv.specs.declared.parser.State.TheVariants as st
use Rattle.csv.specs.declared.parser.Terminator.{Terminator}
use Rattle.csv.specs.declared.parser.Terminator.TheVariants as term
use Rattle.csv.proofs.ReadFacts.{rows-more, rows-end}
use Rattle.off_import.specs.Records.{SliceReader, StandsBetween, IsNext, records_left, source}

-- a byte that ends a record leaves the machine between two records
abbrev EndsBetween : State × Action → Type 0
EndsBetween q = is_end q.1 ≡ true → ends_at_end q.0 ≡ false

either : (b : Bool) (x y : State × Action) → EndsBetween x → EndsBetween y → EndsBetween (cond b x y)
either true x y p q = p
either false x y p q = q

between_after : (t : Terminator) (c : ℕ) → ends_at_end (after_end t c) ≡ false
between_after term.CRLF c = elim (c == 13) as (λ b. ends_at_end (cond b st.AfterCr st.StartRecord) ≡ false) [ true ↦ refl | false ↦ refl ]
between_after (term.Any t) c = refl

field_ends : (c : ℕ) → EndsBetween (in_field default_config c)
field_ends c = either (c == 44) _ _ (λ e. cc) (either (ends_with term.CRLF c) _ _ (λ e. between_after term.CRLF c) (λ e. cc))

start_ends : (c : ℕ) → EndsBetween (start_field default_config c)
start_ends c = either (c == 34) _ _ (λ e. cc) (field_ends c)

record_ends : (c : ℕ) → EndsBetween (start_record default_config c)
record_ends c = either (ends_with term.CRLF c) _ _ (λ e. cc) (start_ends c)

step_ends : (s : State) (c : ℕ) → EndsBetween (step default_config s c)
step_ends st.StartRecord c = record_ends c
step_ends st.StartField c = start_ends c
step_ends st.InField c = field_ends c
step_ends st.InQuoted c = either (c == 34) _ _ (λ e. cc) (λ e. cc)
step_ends st.InEscape c = λ e. cc
step_ends st.AfterQuote c = either (c == 34) _ _ (λ e. cc) (field_ends c)
step_ends st.InComment c = either (c == 10) _ _ (λ e. cc) (λ e. cc)
step_ends st.AfterCr c = either (c == 10) _ _ (λ e. cc) (record_ends c)

-- a record ends between two records, and leaves no more bytes than there were
abbrev Taken : Read → List ℕ → Type 0
Taken r xs = (ends_at_end r.1 ≡ false) × (length r.2 ≤ length xs)

abbrev ended : State → List (List ℕ) → List ℕ → ℕ → List ℕ → Option Read
ended s f p c rest = Some (fields_after (step default_config s c).1 f p, (step default_config s c).0, rest)

taken : (s : State) (f : List (List ℕ)) (p xs : List ℕ) (r : Read) → next_record default_config s f p xs ≡ Some r → Taken r xs
unfolding next_record
taken s f p [] r e = at_end (ends_at_end s) e
  where
    at_end : (b : Bool) → cond b (Some (f ++ (p ∷ []), st.StartRecord, [])) None ≡ Some r → Taken r []
    at_end true h = let same : (f ++ (p ∷ []), st.StartRecord, []) ≡ r = cc in subst (λ (q : Read). Taken q []) same (refl, omega arith)
    at_end false h = cc
taken s f p (c ∷ rest) r e = at_byte (is_end (step default_config s c).1) refl e (taken (step default_config s c).0 _ _ rest r)
  where
    at_byte : (b : Bool) → is_end (step default_config s c).1 ≡ b
        → cond b (ended s f p c rest) (next_record default_config (step default_config s c).0 (fields_after (step default_config s c).1 f p) (field_after (step default_config s c).1 c p) rest) ≡ Some r
        → (next_record default_config (step default_config s c).0 (fields_after (step default_config s c).1 f p) (field_after (step default_config s c).1 c p) rest ≡ Some r → Taken r rest)
        → Taken r (c ∷ rest)
    at_byte true b h more =
        let same : (fields_after (step default_config s c).1 f p, (step default_config s c).0, rest) ≡ r = cc in
        subst (λ (q : Read). Taken q (c ∷ rest)) same (step_ends s c b, omega arith)
    at_byte false b h more = let t = more h in (t.0, omega (arith, t.1))

-- one that begins between two records takes a byte at least
shorter : (s : State) (xs : List ℕ) (r : Read) → ends_at_end s ≡ false → next_record default_config s [] [] xs ≡ Some r → length r.2 < length xs
unfolding next_record
shorter s [] r b e = let none = rw b at e in cc none
shorter s (c ∷ rest) r b e = at_byte (is_end (step default_config s c).1) e
  where
    at_byte : (b : Bool)
        → cond b (ended s [] [] c rest) (next_record default_config (step default_config s c).0 (fields_after (step default_config s c).1 [] []) (field_after (step default_config s c).1 c []) rest) ≡ Some r
        → length r.2 < length (c ∷ rest)
    at_byte true h =
        let same : (fields_after (step default_config s c).1 [] [], (step default_config s c).0, rest) ≡ r = cc in
        subst (λ (q : Read). length q.2 < length (c ∷ rest)) same (omega arith)
    at_byte false h = omega (arith, (taken _ _ _ rest r h).1)

-- so any number of turns above the number of bytes reads all records
enough : (n m : ℕ) (s : State) (xs : List ℕ) → ends_at_end s ≡ false → length xs < n → length xs < m
    → records_from default_config n s xs ≡ records_from default_config m s xs
unfolding records_from
enough zero m s xs b hn hm = absurd (omega arith)
enough (suc n) zero s xs b hn hm = absurd (omega arith)
enough (suc n) (suc m) s xs b hn hm = next (next_record default_config s [] [] xs) refl (enough n m)
  where
    next : (o : Option Read) → next_record default_config s [] [] xs ≡ o
        → ((s2 : State) (ys : List ℕ) → ends_at_end s2 ≡ false → length ys < n → length ys < m → records_from default_config n s2 ys ≡ records_from default_config m s2 ys)
        → records_next (records_from default_config n) o ≡ records_next (records_from default_config m) o
    next None e each = refl
    next (Some r) e each =
        let less = shorter s xs r b e in
        ap (λ rest. r.0 ∷ rest) (each r.1 r.2 (taken s [] [] xs r e).0 (omega arith) (omega arith))

abbrev all_from : State → List ℕ → List (List (List ℕ))
all_from s xs = records_from default_config (length xs + 1) s xs

none_left : (s : State) (xs : List ℕ) → next_record default_config s [] [] xs ≡ None → all_from s xs ≡ []
unfolding records_from
none_left s xs e = rw (add-one, e) refl

one_left : (s : State) (xs : List ℕ) (r : Read) → ends_at_end s ≡ false → next_record default_config s [] [] xs ≡ Some r → all_from s xs ≡ r.0 ∷ all_from r.1 r.2
unfolding records_from
one_left s xs r b e =
    let less = shorter s xs r b e in
    let rest = enough (length xs) (length r.2 + 1) r.1 r.2 (taken s [] [] xs r e).0 less (omega arith) in
    rw (add-one (length xs), e) (ap (λ more. r.0 ∷ more) rest)

abbrev slice_rest : Bor (List ℕ) → Option (List ℕ)
slice_rest = λ s. Some s.now

left_is : (reader : SliceReader) (text : List ℕ) → source reader ≡ Some text → records_left reader ≡ all_from reader.state text
unfolding records_left
left_is reader text known = rw known refl

-- a new reader has all records of the text left
pub all_left : (reader : SliceReader) (text : List ℕ) → source reader ≡ Some (strip_bom text) → reader.state ≡ st.StartRecord
    → records_left reader ≡ records default_config (strip_bom text)
all_left reader text known start = left_is reader (strip_bom text) known ∙ ap (λ (s : State). all_from s (strip_bom text)) start

-- what a read does
pub next_is : (found : Bool) (a b : SliceReader) (fields : List (List ℕ)) → StandsBetween a → ReadRecord slice_rest a b found fields → b.first ≡ true → b.flexible ≡ a.flexible
    → IsNext found fields a b
unfolding Reached
next_is true a b fields h read first flexible =
    let more = rows-more slice_rest a b fields default_config a.state h.text h.text [] h.defaults h.known (refl, refl) read in
    let (z, known, reached) = more in
    let (p, e, same, ends) = reached in
    let (state, rest) = ends in
    let between = subst (λ (s : State). ends_at_end s ≡ false) state (taken a.state [] [] h.text p e).0 in
    let left : records_left a ≡ p.0 ∷ all_from p.1 p.2 = left_is a h.text h.known ∙ one_left a.state h.text p h.between e in
    let after : records_left b ≡ all_from p.1 p.2 = rw (state, rest) (left_is b z known) in (
      record { untrimmed = read.3 ∙ h.untrimmed; flexible = flexible ∙ h.flexible; ready = inl first; defaults = read.2 ∙ h.defaults; between = between; text = z; known = known },
      left ∙ cc,
    )
next_is false a b fields h read first flexible =
    left_is a h.text h.known ∙ none_left a.state h.text (rows-end slice_rest a b fields default_config h.text h.defaults h.known read)

-- a record was found
pub on_found : (found : Bool) (fields : List (List ℕ)) (a b : SliceReader) → found ≡ true → IsNext found fields a b
    → StandsBetween b × (records_left a ≡ fields ∷ records_left b)
on_found true fields a b e h = h
on_found false fields a b e h = cc
