-- A row's bytes are its fields joined, and fields are read in one way alone: so a row with a bad place is no row's bytes, and rows of one
-- kind with the same bytes are one row.
use Rattle.std.proofs.Common.{◌≡◌, ℕ, ◌≤◌, List, [], ◌∷◌, ◌++◌, length, refl, sym, ap, subst, ◌∙◌, arith}
use Rattle.std.specs.Int.{to_be_bytes, w16}
use Rattle.off_base.specs.Tree.{spelling}
use Rattle.off_base.proofs.ByteLemmas.{same_parts}
use Rattle.off_rows.specs.RowBytes.{counted}
use Rattle.off_rows.specs.BadRow.{Field, bytes_of, one_of, text, secret, settings, IsField, BadFrom, unread, behind, left_over}
use Rattle.off_rows.proofs.FieldLemmas.{same_length}

-- bytes with a length in front, against others
counted_long : (v w r s : List ℕ) → counted v ++ r ≡ counted w ++ s → length (counted v) ≡ length (counted w)
counted_long v w r s e = let one : length v ≡ length w = cc in omega arith

spelled_long : (v w r s : List ℕ) → length v ≤ 65535 → length w ≤ 65535 → (to_be_bytes w16 (length v) ++ v) ++ r ≡ (to_be_bytes w16 (length w) ++ w) ++ s → length (to_be_bytes w16 (length v) ++ v) ≡ length (to_be_bytes w16 (length w) ++ w)
spelled_long v w r s p q e =
    let both = same_parts (to_be_bytes w16 (length v)) (to_be_bytes w16 (length w)) (v ++ r) (w ++ s) refl e in
    let one = same_length (length v) (length w) (omega arith) (omega arith) both.0 in
    omega arith

-- two values of a field at the front of the same bytes are as long as each other
as_long : (field : Field) (a b r s : List ℕ) → IsField field a → IsField field b → a ++ r ≡ b ++ s → length a ≡ length b
as_long (bytes_of n) a b r s p q e = p ∙ sym q
as_long (one_of marks) a b r s p q e = ap length p.2 ∙ sym (ap length q.2)
as_long text a b r s p q e =
    let f = ap (λ (x : List ℕ). x ++ r) (sym p.2) ∙ (e ∙ ap (λ (x : List ℕ). x ++ s) q.2) in
    ap length p.2 ∙ (counted_long p.0 q.0 r s f ∙ sym (ap length q.2))
as_long secret a b r s p q e =
    let f = ap (λ (x : List ℕ). x ++ r) (sym p.2) ∙ (e ∙ ap (λ (x : List ℕ). x ++ s) q.2) in
    ap length p.2 ∙ (counted_long p.0 q.0 r s f ∙ sym (ap length q.2))
as_long settings a b r s p q e =
    let f = ap (λ (x : List ℕ). x ++ r) (sym p.3) ∙ (e ∙ ap (λ (x : List ℕ). x ++ s) q.3) in
    ap length p.3 ∙ (spelled_long (spelling p.0) (spelling q.0) r s p.2 q.2 f ∙ sym (ap length q.3))

same_field : (field : Field) (a b r s : List ℕ) → IsField field a → IsField field b → a ++ r ≡ b ++ s → (a ≡ b) × (r ≡ s)
same_field field a b r s p q e = same_parts a b r s (as_long field a b r s p q e) e

-- values for fields, one for each, and their bytes
abbrev pub AllFields : List Field → List (List ℕ) → Type 0
AllFields [] [] = Unit {0}
AllFields [] (v ∷ vs) = ⊥
AllFields (field ∷ fields) [] = ⊥
AllFields (field ∷ fields) (v ∷ vs) = IsField field v × AllFields fields vs

abbrev pub joined : List (List ℕ) → List ℕ
joined [] = []
joined (v ∷ vs) = v ++ joined vs

-- the fields of the same bytes are one list
pub same_fields : (fields : List Field) (vs ws : List (List ℕ)) → AllFields fields vs → AllFields fields ws → joined vs ≡ joined ws → vs ≡ ws
same_fields [] [] [] p q e = refl
same_fields [] [] (w ∷ ws) p q e = absurd q
same_fields [] (v ∷ vs) ws p q e = absurd p
same_fields (field ∷ fields) [] ws p q e = absurd p
same_fields (field ∷ fields) (v ∷ vs) [] p q e = absurd q
same_fields (field ∷ fields) (v ∷ vs) (w ∷ ws) p q e =
    let both = same_field field v w (joined vs) (joined ws) p.0 q.0 e in
    let more = same_fields fields vs ws p.1 q.1 both.1 in
    let one : v ≡ w = both.0 in
    cc

-- bytes with a bad place have no values for these fields
pub no_values : {fields : List Field} {bytes : List ℕ} {from place : ℕ} → BadFrom fields bytes from place → (vs : List (List ℕ)) → AllFields fields vs → joined vs ≡ bytes → ⊥
no_values (unread none e) [] p q = p
no_values (unread none e) (v ∷ vs) p q = none v (joined vs) p.0 (sym q)
no_values (behind first rest next is front on bad) [] p q = p
no_values (behind {field = field} first rest next is front on bad) (v ∷ vs) p q =
    let both = same_field field v first (joined vs) rest p.0 is (q ∙ front) in no_values bad vs p.1 both.1
no_values (left_over some e) [] p q = some (sym q)
no_values (left_over some e) (v ∷ vs) p q = p

-- a bad place is one
pub one_place : {fields : List Field} {bytes : List ℕ} {from p q : ℕ} → BadFrom fields bytes from p → BadFrom fields bytes from q → p ≡ q
one_place (unread none e) (unread others f) = e ∙ sym f
one_place (unread none e) (behind first rest next is front on bad) = absurd (none first rest is front)
one_place (behind first rest next is front on bad) (unread none e) = absurd (none first rest is front)
one_place {bytes = bytes} {from = from} {q = q} (behind {field = field} {fields = fields} first rest next is front on bad) (behind second more then is' front' on' other) =
    let both = same_field field second first more rest is' is (sym front' ∙ front) in
    let there : then ≡ next = let long = ap length both.0 in omega arith in
    one_place bad (subst (λ (x : List ℕ). BadFrom fields x next q) both.1 (subst (λ (n : ℕ). BadFrom fields more n q) there other))
one_place (left_over some e) (left_over others f) = e ∙ sym f
