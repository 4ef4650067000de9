-- What is remembered of agreement: when it's right, and what it says of a transfer.
use Rattle.std.proofs.Common.{◌≡◌, ◌⊎◌, inl, inr, ℕ, zero, suc, ◌+◌, ◌<◌, ◌==◌, ◌||◌, Bool, true, false, List, [], ◌∷◌, ◌++◌, length, take, get_or, Option, Some, None, is_some, IfSome, refl, sym, ap, ◌∙◌, subst, arith}
use Rattle.std.proofs.Math.ListN.{set, replicate}
use Rattle.std.specs.List.{slice_get, list_any}
use Rattle.std.specs.Str.{bytes_eq}
use Rattle.std.proofs.Math.Dec.{ltb}
use Rattle.std.proofs.lemmas.Bool.{and_parts, ltb-true, eqb-true}
use Rattle.std.proofs.lemmas.Slice.Eq.{bytes_eq-Decides}
use Rattle.std.proofs.lemmas.List.{length-replicate, same_lists, get_or-set_same}
use Rattle.std.proofs.lemmas.List.Folds.{list_any_more, list_any_at}
use Rattle.std.proofs.lemmas.Option.{slice_get_within, get_or_from_slice_get}
use Rattle.off_base.specs.declared.addresses.Ip4.{Ip4}
use Rattle.off_base.specs.declared.macs.Mac.{Mac}
use Rattle.off_defs.specs.declared.writes.Write.{Write}
use Rattle.off_defs.specs.State.{Tables, Transfer}
use Rattle.off_account_rules.specs.Rows.{passes}
use Rattle.off_base.specs.Macs.{is_same_mac}
use Rattle.off_defs.specs.Tables.{key_written}
use Rattle.off_transfer_rules.specs.Requests.{file_owner}
use Rattle.off_transfer_rules.specs.View.{View, view, agrees}
use Rattle.off_tftp.specs.declared.agreements.Agreement.{Agreement}
use Rattle.off_tftp.specs.Agreements.{Slots, most_slots, none_remembered, slot_of, in_slot, with_agreement, with_agreed, stands_for, is_remembered, agrees_now, AgreesBy, IsAgreementOf, RemembersRight, StandsRight, AllAgreed, without_row, without_rows}

-- ---- slots

-- what stands in a list in which one place was written is what was written, or stood there before
pub set_cases : {X : Type 0} (xs : List X) (i k : ℕ) (v d y : X) → get_or (set xs i v) k d ≡ y → ((i ≡ k) × (v ≡ y)) ⊎ (get_or xs k d ≡ y)
set_cases [] i k v d y is = inr is
set_cases (x ∷ xs) zero zero v d y is = inl (refl, is)
set_cases (x ∷ xs) zero (suc k) v d y is = inr is
set_cases (x ∷ xs) (suc i) zero v d y is = inr is
set_cases (x ∷ xs) (suc i) (suc k) v d y is =
    elim (set_cases xs i k v d y is) [ inl both ↦ inl (ap suc both.0, both.1) | inr old ↦ inr old ]

none_there : {X : Type 0} (n k : ℕ) (none : X) → get_or (replicate n none) k none ≡ none
none_there zero k none = refl
none_there (suc n) zero none = refl
none_there (suc n) (suc k) none = none_there n k none

pub nothing_stands : (k : ℕ) → get_or none_remembered k None ≡ None
unfolding none_remembered
nothing_stands k = none_there 512 k None

-- slots in which nothing stands
pub forgotten_all : (slots : Slots) → length slots ≡ 512 → ((k : ℕ) → get_or slots k None ≡ None) → slots ≡ none_remembered
unfolding none_remembered
forgotten_all slots many none =
    same_lists slots (replicate 512 None) (many ∙ sym (length-replicate {A = Option Agreement} 512 None)) (λ k d below.
    same_default slots k d below ∙ none k ∙ sym (none_there 512 k None) ∙ sym (same_default (replicate 512 None) k d (subst (λ n. k < n) (many ∙ sym (length-replicate {A = Option Agreement} 512 None)) below)))
  where
    same_default : (xs : Slots) (k : ℕ) (d : Option Agreement) → k < length xs → get_or xs k d ≡ get_or xs k None
    same_default [] k d below = absurd (omega (arith, below))
    same_default (x ∷ xs) zero d below = refl
    same_default (x ∷ xs) (suc k) d below = same_default xs k d (omega (arith, below))

pub none_agreed : (t : Tables) → AllAgreed t none_remembered
none_agreed t slot a is = let no : None ≡ Some a = sym (nothing_stands slot) ∙ is in cc

pub agreed_put : (t : Tables) (slots : Slots) (a : Agreement) → AgreesBy (view t a.ip) a → AllAgreed t slots → AllAgreed t (with_agreement a slots)
agreed_put t slots a right agreed = λ slot b is.
    elim (set_cases slots (slot_of a.ip) slot (Some a) None (Some b) is) [
      | inl both ↦ let same : a ≡ b = (let e : Some a ≡ Some b = both.1 in cc) in subst (StandsRight t slot) same (record { place = both.0; agrees = right })
      | inr old ↦ agreed slot b old
    ]

pub agreed_seen : (t : Tables) (ip : Ip4) (slots : Slots) (seen : Option Agreement) → IfSome seen (IsAgreementOf (view t ip) ip) → AllAgreed t slots → AllAgreed t (with_agreed seen slots)
agreed_seen t ip slots None right agreed = agreed
agreed_seen t ip slots (Some a) right agreed = agreed_put t slots a (subst (λ (x : Ip4). AgreesBy (view t x) a) (sym right.here) right.agrees) agreed

in_slot_right : (t : Tables) (ip : Ip4) (slots : Slots) (o : Option Agreement) → in_slot ip slots ≡ o → AllAgreed t slots → IfSome o (λ a. a.ip ≡ ip → AgreesBy (view t ip) a)
in_slot_right t ip slots None is agreed = tt
in_slot_right t ip slots (Some a) is agreed = λ here. subst (λ (x : Ip4). AgreesBy (view t x) a) here (agreed (slot_of ip) a is).agrees

pub remembers_right : (t : Tables) (ip : Ip4) (slots : Slots) (v : View) → v ≡ view t ip → AllAgreed t slots → RemembersRight v ip slots
remembers_right t ip slots v is agreed = subst (λ (w : View). RemembersRight w ip slots) (sym is) (in_slot_right t ip slots (in_slot ip slots) refl agreed)

-- ---- what stands for a transfer

pub record StandsFor (now : ℕ) (ip : Ip4) (x : Transfer) (a : Agreement) : Type 0 where
  pub before : now < a.until.0
  pub here : a.ip ≡ ip
  pub modem : a.modem ≡ x.modem
  pub subscriber : a.subscriber ≡ x.subscriber
  pub name : a.name ≡ x.name

same_mac : (a b : Mac) → is_same_mac a b ≡ true → b ≡ a
same_mac a b e = ap (λ (bytes : List ℕ). record { 0 = bytes }) (sym ((bytes_eq-Decides a.0 b.0).0 e))

pub stands_so : (now : ℕ) (ip : Ip4) (x : Transfer) (a : Agreement) → stands_for now ip x a ≡ true → StandsFor now ip x a
stands_so now ip x a e =
    let one = and_parts (ltb now a.until.0) _ e in
    let two = and_parts (a.ip.0 == ip.0) _ one.1 in
    let three = and_parts (is_same_mac x.modem a.modem) _ two.1 in
    let four = and_parts (x.subscriber == a.subscriber) (bytes_eq x.name a.name) three.1 in
    record {
      before = ltb-true now a.until.0 one.0;
      here = ap (λ (n : ℕ). record { 0 = n }) (eqb-true a.ip.0 ip.0 two.0);
      modem = same_mac x.modem a.modem three.0;
      subscriber = sym (eqb-true x.subscriber a.subscriber four.0);
      name = sym ((bytes_eq-Decides x.name a.name).0 four.1);
    }

pub agrees_for : (v : View) (now : ℕ) (ip : Ip4) (x : Transfer) (a : Agreement) → StandsFor now ip x a → AgreesBy v a → agrees v now ip x.name (file_owner x.modem x.subscriber) ≡ true
agrees_for v now ip x a stands right =
    ap (λ (i : Ip4). agrees v now i x.name (file_owner x.modem x.subscriber)) (sym stands.here)
    ∙ ap (λ (n : List ℕ). agrees v now a.ip n (file_owner x.modem x.subscriber)) (sym stands.name)
    ∙ ap (λ (m : Mac). agrees v now a.ip a.name (file_owner m x.subscriber)) (sym stands.modem)
    ∙ ap (λ (n : ℕ). agrees v now a.ip a.name (file_owner a.modem n)) (sym stands.subscriber)
    ∙ right now stands.before

agrees_in : (v : View) (now : ℕ) (ip : Ip4) (x : Transfer) (o : Option Agreement) → passes (stands_for now ip x) o ≡ true → IfSome o (λ a. a.ip ≡ ip → AgreesBy v a) → agrees v now ip x.name (file_owner x.modem x.subscriber) ≡ true
agrees_in v now ip x None e right = cc
agrees_in v now ip x (Some a) e right = let stands = stands_so now ip x a e in agrees_for v now ip x a stands (right stands.here)

pub remembered_agrees : (v : View) (now : ℕ) (ip : Ip4) (slots : Slots) (x : Transfer) → is_remembered now ip slots x ≡ true → RemembersRight v ip slots → agrees v now ip x.name (file_owner x.modem x.subscriber) ≡ true
remembered_agrees v now ip slots x e right = agrees_in v now ip x (in_slot ip slots) e right

-- what is put for an address stands in its slot
put_stands : (a : Agreement) (slots : Slots) → length slots ≡ most_slots → in_slot a.ip (with_agreement a slots) ≡ Some a
put_stands a slots wide =
    let within : slot_of a.ip < 512 = omega arith in
    get_or-set_same slots (slot_of a.ip) (Some a) None (subst (λ n. slot_of a.ip < n) (sym wide) within)

-- what stands in the slot of an address and for a transfer of it is remembered
pub standing_remembered : (now : ℕ) (ip : Ip4) (x : Transfer) (slots : Slots) (seen : Option Agreement) → IfSome seen (λ a. in_slot a.ip slots ≡ seen) → passes (stands_for now ip x) seen ≡ true → is_remembered now ip slots x ≡ true
standing_remembered now ip x slots None there e = cc
standing_remembered now ip x slots (Some a) there e =
    ap (λ (i : Ip4). passes (stands_for now ip x) (in_slot i slots)) (sym (stands_so now ip x a e).here)
    ∙ ap (passes (stands_for now ip x)) there ∙ e

-- what was seen to stand for a transfer is remembered once it's put
pub seen_remembered : (now : ℕ) (ip : Ip4) (x : Transfer) (slots : Slots) (seen : Option Agreement) → length slots ≡ most_slots → passes (stands_for now ip x) seen ≡ true → is_remembered now ip (with_agreed seen slots) x ≡ true
seen_remembered now ip x slots None wide e = cc
seen_remembered now ip x slots (Some a) wide e = standing_remembered now ip x (with_agreement a slots) (Some a) (put_stands a slots wide) e

-- what agrees stands for the transfer, where it was made of it
pub agreement_stands : (v : View) (now : ℕ) (ip : Ip4) (x : Transfer) (seen : Option Agreement) → is_some seen ≡ agrees_now v now ip x → IfSome seen (λ a. stands_for now ip x a ≡ true)
    → agrees_now v now ip x ≡ true → passes (stands_for now ip x) seen ≡ true
agreement_stands v now ip x None made stands so = let no : false ≡ true = made ∙ so in cc
agreement_stands v now ip x (Some a) made stands so = stands

-- ---- rows, one after another

module _ {X : Type 0} (test : X → Bool) (xs : List X) (i : ℕ) (x : X) where
  pub none_more : slice_get xs i ≡ Some x → list_any test (take i xs) ≡ false → test x ≡ false → list_any test (take (i + 1) xs) ≡ false
  none_more is none fails =
      list_any_more test xs i x (slice_get_within xs i x is) ∙ ap (λ (b : Bool). b || test (get_or xs i x)) none ∙ ap test (get_or_from_slice_get xs i x x is) ∙ fails

  pub one_found : slice_get xs i ≡ Some x → test x ≡ true → list_any test xs ≡ true
  one_found is passes = list_any_at test xs i x (slice_get_within xs i x is) (ap test (get_or_from_slice_get xs i x x is) ∙ passes)

take_more : {A : Type 0} (xs : List A) (i : ℕ) (x : A) → slice_get xs i ≡ Some x → take (i + 1) xs ≡ take i xs ++ x ∷ []
take_more {A} xs i x is = ap (λ n. take n xs) (next i) ∙ go xs i is
  where
    next : (n : ℕ) → n + 1 ≡ suc n
    next n = omega arith

    go : (ys : List A) (k : ℕ) → slice_get ys k ≡ Some x → take (suc k) ys ≡ take k ys ++ x ∷ []
    go [] k e = cc
    go (y ∷ ys) zero e = let same : y ≡ x = cc in ap (λ z. z ∷ []) same
    go (y ∷ ys) (suc k) e = ap (λ zs. y ∷ zs) (go ys k e)

rows_append : (writes : List Write) (write : Write) (slots : Slots) → without_rows (writes ++ write ∷ []) slots ≡ without_row (key_written write) (without_rows writes slots)
rows_append [] write slots = refl
rows_append (w ∷ writes) write slots = rows_append writes write (without_row (key_written w) slots)

pub rows_more : (writes : List Write) (i : ℕ) (write : Write) (slots : Slots) → slice_get writes i ≡ Some write → without_rows (take (i + 1) writes) slots ≡ without_row (key_written write) (without_rows (take i writes) slots)
rows_more writes i write slots is = ap (λ ws. without_rows ws slots) (take_more writes i write is) ∙ rows_append (take i writes) write slots
