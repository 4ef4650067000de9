-- Fields read one behind another, up to a bad one or to the end.
use Rattle.std.proofs.Common.{◌≡◌, ◌≢◌, ℕ, ◌+◌, eqb, Bool, true, false, cond, List, [], ◌∷◌, ◌++◌, length, refl, sym, ap, subst, ◌∙◌, arith, append-nil, append_assoc, slice_index, ◌≤◌, Contains}
use Rattle.std.specs.Int.{to_be_bytes, w16}
use Rattle.std.proofs.lemmas.Bool.{ne_eqb}
use Rattle.off_base.specs.Tree.{Tree}
use Rattle.off_defs.specs.declared.tables.Class.{Class}
use Rattle.off_defs.specs.declared.tables.Row.TheVariants as row
use Rattle.off_rows.specs.RowBytes.{counted, row_bytes, settings_bytes, IsShortSpelling, IsText, RowRanged, SettingsStand}
use Rattle.off_rows.specs.Left.{Left}
use Rattle.off_rows.specs.BadRow.{Field, bytes_of, one_of, text, settings, marked_fields, unread, behind, left_over}
use Rattle.off_rows.specs.Reading.{TakesField, FieldFails, IsLeft, BadIn, Passes, IsSettings, TakesSpelled, from_start}
use Rattle.off_rows.specs.declared.faults.RowErr.{RowErr}

pub bad_here : {field : Field} {fields : List Field} {old : Left} {err : RowErr} → FieldFails field old err → BadIn (field ∷ fields) old err
bad_here {old = old} f = record { place = old.place; is = f.place; bad = unread f.none refl }

pub bad_behind : {field : Field} {fields : List Field} {first : List ℕ} {old new : Left} {err : RowErr} → TakesField field first old new → BadIn fields new err → BadIn (field ∷ fields) old err
bad_behind {first = first} {new = new} t b = record { place = b.place; is = b.is; bad = behind first new.rest new.place t.is t.front t.onward b.bad }

pub bad_left : {old : Left} {err : RowErr} → IsLeft old err → BadIn [] old err
bad_left {old = old} l = record { place = old.place; is = l.place; bad = left_over l.some refl }

-- how an address is held: the mark decides whether owners stand behind it
module _ (owners : List Field) where
  declined_fields : (bytes rest : List ℕ) (mark : ℕ) → bytes ≡ mark ∷ rest → mark ≡ 3 → marked_fields owners bytes ≡ one_of (1 ∷ 2 ∷ 3 ∷ []) ∷ []
  declined_fields bytes rest mark e m =
      ap (marked_fields owners) e ∙ ap (λ (x : ℕ). marked_fields owners (x ∷ rest)) m

  owned_fields : (bytes rest : List ℕ) (mark : ℕ) → bytes ≡ mark ∷ rest → mark ≢ 3 → marked_fields owners bytes ≡ one_of (1 ∷ 2 ∷ 3 ∷ []) ∷ owners
  owned_fields bytes rest mark e m =
      let no = ne_eqb mark 3 m in
      ap (marked_fields owners) e ∙ ap (λ (b : Bool). cond b (one_of (1 ∷ 2 ∷ 3 ∷ []) ∷ []) (one_of (1 ∷ 2 ∷ 3 ∷ []) ∷ owners)) no

  -- whichever fields stand there, the mark is the first
  by_test : (b : Bool) (more : List Field) {old : Left} {err : RowErr} → FieldFails (one_of (1 ∷ 2 ∷ 3 ∷ [])) old err → BadIn (cond b (one_of (1 ∷ 2 ∷ 3 ∷ []) ∷ []) (one_of (1 ∷ 2 ∷ 3 ∷ []) ∷ owners) ++ more) old err
  by_test true more f = bad_here f
  by_test false more f = bad_here f

  pub mark_bad : {old : Left} {err : RowErr} → FieldFails (one_of (1 ∷ 2 ∷ 3 ∷ [])) old err → (more : List Field) → BadIn (marked_fields owners old.rest ++ more) old err
  mark_bad {old = old} f more = by_test (eqb (slice_index old.rest 0) 3) more f

  pub owners_bad : {old mid : Left} {err : RowErr} (mark : ℕ) → mark ≢ 3 → TakesField (one_of (1 ∷ 2 ∷ 3 ∷ [])) (mark ∷ []) old mid → ((more : List Field) → BadIn (owners ++ more) mid err) → (more : List Field) → BadIn (marked_fields owners old.rest ++ more) old err
  owners_bad {old = old} {mid = mid} {err = err} mark m t f more =
      let e = owned_fields old.rest mid.rest mark t.front m in
      subst (λ (x : List Field). BadIn (x ++ more) old err) (sym e) (bad_behind t (f more))

  pub declined_passes : {old new : Left} (mark : ℕ) → mark ≡ 3 → TakesField (one_of (1 ∷ 2 ∷ 3 ∷ [])) (mark ∷ []) old new → Passes (marked_fields owners old.rest) (3 ∷ []) old new
  declined_passes {old = old} {new = new} mark m t = record {
    front = t.front ∙ ap (λ (x : ℕ). x ∷ new.rest) m;
    later = λ more err b.
        let e = declined_fields old.rest new.rest mark t.front m in
        subst (λ (x : List Field). BadIn (x ++ more) old err) (sym e) (bad_behind t b);
  }

  pub owners_pass : {old mid new : Left} (mark other : ℕ) (bytes : List ℕ) → mark ≡ other → mark ≢ 3 → TakesField (one_of (1 ∷ 2 ∷ 3 ∷ [])) (mark ∷ []) old mid → Passes owners bytes mid new → Passes (marked_fields owners old.rest) (other ∷ bytes) old new
  owners_pass {old = old} {mid = mid} {new = new} mark other bytes same m t o = record {
    front = t.front ∙ (ap (λ (x : List ℕ). mark ∷ x) o.front ∙ ap (λ (x : ℕ). x ∷ (bytes ++ new.rest)) same);
    later = λ more err b.
        let e = owned_fields old.rest mid.rest mark t.front m in
        subst (λ (x : List Field). BadIn (x ++ more) old err) (sym e) (bad_behind t (o.later more err b));
  }

-- one field that was read, and two
pub one_passes : {field : Field} {first : List ℕ} {old new : Left} → TakesField field first old new → Passes (field ∷ []) first old new
one_passes t = record { front = t.front; later = λ more err b. bad_behind t b }

pub two_pass : {field other : Field} {first second : List ℕ} {old mid new : Left} → TakesField field first old mid → TakesField other second mid new → Passes (field ∷ other ∷ []) (first ++ second) old new
two_pass {first = first} {second = second} {new = new} t u = record {
  front = t.front ∙ (ap (λ (x : List ℕ). first ++ x) u.front ∙ sym (append_assoc first second new.rest));
  later = λ more err b. bad_behind t (bad_behind u b);
}

-- a mark that is neither 3 nor 1 is 2
pub mark_is_two : (mark : ℕ) → Contains (1 ∷ 2 ∷ 3 ∷ []) mark → mark ≢ 3 → mark ≢ 1 → mark ≡ 2
mark_is_two mark among three one = grind arith

-- a lease from its first byte on
pub lease_bad : (owners : List Field) {bytes : List ℕ} {old : Left} {err : RowErr} → old ≡ from_start bytes → BadIn (marked_fields owners old.rest ++ bytes_of 8 ∷ []) old err → BadIn (marked_fields owners bytes ++ bytes_of 8 ∷ []) (from_start bytes) err
lease_bad owners {err = err} e b = subst (λ (o : Left). BadIn (marked_fields owners o.rest ++ bytes_of 8 ∷ []) o err) e b

-- ---- settings

pub settings_taken : {held : List ℕ} {old new : Left} (s : IsSettings held) → length held ≤ 65535 → TakesSpelled held old new → IsShortSpelling s.trees × TakesField settings (settings_bytes s.trees) old new
settings_taken {held = held} {old = old} {new = new} s long t =
    let short : IsShortSpelling s.trees = subst (λ (x : List ℕ). length x ≤ 65535) s.whole long in (
      short,
      record {
        is = (s.trees, s.stand, short, refl);
        front = subst (λ (x : List ℕ). old.rest ≡ (to_be_bytes w16 (length x) ++ x) ++ new.rest) s.whole t.front;
        onward = let on = subst (λ (x : List ℕ). new.place ≡ old.place + (2 + length x)) s.whole t.onward in omega arith;
      },
    )

-- an add-on and a class that memory was wanted for
pub add_on_there : {bytes held : List ℕ} {old new : Left} → old ≡ from_start bytes → IsSettings held → length held ≤ 65535 → TakesSpelled held old new → new.rest ≡ [] → (trees : List Tree) × SettingsStand (row.AddOn trees) × (row_bytes (row.AddOn trees) ≡ bytes)
add_on_there {old = old} {new = new} e s long t end =
    let both = settings_taken s long t in
    let all = both.1.front ∙ (ap (λ (x : List ℕ). settings_bytes s.trees ++ x) end ∙ append-nil (settings_bytes s.trees)) in
    (s.trees, (s.stand, both.0), sym all ∙ ap (λ (o : Left). o.rest) e)

pub class_there : {bytes held : List ℕ} {old mid new : Left} (name : List ℕ) → old ≡ from_start bytes → IsText name → TakesField text (counted name) old mid → IsSettings held → length held ≤ 65535 → TakesSpelled held mid new → new.rest ≡ [] → (class : Class) × RowRanged (row.Class class) × SettingsStand (row.Class class) × (row_bytes (row.Class class) ≡ bytes)
class_there {old = old} {new = new} name e is n s long t end =
    let both = settings_taken s long t in
    let rest = both.1.front ∙ (ap (λ (x : List ℕ). settings_bytes s.trees ++ x) end ∙ append-nil (settings_bytes s.trees)) in
    let all = n.front ∙ ap (λ (x : List ℕ). counted name ++ x) rest in
    (record { name = name; settings = s.trees }, is, (s.stand, both.0), sym all ∙ ap (λ (o : Left). o.rest) e)
