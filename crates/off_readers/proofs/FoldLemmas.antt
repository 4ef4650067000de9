-- Walks over entries whose results are folded from the back: what an entry adds, where a walk may begin and where it may end.
use Rattle.std.proofs.Common.{◌≡◌, true, false, cond, Option, Some, None, List, [], ◌∷◌, refl, sym, ap, ◌∙◌}
use Rattle.std.specs.FinMap as map
use Rattle.off_defs.specs.declared.keys.Key.{Key}
use Rattle.off_defs.specs.declared.tables.Row.{Row}
use Rattle.off_defs.specs.State.{Tables}
use Rattle.off_defs.specs.Tables.{is_after, behind, next_entry}
use Rattle.off_defs.proofs.TableLemmas.{next_of, next_none}

module _ {A : Type 0} (made : List (Key × Row) → A) (add : Key × Row → A → A) (makes : (e : Key × Row) (es : List (Key × Row)) → made (e ∷ es) ≡ add e (made es)) where
  pub fold_next : (place : Option Key) (entry : Key × Row) (t : Tables) → Some entry ≡ next_entry place t
      → made (behind place (map.entries t)) ≡ add entry (made (behind (Some entry.0) (map.entries t)))
  fold_next place entry t next = ap made (next_of place entry t (sym next)) ∙ makes entry (behind (Some entry.0) (map.entries t))

  pub fold_none : (place : Option Key) (t : Tables) → None ≡ next_entry place t → made (behind place (map.entries t)) ≡ made []
  fold_none place t next = ap made (next_none place t (sym next))

  -- entries up to the place add nothing
  begin_at : (place : Option Key) (es : List (Key × Row)) → ((e : Key × Row) (a : A) → is_after place e ≡ false → add e a ≡ a) → made (behind place es) ≡ made es
  begin_at place [] nothing = refl
  begin_at place (e ∷ es) nothing =
      elim (is_after place e) as (λ b. is_after place e ≡ b → made (cond b (e ∷ behind place es) (behind place es)) ≡ made (e ∷ es)) [
        | true ↦ λ is. makes e (behind place es) ∙ ap (add e) (begin_at place es nothing) ∙ sym (makes e es)
        | false ↦ λ is. begin_at place es nothing ∙ sym (nothing e (made es) is) ∙ sym (makes e es)
      ] refl

  -- entries behind the place add nothing
  end_at : (place : Option Key) (es : List (Key × Row)) → ((e : Key × Row) (a : A) → is_after place e ≡ true → add e a ≡ a) → made (behind place es) ≡ made []
  end_at place [] nothing = refl
  end_at place (e ∷ es) nothing =
      elim (is_after place e) as (λ b. is_after place e ≡ b → made (cond b (e ∷ behind place es) (behind place es)) ≡ made []) [
        | true ↦ λ is. makes e (behind place es) ∙ nothing e (made (behind place es)) is ∙ end_at place es nothing
        | false ↦ λ is. end_at place es nothing
      ] refl

  pub fold_begin : (place : Key) (t : Tables) → ((e : Key × Row) (a : A) → is_after (Some place) e ≡ false → add e a ≡ a)
      → made (map.entries t) ≡ made (behind (Some place) (map.entries t))
  fold_begin place t nothing = sym (begin_at (Some place) (map.entries t) nothing)

  -- at an entry that adds nothing and behind which none does the walk may end
  pub fold_past : (place : Option Key) (entry : Key × Row) (t : Tables) → Some entry ≡ next_entry place t → ((a : A) → add entry a ≡ a)
      → ((e : Key × Row) (a : A) → is_after (Some entry.0) e ≡ true → add e a ≡ a) → made (behind place (map.entries t)) ≡ made []
  fold_past place entry t next here later =
      fold_next place entry t next ∙ here (made (behind (Some entry.0) (map.entries t))) ∙ end_at (Some entry.0) (map.entries t) later
