-- Rows of one kind, each with a number: what writes that put them one by one, in the order of their keys, make of values by number.
use Rattle.std.proofs.Common.{◌≡◌, ◌⊎◌, ℕ, ◌==◌, true, false, cond, T, List, [], ◌∷◌, Option, Some, None, inl, inr, refl, sym, ap, subst, ◌∙◌}
use Rattle.std.specs.List.{filter_map, cons_option}
use Rattle.std.specs.FinMap.{nat_cmp-IsAntisymmetric}
use Rattle.std.specs.FinMap as map
use Rattle.std.specs.FinMap.Entries as list
use Rattle.std.specs.Ordering.{nat_cmp, eq_by_cmp}
use Rattle.off_defs.proofs.EntryLemmas.{is_equal, none_below, first, second}
use Rattle.off_defs.specs.declared.keys.Key.{Key}
use Rattle.off_defs.specs.declared.tables.Row.{Row}
use Rattle.off_defs.specs.declared.writes.Write.{Write}
use Rattle.off_defs.specs.Keys.{key_cmp}
use Rattle.off_defs.specs.State.{Tables}
use Rattle.off_defs.specs.Tables.{row_at}
use Rattle.off_runs.proofs.WriteLemmas.{same_number}

-- what there is at a number, where its row is this one
abbrev pub kept : {V : Type 0} → (Row → V) → Option Row → V → V
kept value None was = was
kept value (Some held) was = value held

-- a row's value is put at a number
abbrev pub with_value : {V : Type 0} → (Row → V) → (ℕ → V) → ℕ → Row → ℕ → V
with_value value was m held n = cond (eq_by_cmp nat_cmp n m) (value held) (was n)

-- numbers that are put where two numbers are equal
pub by_number : (held m : ℕ) (was : ℕ → ℕ) → ◌≡◌ {A = ℕ → ℕ} (λ n. cond (n == m) held (was n)) (λ n. cond (eq_by_cmp nat_cmp n m) held (was n))
by_number held m was = λ i n. cond (sym (same_number n m) i) held (was n)

module _ {V : Type 0} (key_of : ℕ → Key) (value : Row → V) (put : Key × Row → Option Write) (after : (ℕ → V) → List Write → ℕ → V) where
  -- the entry is of the kind, and its write puts the value of its row at its number
  pub record IsOne (k : Key) (held : Row) : Type 0 where
    pub number : ℕ
    pub is : key_of number ≡ k
    pub puts : (was : ℕ → V) (ws : List Write) → after was (cons_option (put (k, held)) ws) ≡ after (with_value value was number held) ws
    pub tests : (n : ℕ) → eq_by_cmp key_cmp (key_of n) k ≡ eq_by_cmp nat_cmp n number

  -- or it's of another, and has no write
  pub record IsNone (k : Key) (held : Row) : Type 0 where
    pub puts : put (k, held) ≡ None
    pub tests : (n : ℕ) → eq_by_cmp key_cmp (key_of n) k ≡ false

  -- what stands behind a key has no row of its number
  at_row : (was : ℕ → V) (m : ℕ) (held : Row) (es : List (Key × Row)) → T (list.below_all key_cmp (key_of m) es) → (n : ℕ)
      → kept value (list.find key_cmp (key_of n) es) (with_value value was m held n) ≡ kept value (cond (eq_by_cmp nat_cmp n m) (Some held) (list.find key_cmp (key_of n) es)) (was n)
  at_row was m held es below n =
      elim (eq_by_cmp nat_cmp n m) as (λ b. eq_by_cmp nat_cmp n m ≡ b
      → kept value (list.find key_cmp (key_of n) es) (cond b (value held) (was n)) ≡ kept value (cond b (Some held) (list.find key_cmp (key_of n) es)) (was n)) [
        | true ↦ λ e.
            let same : n ≡ m = nat_cmp-IsAntisymmetric n m (is_equal (nat_cmp n m) e) in
            ap (λ o. kept value o (value held)) (none_below key_cmp (key_of n) es (subst (λ k. T (list.below_all key_cmp (key_of k) es)) (sym same) below))
        | false ↦ λ e. refl
      ] refl

  module _ (begins : (was : ℕ → V) → after was [] ≡ was) (kinds : (k : Key) (held : Row) → IsOne k held ⊎ IsNone k held) where
    by_rows : (was : ℕ → V) (es : List (Key × Row)) → T (list.is_sorted key_cmp es) → (n : ℕ) → after was (filter_map put es) n ≡ kept value (list.find key_cmp (key_of n) es) (was n)
    by_rows was [] s n = ap (λ (by : ℕ → V). by n) (begins was)
    by_rows was (e ∷ es) s n =
        elim (kinds e.0 e.1) as (λ _. after was (cons_option (put e) (filter_map put es)) n ≡ kept value (cond (eq_by_cmp key_cmp (key_of n) e.0) (Some e.1) (list.find key_cmp (key_of n) es)) (was n)) [
          | inl one ↦
              let below : T (list.below_all key_cmp (key_of one.number) es) = subst (λ (k : Key). T (list.below_all key_cmp k es)) (sym one.is) (first _ _ s) in
              ap (λ (by : ℕ → V). by n) (one.puts was (filter_map put es))
              ∙ by_rows (with_value value was one.number e.1) es (second _ _ s) n
              ∙ at_row was one.number e.1 es below n
              ∙ ap (λ b. kept value (cond b (Some e.1) (list.find key_cmp (key_of n) es)) (was n)) (sym (one.tests n))
          | inr none ↦
              ap (λ (o : Option Write). after was (cons_option o (filter_map put es)) n) none.puts
              ∙ by_rows was es (second _ _ s) n
              ∙ ap (λ b. kept value (cond b (Some e.1) (list.find key_cmp (key_of n) es)) (was n)) (sym (none.tests n))
        ]

    -- of the rows of tables: what they make is what is read of them
    pub rows_read : (t : Tables) (was : V) (n : ℕ) → after (λ _. was) (filter_map put (map.entries t)) n ≡ kept value (row_at t (key_of n)) was
    rows_read t was n =
        by_rows (λ _. was) (map.entries t) (map.entries_sorted t) n ∙ ap (λ (o : Option Row). kept value o was) (sym (map.get-entries t (key_of n)))
