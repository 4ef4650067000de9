-- What a query of the table answers.
use Rattle.std.proofs.Common.{◌≡◌, ℕ, ℤ, suc, ◌<◌, Bool, true, false, cond, ◌&&◌, List, [], ◌∷◌, ◌++◌, length, map, get_or, flat_map, Some, refl, sym, ap, subst, ◌∙◌, inl, inr, arith}
use Rattle.std.specs.List.{list_all}
use Rattle.std.specs.List.Sorted.{IsPermutation, IsSortedBy}
use Rattle.std.specs.Ordering.{nat_cmp, is_eq, is_lt, is_gt, eq_by_cmp}
use Rattle.std.specs.Cmp.Lexicographic.{slice_cmp}
use Rattle.std.proofs.lemmas.List.Sorted.{IsPermutation-sym, sorted_far, ranks_by}
use Rattle.sqlite_value.specs.declared.value.Value.TheVariants.{Int, Blob as Bytes}
use Rattle.sqlite_value.specs.declared.keys.Key.{Key}
use Rattle.sqlite_value.specs.Order.{Row, column, value_cmp}
use Rattle.sqlite_value.proofs.OrderLemmas.{value_cmp_total, value_cmp-Blob, then-Equal}
use Rattle.sqlite_trees.specs.Tree.{Trees}
use Rattle.sqlite_trees.proofs.ListLemmas.{all-permutation}
use Rattle.sqlite_sql.specs.Ops.{binary, is_true, from_truth}
use Rattle.sqlite_sql.specs.Term.{Term, holds}
use Rattle.sqlite_sql.specs.Query.{Query, inner, end, IsAnswer, Output, output, output_cmp, matches}
use Rattle.sqlite_sql.specs.Program.{overlay}
use Rattle.sqlite_rules.specs.Lists.{Has}
use Rattle.sqlite_rules.proofs.ListLemmas.{all_has, all_from, has_right}
use Rattle.sqlite_rules.proofs.ProbeLemmas.{has_mapped, mapped_has}
use Rattle.off_sqlcells.specs.Office.{cell_row}
use Rattle.off_sqlcells.proofs.Texts.{table_query, has_ident, is_above, has_rowid_given, walk_query}

has_matched : {X Y : Type 0} (p : X → Bool) (f : X → Y) (xs : List X) (y : Y) → Has (flat_map (λ x. cond (p x) (f x ∷ []) []) xs) y → (x : X) × Has xs x × (p x ≡ true) × (y ≡ f x)
has_matched p f [] y h = absurd h
has_matched {X} {Y} p f (x ∷ xs) y h = go (p x) refl h (has_matched p f xs y)
  where
    go : (b : Bool) → p x ≡ b → Has (cond b (f x ∷ []) [] ++ flat_map (λ z. cond (p z) (f z ∷ []) []) xs) y
        → (Has (flat_map (λ z. cond (p z) (f z ∷ []) []) xs) y → (z : X) × Has xs z × (p z ≡ true) × (y ≡ f z)) → (z : X) × Has (x ∷ xs) z × (p z ≡ true) × (y ≡ f z)
    go true is (inl same) later = (x, inl refl, is, same)
    go true is (inr there) later = let r = later there in (r.0, inr r.1, r.2, r.3)
    go false is there later = let r = later there in (r.0, inr r.1, r.2, r.3)

matched_has : {X Y : Type 0} (p : X → Bool) (f : X → Y) (xs : List X) (x : X) → Has xs x → p x ≡ true → Has (flat_map (λ z. cond (p z) (f z ∷ []) []) xs) (f x)
matched_has p f [] x h passes = absurd h
matched_has p f (z ∷ xs) x (inl same) passes = rw (← same, passes) (inl refl)
matched_has p f (z ∷ xs) x (inr later) passes = has_right (cond (p z) (f z ∷ []) []) (flat_map (λ w. cond (p w) (f w ∷ []) []) xs) (f x) (matched_has p f xs x later passes)

has_permuted : {X : Type 0} (xs ys : List X) (x : X) → IsPermutation xs ys → Has ys x → Has xs x
has_permuted xs ys x same = all_has (Has xs) ys x (all-permutation (Has xs) xs ys same (all_from (Has xs) xs (λ e h. h)))

module _ (filter project : List Term) (order : List (Term × Key)) (limit : Term) (db : Trees) (params : Row) (rows : List Row)
    (a : IsAnswer (table_query filter project order limit) (overlay db []) params rows) where
  abbrev query : Query
  query = table_query filter project order limit

  abbrev passes : Row → Bool
  passes r = list_all (holds (params ∷ r ∷ [])) filter

  abbrev shows : Row → Output
  shows r = output query (params ∷ r ∷ [])

  kept_is : a.kept ≡ map (output query) (matches (overlay db []) filter (inner 0 end) (params ∷ []))
  kept_is = a.distinct ∙ ap (map (output query)) a.grouped

  pub ordered_sound : (o : Output) → Has a.ordered o → (r : Row) × Has (db 0) r × (passes r ≡ true) × (o ≡ shows r)
  ordered_sound o h =
      let e = has_mapped (output query) (matches (overlay db []) filter (inner 0 end) (params ∷ [])) o (subst (λ (l : List Output). Has l o) kept_is (has_permuted a.kept a.ordered o a.same h)) in
      let r = has_matched passes (λ (x : Row). params ∷ x ∷ []) (db 0) e.0 e.1 in
      (r.0, r.1, r.2, e.2 ∙ ap (output query) r.3)

  pub ordered_complete : (r : Row) → Has (db 0) r → passes r ≡ true → Has a.ordered (shows r)
  ordered_complete r h is =
      let there = subst (λ (l : List Output). Has l (shows r)) (sym kept_is)
      (mapped_has (output query) (matches (overlay db []) filter (inner 0 end) (params ∷ [])) (params ∷ r ∷ []) (matched_has passes (λ (x : Row). params ∷ x ∷ []) (db 0) r h is)) in
      has_permuted a.ordered a.kept (shows r) (IsPermutation-sym _ _ a.same) there

-- a query with no limit shows all that pass
module _ (filter project : List Term) (db : Trees) (params : Row) (rows : List Row)
    (a : IsAnswer (table_query filter project [] Rattle.off_sqlcells.proofs.Texts.unlimited) (overlay db []) params rows) where
  abbrev whole : Term
  whole = Rattle.off_sqlcells.proofs.Texts.unlimited

  pub shown_sound : (x : Row) → Has rows x → (r : Row) × Has (db 0) r × (list_all (holds (params ∷ r ∷ [])) filter ≡ true)
      × (x ≡ (output (table_query filter project [] whole) (params ∷ r ∷ [])).1)
  shown_sound x h =
      let o = has_mapped (λ (k : Output). k.1) a.ordered x (subst (λ (l : List Row). Has l x) a.shown h) in
      let r = ordered_sound filter project [] whole db params rows a o.0 o.1 in
      (r.0, r.1, r.2, o.2 ∙ ap (λ (k : Output). k.1) r.3)

  pub shown_complete : (r : Row) → Has (db 0) r → list_all (holds (params ∷ r ∷ [])) filter ≡ true → Has rows (output (table_query filter project [] whole) (params ∷ r ∷ [])).1
  shown_complete r h is =
      subst (λ (l : List Row). Has l (output (table_query filter project [] whole) (params ∷ r ∷ [])).1) (sym a.shown)
      (mapped_has (λ (k : Output). k.1) a.ordered (output (table_query filter project [] whole) (params ∷ r ∷ [])) (ordered_complete filter project [] whole db params rows a r h is))

-- ---- the tests of the queries

pub truth_test : (b : Bool) → (is_true (from_truth (Some b)) && true) ≡ b
truth_test true = refl
truth_test false = refl

pub ident_test : (k i v : List ℕ) (id : ℤ) (more : Row) → list_all (holds ((Bytes k ∷ more) ∷ cell_row id i v ∷ [])) (has_ident ∷ []) ≡ eq_by_cmp (slice_cmp nat_cmp) i k
unfolding binary
ident_test k i v id more = truth_test (is_eq (value_cmp (Bytes i) (Bytes k))) ∙ ap is_eq (value_cmp-Blob i k)

pub above_test : (k i v : List ℕ) (id : ℤ) → list_all (holds ((Bytes k ∷ []) ∷ cell_row id i v ∷ [])) (is_above ∷ []) ≡ is_gt (slice_cmp nat_cmp i k)
unfolding binary
above_test k i v id = truth_test (is_gt (value_cmp (Bytes i) (Bytes k))) ∙ ap is_gt (value_cmp-Blob i k)

pub rowid_test : (k w : List ℕ) (id given : ℤ) (i v : List ℕ) (more : Row)
    → list_all (holds ((Bytes k ∷ Bytes w ∷ Int given ∷ more) ∷ cell_row id i v ∷ [])) (has_rowid_given ∷ []) ≡ is_eq (value_cmp (Int id) (Int given))
unfolding binary
rowid_test k w id given i v more = truth_test (is_eq (value_cmp (Int id) (Int given)))

-- ---- the first of those in order is the least

has_place : {X : Type 0} (xs : List X) (x d : X) → Has xs x → (j : ℕ) × (j < length xs) × (get_or xs j d ≡ x)
has_place [] x d h = absurd h
has_place (y ∷ xs) x d (inl same) = (0, omega arith, sym same)
has_place (y ∷ xs) x d (inr later) = let p = has_place xs x d later in (suc p.0, omega (arith, p.1), p.2)

abbrev by_first : Output → Output → Bool
by_first x y = is_lt (value_cmp (column x.0 0) (column y.0 0))

bare_sorted : (filter : List Term) (xs : List Output) → IsSortedBy (λ x y. is_lt (output_cmp (walk_query filter) x y)) xs → IsSortedBy by_first xs
bare_sorted filter xs up k d low high = ap is_lt (sym (then-Equal _)) ∙ up k d low high

pub first_least : (filter : List Term) (o : Output) (os : List Output) → IsSortedBy (λ x y. is_lt (output_cmp (walk_query filter) x y)) (o ∷ os) → (x : Output) → Has (o ∷ os) x
    → is_lt (value_cmp (column x.0 0) (column o.0 0)) ≡ false
first_least filter o os up x h =
    let p = has_place (o ∷ os) x o h in
    let far = sorted_far by_first (ranks_by value_cmp_total (λ (z : Output). column z.0 0)) (o ∷ os) (bare_sorted filter (o ∷ os) up) 0 p.0 o (omega arith) p.1 in
    subst (λ (z : Output). is_lt (value_cmp (column z.0 0) (column o.0 0)) ≡ false) p.2 far
