-- The entries of the tables are their rows.
use Rattle.std.proofs.Common.{◌≡◌, true, false, cond, Some, List, [], ◌∷◌, inl, inr, refl, sym, ap, subst, ◌∙◌}
use lib.Dec.{T}
use Rattle.std.specs.Ordering.{is_lt, is_eq, eq_by_cmp, ordering_reverse}
use Rattle.std.specs.Cmp.{IsTotalOrder, tied_itself}
use Rattle.std.specs.declared.cmp.Ordering.{Ordering}
use Rattle.std.specs.declared.cmp.Ordering.TheVariants.{Less}
use Rattle.std.specs.FinMap as map
use Rattle.std.specs.FinMap.Entries as list
use Rattle.off_defs.specs.declared.keys.Key.{Key}
use Rattle.off_defs.specs.declared.tables.Row.{Row}
use Rattle.off_defs.specs.State.{Tables}
use Rattle.off_defs.specs.Tables.{row_at}
use Rattle.off_defs.specs.Keys.{key_cmp}
use Rattle.off_defs.proofs.KeyLemmas.{key_total, key_exact}
use Rattle.off_defs.proofs.EntryLemmas.{is_equal, is_less, holds, first, second}
use Rattle.off_table_laws.proofs.ListLemmas.{In, Distinct}

module _ {K X : Type 0} (R : K → K → Ordering) where
  pub found_in : map.IsAntisymmetric R → (es : List (K × X)) (q : K) (x : X) → list.find R q es ≡ Some x → In (q, x) es
  found_in exact [] q x f = cc
  found_in exact (e ∷ es) q x f =
      elim (eq_by_cmp R q e.0) as (λ b. eq_by_cmp R q e.0 ≡ b → cond b (Some e.1) (list.find R q es) ≡ Some x → In (q, x) (e ∷ es)) [
        | true ↦ λ t f. inl (let k : q ≡ e.0 = exact q e.0 (is_equal (R q e.0) t) in let v : e.1 ≡ x = cc in λ i. (k i, sym v i))
        | false ↦ λ t f. inr (found_in exact es q x f)
      ] refl f

  module _ (o : IsTotalOrder R) where
    pub below_in : (k : K) (es : List (K × X)) → T (list.below_all R k es) → (e : K × X) → In e es → R k e.0 ≡ Less
    below_in k [] h e i = absurd i
    below_in k (y ∷ ys) h e (inl same) = is_less (R k e.0) (holds _ (subst (λ (v : K × X). T (is_lt (R k v.0))) (sym same) (first _ _ h)))
    below_in k (y ∷ ys) h e (inr rest) = below_in k ys (second _ _ h) e rest

    pub in_found : (es : List (K × X)) → T (list.is_sorted R es) → (q : K) (x : X) → In (q, x) es → list.find R q es ≡ Some x
    in_found [] s q x i = absurd i
    in_found (e ∷ es) s q x (inl same) =
        let k : q ≡ e.0 = ap (λ (v : K × X). v.0) same in
        let v : x ≡ e.1 = ap (λ (v : K × X). v.1) same in
        let t : eq_by_cmp R q e.0 ≡ true = ap (λ z. eq_by_cmp R q z) (sym k) ∙ ap is_eq (tied_itself o q) in
        ap (λ b. cond b (Some e.1) (list.find R q es)) t ∙ ap Some (sym v)
    in_found (e ∷ es) s q x (inr rest) =
        let below : R e.0 q ≡ Less = below_in e.0 es (first _ _ s) (q, x) rest in
        let t : eq_by_cmp R q e.0 ≡ false = apart e.0 q below in
        ap (λ b. cond b (Some e.1) (list.find R q es)) t ∙ in_found es (second _ _ s) q x rest
      where
        apart : (a b : K) → R a b ≡ Less → eq_by_cmp R b a ≡ false
        apart a b l = ap is_eq (o.antisymm b a ∙ ap ordering_reverse l)

    distinct_sorted : (es : List (K × X)) → T (list.is_sorted R es) → Distinct es
    distinct_sorted [] s = tt
    distinct_sorted (e ∷ es) s = (λ i. let l = below_in e.0 es (first _ _ s) e i in let t = tied_itself o e.0 in cc, distinct_sorted es (second _ _ s))

pub row_in : (t : Tables) (q : Key) (held : Row) → row_at t q ≡ Some held → In (q, held) (map.entries t)
row_in t q held e = found_in key_cmp key_exact (map.entries t) q held (sym (map.get-entries t q) ∙ e)

pub in_row : (t : Tables) (q : Key) (held : Row) → In (q, held) (map.entries t) → row_at t q ≡ Some held
in_row t q held i = map.get-entries t q ∙ in_found key_cmp key_total (map.entries t) (map.entries_sorted t) q held i

pub distinct_entries : (t : Tables) → Distinct (map.entries t)
distinct_entries t = distinct_sorted key_cmp key_total (map.entries t) (map.entries_sorted t)
