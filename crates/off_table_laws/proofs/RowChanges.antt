-- What one write leaves of rows, and of good rows.
use Rattle.std.proofs.Common.{◌≡◌, true, false, cond, Some, None, is_some, List, [], ◌∷◌, map, inl, inr, refl, sym, ap, ◌∙◌}
use Rattle.std.specs.Ordering.{eq_by_cmp}
use Rattle.off_defs.specs.declared.keys.Key.{Key}
use Rattle.off_defs.specs.declared.tables.Row.{Row}
use Rattle.off_defs.specs.declared.writes.Write.TheVariants.{Drop}
use Rattle.off_defs.specs.Keys.{key_cmp}
use Rattle.off_defs.proofs.TableLemmas.{same_key, own_key}
use Rattle.off_account_rules.specs.Rows.{is_possible}
use Rattle.off_table_laws.proofs.ListLemmas.{In}
use Rattle.off_table_laws.proofs.Rows.{Rows, put_row, drop_row, rows_after}
use Rattle.off_table_laws.proofs.GoodRows.{Has, Possible}

-- a row after a put is the new one of the key, or the one before
pub put_case : (rows : Rows) (k : Key) (new : Row) (q : Key) (held : Row) (P : Type 0) → put_row rows k new q ≡ Some held
    → (q ≡ k → new ≡ held → P) → (rows q ≡ Some held → P) → P
put_case rows k new q held P e at_key other =
    elim (eq_by_cmp key_cmp q k) as (λ b. eq_by_cmp key_cmp q k ≡ b → cond b (Some new) (rows q) ≡ Some held → P) [
      | true ↦ λ t f. at_key (same_key q k t) cc
      | false ↦ λ t f. other f
    ] refl e

pub put_here : (rows : Rows) (k : Key) (new : Row) → put_row rows k new k ≡ Some new
put_here rows k new = ap (λ b. cond b (Some new) (rows k)) (own_key k)

pub has_put : (rows : Rows) (k : Key) (new : Row) (q : Key) → Has rows q → Has (put_row rows k new) q
has_put rows k new q h = elim (eq_by_cmp key_cmp q k) as (λ b. is_some (cond b (Some new) (rows q)) ≡ true) [ true ↦ refl | false ↦ h ]

pub possible_put : (rows : Rows) (k : Key) (new : Row) → Possible rows → is_possible k new ≡ true → Possible (put_row rows k new)
possible_put rows k new old fits q held e =
    put_case rows k new q held (is_possible q held ≡ true) e (λ is same. ap (λ x. is_possible x held) is ∙ ap (is_possible k) (sym same) ∙ fits) (old q held)

-- a row after a removal was there before, and isn't the key's
pub left_drop : (rows : Rows) (k q : Key) (held : Row) → drop_row rows k q ≡ Some held → rows q ≡ Some held
left_drop rows k q held e = elim (eq_by_cmp key_cmp q k) as (λ b. cond b None (rows q) ≡ Some held → rows q ≡ Some held) [ true ↦ λ f. cc | false ↦ λ f. f ] e

pub drop_here : (rows : Rows) (k : Key) → drop_row rows k k ≡ None
drop_here rows k = ap (λ b. cond b None (rows k)) (own_key k)

pub has_drop : (rows : Rows) (k q : Key) → (q ≡ k → ⊥) → Has rows q → Has (drop_row rows k) q
has_drop rows k q apart h =
    elim (eq_by_cmp key_cmp q k) as (λ b. eq_by_cmp key_cmp q k ≡ b → is_some (cond b None (rows q)) ≡ true) [
      | true ↦ λ t. absurd (apart (same_key q k t))
      | false ↦ λ t. h
    ] refl

pub possible_drop : (rows : Rows) (k : Key) → Possible rows → Possible (drop_row rows k)
possible_drop rows k old q held e = old q held (left_drop rows k q held e)

-- the same of several removals
pub left_drops : (rows : Rows) (ks : List Key) (q : Key) (held : Row) → rows_after rows (map Drop ks) q ≡ Some held → rows q ≡ Some held
left_drops rows [] q held e = e
left_drops rows (k ∷ ks) q held e = left_drop rows k q held (left_drops (drop_row rows k) ks q held e)

pub dropped : (rows : Rows) (ks : List Key) (q : Key) (held : Row) → In q ks → rows_after rows (map Drop ks) q ≡ Some held → ⊥
dropped rows [] q held i e = i
dropped rows (k ∷ ks) q held (inl same) e =
    let there : drop_row rows k q ≡ Some held = left_drops (drop_row rows k) ks q held e in
    let gone : drop_row rows k q ≡ None = ap (drop_row rows k) same ∙ drop_here rows k in
    cc
dropped rows (k ∷ ks) q held (inr rest) e = dropped (drop_row rows k) ks q held rest e
