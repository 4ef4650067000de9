-- Entries by a place: what stands there is a key's own, or the key has none.
use Rattle.std.proofs.Common.{◌≡◌, ℕ, zero, suc, ◌+◌, ◌<◌, ◌≤◌, true, false, not, Some, None, List, [], ◌∷◌, ◌++◌, length, take, drop, set, get_or, slice_get, refl, sym, ap, ◌∙◌, subst, arith, add-one}
use lib.Dec.{T}
use Rattle.std.specs.List.{insert, remove}
use Rattle.std.specs.Ordering.{eq_by_cmp, is_eq, is_lt, is_gt}
use Rattle.std.specs.declared.cmp.Ordering.{Ordering}
use Rattle.std.specs.declared.cmp.Ordering.TheVariants.{Less, Equal, Greater}
use Rattle.std.specs.FinMap.Entries as list
use Rattle.std.proofs.lemmas.List.{set_split, drop_all}
use Rattle.off_defs.specs.declared.keys.Key.{Key}
use Rattle.off_defs.specs.declared.tables.Row.{Row}
use Rattle.off_defs.specs.Keys.{key_cmp}
use Rattle.off_defs.proofs.KeyLemmas.{key_total}
use Rattle.off_keepmem.specs.Entries.{Rises, row_in, put_entry, but_key, next_in, compared, AreBelow, NoneBelow, IsPlace, Parts, is_in_front}
use Rattle.off_keepmem.specs.Shelves.{StartsAt, starts_by}
use Rattle.off_keepmem.proofs.PlaceLemmas.{opened, parted, parted_at, taken_at, Past, Reached, is_first, past_more, past_front, sorted_rest, below_all_of, find_here, put_here, but_here, next_here, find_apart, put_apart, but_apart, next_apart}

is_equal : (r : Ordering) → is_eq r ≡ true → r ≡ Equal
is_equal Less h = cc
is_equal Equal h = refl
is_equal Greater h = cc

is_greater : (r : Ordering) → is_gt r ≡ true → r ≡ Greater
is_greater Less h = cc
is_greater Equal h = cc
is_greater Greater h = refl

not_greater : (r : Ordering) → is_gt r ≡ false → ¬ (r ≡ Greater)
not_greater Less h g = cc
not_greater Equal h g = cc
not_greater Greater h g = cc

get_dropped : {A : Type 0} (es : List A) (n : ℕ) → slice_get (drop n es) 0 ≡ slice_get es n
get_dropped [] zero = refl
get_dropped [] (suc n) = refl
get_dropped (x ∷ es) zero = refl
get_dropped (x ∷ es) (suc n) = get_dropped es n

-- ---- a search

pub below_begun : (k : Key) (es : List (Key × Row)) → AreBelow k (take 0 es)
unfolding AreBelow
below_begun k es = tt

pub none_begun : (k : Key) (es : List (Key × Row)) (n : ℕ) → length es ≤ n → NoneBelow k (drop n es)
unfolding NoneBelow
none_begun k es n all = subst (λ (v : List (Key × Row)). Reached key_cmp k v) (sym (drop_all n es all)) tt

below_part : (k : Key) (l : List (Key × Row)) (e : Key × Row) (r : List (Key × Row)) → Rises (l ++ e ∷ r) → is_gt (compared k e.0) ≡ true → AreBelow k (l ++ e ∷ [])
unfolding Rises AreBelow compared
below_part k l e r h is =
    let more = is_greater (key_cmp k e.0) is in
    past_more key_cmp k l e (past_front key_cmp key_total k l e r h (λ less. cc)) more

pub below_more : (k : Key) (es : List (Key × Row)) (n : ℕ) (e : Key × Row) → Rises es → n < length es → e ≡ get_or es n e → is_gt (compared k e.0) ≡ true → AreBelow k (take (n + 1) es)
below_more k es n e h within item is =
    let open_ : es ≡ take n es ++ e ∷ drop (suc n) es = subst (λ (x : Key × Row). es ≡ take n es ++ x ∷ drop (suc n) es) (sym item) (parted_at es n e within) in
    let more : take (suc n) es ≡ take n es ++ e ∷ [] = subst (λ (x : Key × Row). take (suc n) es ≡ take n es ++ x ∷ []) (sym item) (taken_at es n e within) in
    let next : take (n + 1) es ≡ take n es ++ e ∷ [] = ap (λ m. take m es) (add-one n) ∙ more in
    subst (λ (v : List (Key × Row)). AreBelow k v) (sym next) (below_part k (take n es) e (drop (suc n) es) (subst Rises open_ h) is)

none_part : (k : Key) (e : Key × Row) (r : List (Key × Row)) → is_gt (compared k e.0) ≡ false → NoneBelow k (e ∷ r)
unfolding NoneBelow compared
none_part k e r is = not_greater (key_cmp k e.0) is

pub none_here : (k : Key) (es : List (Key × Row)) (n : ℕ) (e : Key × Row) → n < length es → e ≡ get_or es n e → is_gt (compared k e.0) ≡ false → NoneBelow k (drop n es)
none_here k es n e within item is =
    let open_ : drop n es ≡ e ∷ drop (suc n) es = subst (λ (x : Key × Row). drop n es ≡ x ∷ drop (suc n) es) (sym item) (opened es n e within) in
    subst (λ (v : List (Key × Row)). NoneBelow k v) (sym open_) (none_part k e (drop (suc n) es) is)

pub ruleset search_rules = (below_begun, none_begun, below_more, none_here)

-- ---- a place that is right

front_at : (k : Key) (es : List (Key × Row)) (n : ℕ) (e : Key × Row) → Rises es → n < length es → e ≡ get_or es n e → ¬ (key_cmp k e.0 ≡ Less) → AreBelow k (take n es)
unfolding Rises AreBelow
front_at k es n e h within item not_less =
    let open_ : es ≡ take n es ++ e ∷ drop (suc n) es = subst (λ (x : Key × Row). es ≡ take n es ++ x ∷ drop (suc n) es) (sym item) (parted_at es n e within) in
    past_front key_cmp key_total k (take n es) e (drop (suc n) es) (subst (λ (v : List (Key × Row)). T (list.is_sorted key_cmp v)) open_ h) not_less

pub place_same : (k : Key) (es : List (Key × Row)) (n : ℕ) (e : Key × Row) → Rises es → n < length es → e ≡ get_or es n e → compared k e.0 ≡ Equal → IsPlace k n es
unfolding compared
place_same k es n e h within item is = record {
  inside = within;
  parts = record { within = omega (arith, within); front = front_at k es n e h within item (λ less. let no : Equal ≡ Less = sym is ∙ less in cc); behind = none_here k es n e within item (ap is_gt is) };
}

pub place_first : (k : Key) (es : List (Key × Row)) (n : ℕ) (e : Key × Row) → n < length es → e ≡ get_or es n e → compared k e.0 ≡ Less → n ≡ 0 → IsPlace k n es
unfolding compared
place_first k es n e within item is first = record {
  inside = within;
  parts = record { within = omega (arith, within); front = subst (λ m. AreBelow k (take m es)) (sym first) (below_begun k es); behind = none_here k es n e within item (ap is_gt is) };
}

pub place_between : (k : Key) (es : List (Key × Row)) (n m : ℕ) (e d : Key × Row) → Rises es → n < length es → e ≡ get_or es n e → compared k e.0 ≡ Less → m + 1 ≡ n → d ≡ get_or es m d → is_gt (compared k d.0) ≡ true → IsPlace k n es
unfolding compared
place_between k es n m e d h within item is next former more = record {
  inside = within;
  parts = record { within = omega (arith, within); front = subst (λ i. AreBelow k (take i es)) next (below_more k es m d h (omega (arith, within, next)) former more); behind = none_here k es n e within item (ap is_gt is) };
}

-- ---- whether the key's own stands at a place

pub front_none : (k : Key) (es : List (Key × Row)) (n : ℕ) → length es ≤ n → is_in_front k (drop n es) ≡ false
unfolding is_in_front
front_none k es n all = ap (λ (v : List (Key × Row)). is_first key_cmp k v) (drop_all n es all)

front_part : (k : Key) (e : Key × Row) (r : List (Key × Row)) → is_in_front k (e ∷ r) ≡ is_eq (compared k e.0)
unfolding is_in_front compared
front_part k e r = refl

pub front_is : (k : Key) (es : List (Key × Row)) (n : ℕ) (e : Key × Row) → n < length es → e ≡ get_or es n e → is_in_front k (drop n es) ≡ is_eq (compared k e.0)
front_is k es n e within item =
    let open_ : drop n es ≡ e ∷ drop (suc n) es = subst (λ (x : Key × Row). drop n es ≡ x ∷ drop (suc n) es) (sym item) (opened es n e within) in
    ap (λ (v : List (Key × Row)). is_in_front k v) open_ ∙ front_part k e (drop (suc n) es)

pub front_within : (k : Key) (es : List (Key × Row)) (n : ℕ) → is_in_front k (drop n es) ≡ true → n < length es
unfolding is_in_front
front_within k [] zero at = cc
front_within k [] (suc n) at = cc
front_within k (e ∷ es) zero at = omega arith
front_within k (e ∷ es) (suc n) at = omega (arith, front_within k es n at)

-- ---- the key's own

module _ (k : Key) (es : List (Key × Row)) (n : ℕ) (e : Key × Row) (h : Rises es) (here : is_in_front k (drop n es) ≡ true) (item : e ≡ get_or es n e) where
  within : n < length es
  within = front_within k es n here

  whole : es ≡ take n es ++ e ∷ drop (suc n) es
  whole = subst (λ (x : Key × Row). es ≡ take n es ++ x ∷ drop (suc n) es) (sym item) (parted_at es n e within)

  rises : T (list.is_sorted key_cmp (take n es ++ e ∷ drop (suc n) es))
  unfolding Rises
  rises = subst (λ (v : List (Key × Row)). T (list.is_sorted key_cmp v)) whole h

  own : key_cmp k e.0 ≡ Equal
  unfolding compared
  own = is_equal (key_cmp k e.0) (sym (front_is k es n e within item) ∙ here)

  pub own_row : row_in k es ≡ Some e.1
  unfolding row_in
  own_row = ap (λ (v : List (Key × Row)). list.find key_cmp k v) whole ∙ find_here key_cmp key_total k (take n es) e (drop (suc n) es) rises own

  pub own_put : (v : Row) → set es n (e.0, v) ≡ put_entry k v es
  unfolding put_entry
  own_put v =
      set_split es n (e.0, v) within
      ∙ sym (ap (λ (w : List (Key × Row)). list.put key_cmp k v w) whole ∙ put_here key_cmp key_total k (take n es) e (drop (suc n) es) rises own v)

  pub own_drop : remove es n ≡ but_key k es
  unfolding but_key
  own_drop =
      sym (ap (λ (w : List (Key × Row)). list.where_key key_cmp (λ x. not (eq_by_cmp key_cmp k x)) w) whole ∙ but_here key_cmp key_total k (take n es) e (drop (suc n) es) rises own)

  pub own_next : next_in (Some k) es ≡ slice_get es (n + 1)
  unfolding next_in
  own_next =
      ap (λ (w : List (Key × Row)). next_in (Some k) w) whole
      ∙ next_here key_cmp key_total k (take n es) e (drop (suc n) es) rises own
      ∙ get_dropped es (suc n) ∙ ap (λ m. slice_get es m) (sym (add-one n))

item_at : {A : Type 0} (es : List A) (n : ℕ) → n < length es → (e : A) × (e ≡ get_or es n e)
item_at [] n within = absurd (omega (arith, within))
item_at (x ∷ es) zero within = (x, refl)
item_at (x ∷ es) (suc n) within = item_at es n (omega (arith, within))

pub next_behind : (k : Key) (es : List (Key × Row)) (n : ℕ) → Rises es → is_in_front k (drop n es) ≡ true → next_in (Some k) es ≡ slice_get es (n + 1)
next_behind k es n h here =
    let own = item_at es n (front_within k es n here) in
    own_next k es n own.0 h here own.1

-- where a key's own entry stands
pub place_at : (k : Key) (es : List (Key × Row)) (n : ℕ) → Rises es → is_in_front k (drop n es) ≡ true → IsPlace k n es
place_at k es n h here =
    let within = front_within k es n here in
    let own = item_at es n within in
    place_same k es n own.0 h within own.1 (is_equal (compared k own.0.0) (sym (front_is k es n own.0 within own.1) ∙ here))

starts_head : (r : Ordering) → is_eq r ≡ true → not (is_lt r) ≡ true
starts_head Less h = cc
starts_head Equal h = refl
starts_head Greater h = refl

pub starts_at : (k : Key) (es : List (Key × Row)) (n : ℕ) → IsPlace k n es → is_in_front k (drop n es) ≡ true → starts_by k es ≡ true
unfolding AreBelow is_in_front
starts_at k [] n at here = refl
starts_at k (e ∷ es) zero at here = starts_head (key_cmp k e.0) here
starts_at k (e ∷ es) (suc n) at here = ap (λ (r : Ordering). not (is_lt r)) at.parts.front.0

-- ---- where a key parts entries

pub parts_none : (k : Key) → Parts k 0 []
parts_none k = record { within = omega arith; front = below_begun k []; behind = none_begun k [] 0 (omega arith) }

-- ---- a key that has none

module _ (k : Key) (es : List (Key × Row)) (n : ℕ) (h : Rises es) (front : AreBelow k (take n es)) (behind : NoneBelow k (drop n es)) (none : is_in_front k (drop n es) ≡ false) where
  past : Past key_cmp k (take n es)
  unfolding AreBelow
  past = front

  above : T (list.below_all key_cmp k (drop n es))
  unfolding Rises NoneBelow is_in_front
  above = below_all_of key_cmp key_total k (drop n es) (sorted_rest key_cmp (take n es) (drop n es) (subst (λ (v : List (Key × Row)). T (list.is_sorted key_cmp v)) (parted es n) h)) behind none

  pub no_row : row_in k es ≡ None
  unfolding row_in
  no_row = ap (λ (v : List (Key × Row)). list.find key_cmp k v) (parted es n) ∙ find_apart key_cmp k (take n es) (drop n es) past above

  pub new_put : (v : Row) → insert es n (k, v) ≡ put_entry k v es
  unfolding put_entry
  new_put v = sym (ap (λ (w : List (Key × Row)). list.put key_cmp k v w) (parted es n) ∙ put_apart key_cmp k (take n es) (drop n es) past above v)

  pub no_drop : but_key k es ≡ es
  unfolding but_key
  no_drop =
      ap (λ (w : List (Key × Row)). list.where_key key_cmp (λ x. not (eq_by_cmp key_cmp k x)) w) (parted es n)
      ∙ but_apart key_cmp k (take n es) (drop n es) past above ∙ sym (parted es n)

  pub new_next : next_in (Some k) es ≡ slice_get es n
  unfolding next_in
  new_next =
      ap (λ (w : List (Key × Row)). next_in (Some k) w) (parted es n)
      ∙ next_apart key_cmp k (take n es) (drop n es) past above ∙ get_dropped es n

pub ruleset place_rules = (front_within, own_row, own_put, own_drop, own_next, no_row, new_put, no_drop, new_next)

pub ruleset front_rules = (front_none, front_is)

-- the key beside a shelf is that of its first entry
pub starts_is : (k f : Key) (s : List (Key × Row)) → StartsAt f s → 0 < length s → not (is_lt (compared k f)) ≡ starts_by k s
unfolding compared
starts_is k f [] at some = absurd (omega (arith, some))
starts_is k f (e ∷ es) at some = ap (λ (x : Key). not (is_lt (key_cmp k x))) at
