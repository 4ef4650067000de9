-- Entries on shelves: those of one shelf are a part of all, with those in front below a key and those behind above it.
use Rattle.std.proofs.Common.{◌≡◌, ℕ, zero, suc, ◌+◌, ◌-◌, ◌<◌, ◌≤◌, true, false, not, Option, Some, None, List, [], ◌∷◌, ◌++◌, length, take, drop, set, get_or, slice_get, is_some, IfSome, refl, sym, ap, ◌∙◌, subst, arith, add-one, append_assoc, length-set, length-append, length-take-le, length-drop, get_or-set_same, take-append-drop}
use lib.Dec.{T}
use Rattle.std.specs.List.{remove, All}
use Rattle.std.specs.Option.{option_or}
use Rattle.std.specs.Ordering.{is_lt, eq_by_cmp}
use Rattle.std.specs.declared.cmp.Ordering.{Ordering}
use Rattle.std.specs.declared.cmp.Ordering.TheVariants.{Less, Equal, Greater}
use Rattle.std.specs.FinMap.Entries as list
use Rattle.std.proofs.lemmas.List.{set_split, drop_all, drop-set-lt, take-set}
use Rattle.std.proofs.lemmas.List.Edits.{get_or-remove_below}
use Rattle.std.proofs.lemmas.List.Concat.{flat_map-append}
use Rattle.off_defs.specs.declared.keys.Key.{Key}
use Rattle.off_defs.specs.declared.tables.Row.{Row}
use Rattle.off_defs.specs.declared.writes.Write.{Write}
use Rattle.off_defs.specs.declared.writes.Write.TheVariants.{Put, Drop}
use Rattle.off_defs.specs.Keys.{key_cmp}
use Rattle.off_defs.proofs.KeyLemmas.{key_total}
use Rattle.off_defs.proofs.EntryLemmas.{held}
use Rattle.off_keepmem.specs.Entries.{IsPlace, Parts, NoneBelow, Rises, row_in, put_entry, but_key, next_in, AreBelow, AreAbove, entries_written}
use Rattle.off_keepmem.specs.Shelves.{Shelf, entries_on, starts_by, IsStocked, cut_at}
use Rattle.off_keepmem.proofs.PlaceLemmas.{both, parted_at, opened, past_front, below_others, below_back, sorted_rest, sorted_front, find_within, put_within, but_within, next_within}

pub get_default : {A : Type 0} (xs : List A) (i : ℕ) (d e : A) → i < length xs → get_or xs i d ≡ get_or xs i e
get_default [] i d e within = absurd (omega (arith, within))
get_default (x ∷ xs) zero d e within = refl
get_default (x ∷ xs) (suc i) d e within = get_default xs i d e (omega (arith, within))

on_append : (l r : List Shelf) → entries_on (l ++ r) ≡ entries_on l ++ entries_on r
on_append l r = flat_map-append (λ (s : Shelf). s) l r

on_parted : (ss : List Shelf) (at : ℕ) → at < length ss → entries_on ss ≡ entries_on (take at ss) ++ (get_or ss at [] ++ entries_on (drop (suc at) ss))
on_parted ss at within = ap (λ (v : List Shelf). entries_on v) (parted_at ss at [] within) ∙ on_append (take at ss) (get_or ss at [] ∷ drop (suc at) ss)

pub on_set : (ss : List Shelf) (at : ℕ) (s : Shelf) → at < length ss → entries_on (set ss at s) ≡ entries_on (take at ss) ++ (s ++ entries_on (drop (suc at) ss))
on_set ss at s within = ap (λ (v : List Shelf). entries_on v) (set_split ss at s within) ∙ on_append (take at ss) (s ∷ drop (suc at) ss)

pub shelf_rises : (ss : List Shelf) (at : ℕ) → at < length ss → Rises (entries_on ss) → Rises (get_or ss at [])
unfolding Rises
shelf_rises ss at within h =
    let whole = subst (λ (v : List (Key × Row)). T (list.is_sorted key_cmp v)) (on_parted ss at within) h in
    sorted_front key_cmp (get_or ss at []) (entries_on (drop (suc at) ss)) (sorted_rest key_cmp (entries_on (take at ss)) (get_or ss at [] ++ entries_on (drop (suc at) ss)) whole)

-- ---- looking

module _ (k : Key) (ss : List Shelf) (at : ℕ) (within : at < length ss) (front : AreBelow k (entries_on (take at ss))) (behind : AreAbove k (entries_on (drop (at + 1) ss))) where
  above : T (list.below_all key_cmp k (entries_on (drop (suc at) ss)))
  unfolding AreAbove
  above = subst (λ n. T (list.below_all key_cmp k (entries_on (drop n ss)))) (add-one at) behind

  pub row_on : row_in k (entries_on ss) ≡ row_in k (get_or ss at [])
  unfolding row_in AreBelow
  row_on =
      ap (λ (v : List (Key × Row)). list.find key_cmp k v) (on_parted ss at within)
      ∙ find_within key_cmp k (entries_on (take at ss)) (get_or ss at []) (entries_on (drop (suc at) ss)) front above

  pub next_on : next_in (Some k) (entries_on ss) ≡ option_or (next_in (Some k) (get_or ss at [])) (slice_get (entries_on (drop (at + 1) ss)) 0)
  unfolding next_in AreBelow
  next_on =
      ap (λ (v : List (Key × Row)). next_in (Some k) v) (on_parted ss at within)
      ∙ next_within key_cmp k (entries_on (take at ss)) (get_or ss at []) (entries_on (drop (suc at) ss)) front above
      ∙ ap (λ n. option_or (next_in (Some k) (get_or ss at [])) (slice_get (entries_on (drop n ss)) 0)) (sym (add-one at))

  pub put_on_set : (v : Row) → entries_on (set ss at (put_entry k v (get_or ss at []))) ≡ put_entry k v (entries_on ss)
  unfolding put_entry AreBelow
  put_on_set v =
      on_set ss at (put_entry k v (get_or ss at [])) within
      ∙ sym (ap (λ (w : List (Key × Row)). list.put key_cmp k v w) (on_parted ss at within)
      ∙ put_within key_cmp k v (entries_on (take at ss)) (get_or ss at []) (entries_on (drop (suc at) ss)) front above)

  pub but_on_set : entries_on (set ss at (but_key k (get_or ss at []))) ≡ but_key k (entries_on ss)
  unfolding but_key AreBelow
  but_on_set =
      on_set ss at (but_key k (get_or ss at [])) within
      ∙ sym (ap (λ (w : List (Key × Row)). list.where_key key_cmp (λ x. not (eq_by_cmp key_cmp k x)) w) (on_parted ss at within)
      ∙ but_within key_cmp k (entries_on (take at ss)) (get_or ss at []) (entries_on (drop (suc at) ss)) front above)

pub nothing_on : (ss : List Shelf) → length ss ≡ 0 → entries_on ss ≡ []
nothing_on [] h = refl
nothing_on (s ∷ ss) h = absurd (omega (arith, h))

pub no_row_on : (k : Key) (ss : List Shelf) → length ss ≡ 0 → row_in k (entries_on ss) ≡ None
unfolding row_in
no_row_on k ss h = ap (λ (v : List (Key × Row)). row_in k v) (nothing_on ss h)

pub no_next_on : (k : Key) (ss : List Shelf) → length ss ≡ 0 → next_in (Some k) (entries_on ss) ≡ None
unfolding next_in
no_next_on k ss h = ap (λ (v : List (Key × Row)). next_in (Some k) v) (nothing_on ss h)

pub next_front : (es : List (Key × Row)) → next_in None es ≡ slice_get es 0
unfolding next_in
next_front [] = refl
next_front (e ∷ es) = refl

pub ruleset look_rules = (shelf_rises, row_on, next_on, no_row_on, no_next_on, next_front)

-- ---- the search for a shelf

not_less : (r : Ordering) → not (is_lt r) ≡ true → ¬ (r ≡ Less)
not_less Less h l = cc
not_less Equal h l = cc
not_less Greater h l = cc

is_less_by : (r : Ordering) → not (is_lt r) ≡ false → r ≡ Less
is_less_by Less h = refl
is_less_by Equal h = cc
is_less_by Greater h = cc

below_by : (k : Key) (l : List (Key × Row)) (s : Shelf) (r : List (Key × Row)) → T (list.is_sorted key_cmp (l ++ (s ++ r))) → 0 < length s → starts_by k s ≡ true → AreBelow k l
unfolding AreBelow
below_by k l [] r h some starts = absurd (omega (arith, some))
below_by k l (e ∷ es) r h some starts = past_front key_cmp key_total k l e (es ++ r) h (not_less (key_cmp k e.0) starts)

above_by : (k : Key) (s : Shelf) (r : List (Key × Row)) → T (list.is_sorted key_cmp (s ++ r)) → 0 < length s → starts_by k s ≡ false → AreAbove k (s ++ r)
unfolding AreAbove
above_by k [] r h some starts = absurd (omega (arith, some))
above_by k (e ∷ es) r h some starts =
    let less = is_less_by (key_cmp k e.0) starts in
    both _ _ (held _ (ap is_lt less)) (below_others key_cmp key_total k e (es ++ r) h (λ greater. cc))

pub below_shelf : (k : Key) (ss : List Shelf) (at : ℕ) (s : Shelf) → Rises (entries_on ss) → at < length ss → s ≡ get_or ss at s → 0 < length s → starts_by k s ≡ true → AreBelow k (entries_on (take at ss))
unfolding Rises
below_shelf k ss at s h within item some starts =
    let here : s ≡ get_or ss at [] = item ∙ get_default ss at s [] within in
    below_by k (entries_on (take at ss)) s (entries_on (drop (suc at) ss))
    (subst (λ (v : Shelf). T (list.is_sorted key_cmp (entries_on (take at ss) ++ (v ++ entries_on (drop (suc at) ss))))) (sym here) (subst (λ (v : List (Key × Row)). T (list.is_sorted key_cmp v)) (on_parted ss at within) h))
    some starts

pub above_shelf : (k : Key) (ss : List Shelf) (at : ℕ) (s : Shelf) → Rises (entries_on ss) → at < length ss → s ≡ get_or ss at s → 0 < length s → starts_by k s ≡ false → AreAbove k (entries_on (drop at ss))
unfolding Rises
above_shelf k ss at s h within item some starts =
    let here : s ≡ get_or ss at [] = item ∙ get_default ss at s [] within in
    let whole = subst (λ (v : List (Key × Row)). T (list.is_sorted key_cmp v)) (on_parted ss at within) h in
    let rest = sorted_rest key_cmp (entries_on (take at ss)) (get_or ss at [] ++ entries_on (drop (suc at) ss)) whole in
    let open_ : entries_on (drop at ss) ≡ s ++ entries_on (drop (suc at) ss) = ap (λ (v : List Shelf). entries_on v) (opened ss at [] within) ∙ ap (λ (v : Shelf). v ++ entries_on (drop (suc at) ss)) (sym here) in
    subst (λ (v : List (Key × Row)). AreAbove k v) (sym open_)
    (above_by k s (entries_on (drop (suc at) ss)) (subst (λ (v : Shelf). T (list.is_sorted key_cmp (v ++ entries_on (drop (suc at) ss)))) (sym here) rest) some starts)

pub below_first : (k : Key) (ss : List Shelf) → AreBelow k (entries_on (take 0 ss))
unfolding AreBelow
below_first k ss = tt

pub above_none : (k : Key) (ss : List Shelf) (n : ℕ) → length ss ≤ n → AreAbove k (entries_on (drop n ss))
unfolding AreAbove
above_none k ss n all = subst (λ (v : List Shelf). T (list.below_all key_cmp k (entries_on v))) (sym (drop_all n ss all)) tt

above_part : (k : Key) (l : List (Key × Row)) (e : Key × Row) (r m : List (Key × Row)) → T (list.is_sorted key_cmp ((l ++ e ∷ r) ++ m)) → ¬ (key_cmp k e.0 ≡ Greater) → T (list.below_all key_cmp k m)
above_part k l e r m h not_above =
    below_back key_cmp k r m
    (below_others key_cmp key_total k e (r ++ m)
    (sorted_rest key_cmp l (e ∷ (r ++ m)) (subst (λ (v : List (Key × Row)). T (list.is_sorted key_cmp v)) (append_assoc l (e ∷ r) m) h))
    not_above)

not_above_at : (k : Key) (s : Shelf) (p : ℕ) (d : Key × Row) → IsPlace k p s → ¬ (key_cmp k (get_or s p d).0 ≡ Greater)
unfolding NoneBelow
not_above_at k s p d is = subst (λ (v : List (Key × Row)). NoneBelow k v) (opened s p d is.inside) is.parts.behind

item_of : (s : Shelf) (p : ℕ) → p < length s → Key × Row
item_of [] p within = absurd (omega (arith, within))
item_of (e ∷ es) p within = e

pub above_place : (k : Key) (ss : List Shelf) (at : ℕ) (s : Shelf) (p : ℕ) → Rises (entries_on ss) → at < length ss → s ≡ get_or ss at s → IsPlace k p s → AreAbove k (entries_on (drop (at + 1) ss))
unfolding Rises AreAbove
above_place k ss at s p h within item is =
    let here : s ≡ get_or ss at [] = item ∙ get_default ss at s [] within in
    let whole = subst (λ (v : List (Key × Row)). T (list.is_sorted key_cmp v)) (on_parted ss at within) h in
    let rest = sorted_rest key_cmp (entries_on (take at ss)) (get_or ss at [] ++ entries_on (drop (suc at) ss)) whole in
    let own : T (list.is_sorted key_cmp (s ++ entries_on (drop (suc at) ss))) = subst (λ (v : Shelf). T (list.is_sorted key_cmp (v ++ entries_on (drop (suc at) ss)))) (sym here) rest in
    let d = item_of s p is.inside in
    let parts = subst (λ (v : Shelf). T (list.is_sorted key_cmp (v ++ entries_on (drop (suc at) ss)))) (parted_at s p d is.inside) own in
    subst (λ n. T (list.below_all key_cmp k (entries_on (drop n ss)))) (sym (add-one at))
    (above_part k (take p s) (get_or s p d) (drop (suc p) s) (entries_on (drop (suc at) ss)) parts (not_above_at k s p d is))

pub ruleset search_rules = (below_shelf, above_shelf, below_first, above_none)

-- ---- the first entry of a shelf

first_of : (s : Shelf) (r : List (Key × Row)) → 0 < length s → slice_get (s ++ r) 0 ≡ slice_get s 0
first_of [] r some = absurd (omega (arith, some))
first_of (e ∷ es) r some = refl

pub front_on : (ss : List Shelf) (at : ℕ) (s : Shelf) → at < length ss → s ≡ get_or ss at s → 0 < length s → slice_get (entries_on (drop at ss)) 0 ≡ slice_get s 0
front_on ss at s within item some =
    let here : s ≡ get_or ss at [] = item ∙ get_default ss at s [] within in
    ap (λ (v : List Shelf). slice_get (entries_on v) 0) (opened ss at [] within)
    ∙ ap (λ (v : Shelf). slice_get (v ++ entries_on (drop (suc at) ss)) 0) (sym here)
    ∙ first_of s (entries_on (drop (suc at) ss)) some

pub no_front_on : (ss : List Shelf) (at : ℕ) → length ss ≤ at → slice_get (entries_on (drop at ss)) 0 ≡ None
no_front_on ss at all = ap (λ (v : List Shelf). slice_get (entries_on v) 0) (drop_all at ss all)

pub ruleset front_rules = (front_on, no_front_on)

-- ---- all shelves

module _ {A : Type 0} (P : A → Type 0) where
  all_rest : (x : A) (xs : List A) → All P (x ∷ xs) → All P xs
  all_rest x xs h k d within = h (suc k) d (omega (arith, within))

  all_more : (x : A) (xs : List A) → P x → All P xs → All P (x ∷ xs)
  all_more x xs p h zero d within = p
  all_more x xs p h (suc k) d within = h k d (omega (arith, within))

  pub all_set : (xs : List A) (i : ℕ) (y : A) → All P xs → P y → All P (set xs i y)
  all_set [] i y h p = h
  all_set (x ∷ xs) zero y h p = all_more y xs p (all_rest x xs h)
  all_set (x ∷ xs) (suc i) y h p = all_more x (set xs i y) (h 0 x (omega arith)) (all_set xs i y (all_rest x xs h) p)

  pub all_but : (xs : List A) (i : ℕ) → All P xs → All P (take i xs ++ drop (suc i) xs)
  all_but [] zero h = h
  all_but [] (suc i) h = h
  all_but (x ∷ xs) zero h = all_rest x xs h
  all_but (x ∷ xs) (suc i) h = all_more x (take i xs ++ drop (suc i) xs) (h 0 x (omega arith)) (all_but xs i (all_rest x xs h))

  pub all_parted : (xs : List A) (i : ℕ) (y z : A) → i < length xs → All P xs → P y → P z → All P (take i xs ++ y ∷ z ∷ drop (suc i) xs)
  all_parted [] i y z within h p q = absurd (omega (arith, within))
  all_parted (x ∷ xs) zero y z within h p q = all_more y (z ∷ xs) p (all_more z xs q (all_rest x xs h))
  all_parted (x ∷ xs) (suc i) y z within h p q =
      all_more x (take i xs ++ y ∷ z ∷ drop (suc i) xs) (h 0 x (omega arith)) (all_parted xs i y z (omega (arith, within)) (all_rest x xs h) p q)

  none_of : All P []
  none_of k d within = absurd (omega (arith, within))

  pub all_taken : (xs : List A) (i : ℕ) → All P xs → All P (take i xs)
  all_taken [] zero h = h
  all_taken [] (suc i) h = h
  all_taken (x ∷ xs) zero h = none_of
  all_taken (x ∷ xs) (suc i) h = all_more x (take i xs) (h 0 x (omega arith)) (all_taken xs i (all_rest x xs h))

  pub all_one : (x : A) → P x → All P (x ∷ [])
  all_one x p zero d within = p
  all_one x p (suc k) d within = absurd (omega (arith, within))

pub stocked_at : (ss : List Shelf) (at : ℕ) (s : Shelf) → All IsStocked ss → at < length ss → s ≡ get_or ss at s → IsStocked s
stocked_at ss at s h within item = subst IsStocked (sym item) (h at s within)

-- ---- changes

pub nothing_dropped : (k : Key) (ss : List Shelf) → length ss ≡ 0 → entries_on ss ≡ but_key k (entries_on ss)
unfolding but_key
nothing_dropped k ss h = subst (λ (v : List (Key × Row)). v ≡ but_key k v) (sym (nothing_on ss h)) refl

join_here : (ss : List Shelf) (at : ℕ) → suc at < length ss → entries_on (set (remove ss (suc at)) at (get_or ss at [] ++ get_or ss (suc at) [])) ≡ entries_on ss
join_here [] at within = absurd (omega (arith, within))
join_here (s ∷ []) at within = absurd (omega (arith, within))
join_here (s ∷ t ∷ ss) zero within = append_assoc s t (entries_on ss)
join_here (s ∷ t ∷ ss) (suc at) within = ap (λ (v : List (Key × Row)). s ++ v) (join_here (t ∷ ss) at (omega (arith, within)))

pub item_kept : (ss rs : List Shelf) (at : ℕ) (s : Shelf) → at + 1 < length ss → rs ≡ remove ss (at + 1) → s ≡ get_or rs at s → s ≡ get_or ss at []
item_kept ss rs at s within rest left =
    left ∙ ap (λ (v : List Shelf). get_or v at s) rest ∙ get_or-remove_below ss (at + 1) s at (omega arith) within ∙ get_default ss at s [] (omega (arith, within))

pub join_is : (ss rs : List Shelf) (at : ℕ) (s t u : Shelf) → at + 1 < length ss → rs ≡ remove ss (at + 1) → s ≡ get_or rs at s → t ≡ get_or ss (at + 1) t → u ≡ s ++ t
    → entries_on (set rs at u) ≡ entries_on ss
join_is ss rs at s t u within rest left right both_ =
    let same : s ≡ get_or ss at [] = item_kept ss rs at s within rest left in
    let other : t ≡ get_or ss (suc at) [] = right ∙ get_default ss (at + 1) t [] within ∙ ap (λ n. get_or ss n []) (add-one at) in
    let parts : u ≡ get_or ss at [] ++ get_or ss (suc at) [] = both_ ∙ ap (λ (v : Shelf). v ++ t) same ∙ ap (λ (v : Shelf). get_or ss at [] ++ v) other in
    let removed : rs ≡ remove ss (suc at) = rest ∙ ap (λ n. remove ss n) (add-one at) in
    ap (λ (v : List Shelf). entries_on (set v at u)) removed
    ∙ ap (λ (v : Shelf). entries_on (set (remove ss (suc at)) at v)) parts
    ∙ join_here ss at (omega (arith, within))

pub joined : (ss rs : List Shelf) (at : ℕ) (s t u x y : Shelf) → All IsStocked ss → at + 1 < length ss → rs ≡ remove ss (at + 1) → s ≡ get_or rs at s → t ≡ get_or ss (at + 1) t → u ≡ s ++ t
    → x ≡ get_or ss at x → y ≡ get_or ss (at + 1) y → length x + length y ≤ 32 → All IsStocked (set rs at u)
joined ss rs at s t u x y h within rest left right is one two few =
    let first_ : s ≡ x = item_kept ss rs at s within rest left ∙ sym (one ∙ get_default ss at x [] (omega (arith, within))) in
    let next : t ≡ y = right ∙ get_default ss (at + 1) t [] within ∙ sym (two ∙ get_default ss (at + 1) y [] within) in
    let some : IsStocked x = stocked_at ss at x h (omega (arith, within)) one in
    let len : length u ≡ length x + length y = ap (λ (v : Shelf). length v) is ∙ length-append s t ∙ ap (λ (v : Shelf). length v + length t) first_ ∙ ap (λ (v : Shelf). length x + length v) next in
    all_set IsStocked rs at u (subst (λ (v : List Shelf). All IsStocked v) (sym rest) (all_but IsStocked ss (at + 1) h)) (omega (arith, len, some.0), omega (arith, len, few))

emptied : (ss : List Shelf) (at : ℕ) → at < length ss → entries_on (remove ss at) ≡ entries_on (take at ss) ++ entries_on (drop (suc at) ss)
emptied ss at within = on_append (take at ss) (drop (suc at) ss)

no_entries : (s : Shelf) → length s ≡ 0 → s ≡ []
no_entries [] h = refl
no_entries (e ∷ es) h = absurd (omega (arith, h))

pub emptied_is : (k : Key) (ss ts : List Shelf) (at : ℕ) (s t : Shelf) → at < length ss → s ≡ get_or ss at s → AreBelow k (entries_on (take at ss)) → AreAbove k (entries_on (drop (at + 1) ss))
    → t ≡ but_key k s → length t ≡ 0 → ts ≡ remove (set ss at t) at → entries_on ts ≡ but_key k (entries_on ss)
emptied_is k ss ts at s t within item front behind is none removed =
    let here : s ≡ get_or ss at [] = item ∙ get_default ss at s [] within in
    let length_ : at < length (set ss at t) = omega (arith, length-set ss at t, within) in
    ap (λ (v : List Shelf). entries_on v) removed ∙ emptied (set ss at t) at length_
    ∙ ap (λ (v : List Shelf). entries_on v ++ entries_on (drop (suc at) (set ss at t))) (take-set ss at t)
    ∙ ap (λ (v : List Shelf). entries_on (take at ss) ++ entries_on v) (drop-set-lt (suc at) ss at t (omega arith))
    ∙ ap (λ (v : Shelf). entries_on (take at ss) ++ (v ++ entries_on (drop (suc at) ss))) (sym (no_entries t none))
    ∙ sym (on_set ss at t within)
    ∙ ap (λ (v : Shelf). entries_on (set ss at v)) (is ∙ ap (λ (v : Shelf). but_key k v) here)
    ∙ but_on_set k ss at within front behind

pub put_is : (k : Key) (w : Row) (ss : List Shelf) (at : ℕ) (s t : Shelf) → at < length ss → s ≡ get_or ss at s → AreBelow k (entries_on (take at ss)) → AreAbove k (entries_on (drop (at + 1) ss))
    → t ≡ put_entry k w s → entries_on (set ss at t) ≡ put_entry k w (entries_on ss)
put_is k w ss at s t within item front behind is =
    let here : s ≡ get_or ss at [] = item ∙ get_default ss at s [] within in
    ap (λ (v : Shelf). entries_on (set ss at v)) (is ∙ ap (λ (v : Shelf). put_entry k w v) here) ∙ put_on_set k ss at within front behind w

pub some_put : (k : Key) (w : Row) (s : Shelf) → 0 < length (put_entry k w s)
unfolding put_entry
some_put k w [] = omega arith
some_put k w (e ∷ es) =
    elim (key_cmp k e.0) as (λ c. 0 < length (list.by_order c ((k, w) ∷ e ∷ es) ((e.0, w) ∷ es) (e ∷ list.put key_cmp k w es))) [
      | Less ↦ omega arith
      | Equal ↦ omega arith
      | Greater ↦ omega arith
    ]

pub stocked_put : (k : Key) (w : Row) (ss : List Shelf) (at : ℕ) (s t x : Shelf) → All IsStocked ss → at < length ss → t ≡ put_entry k w s → x ≡ get_or (set ss at t) at x → length x < 64 → All IsStocked (set ss at t)
stocked_put k w ss at s t x h within is item few =
    let same : x ≡ t = item ∙ get_or-set_same ss at t x within in
    all_set IsStocked ss at t h (subst (λ (v : Shelf). 0 < length v) (sym is) (some_put k w s), omega (arith, few, ap (λ (v : Shelf). length v) same))

pub stocked_cut : (ss ts : List Shelf) (at cut : ℕ) (t x : Shelf) → All IsStocked ss → at < length ss → ts ≡ cut_at at cut (set ss at t) → x ≡ get_or (set ss at t) at x → length x ≡ 64 → 0 < cut → cut < 64 → All IsStocked ts
stocked_cut ss ts at cut t x h within is item full low high =
    let same : x ≡ t = item ∙ get_or-set_same ss at t x within in
    let own : get_or (set ss at t) at [] ≡ t = get_or-set_same ss at t [] within in
    let size : length t ≡ 64 = sym (ap (λ (v : Shelf). length v) same) ∙ full in
    let lower : length (take cut t) ≡ cut = length-take-le cut t (omega (arith, size, high)) in
    let upper : length (drop cut t) ≡ length t - cut = length-drop cut t in
    let parts : ts ≡ take at ss ++ take cut t ∷ drop cut t ∷ drop (suc at) ss =
    is
    ∙ ap (λ (v : Shelf). take at (set ss at t) ++ take cut v ∷ drop cut v ∷ drop (suc at) (set ss at t)) own
    ∙ ap (λ (v : List Shelf). v ++ take cut t ∷ drop cut t ∷ drop (suc at) (set ss at t)) (take-set ss at t)
    ∙ ap (λ (v : List Shelf). take at ss ++ take cut t ∷ drop cut t ∷ v) (drop-set-lt (suc at) ss at t (omega arith)) in
    subst (λ (v : List Shelf). All IsStocked v) (sym parts)
    (all_parted IsStocked ss at (take cut t) (drop cut t) within h (omega (arith, lower, low), omega (arith, lower, high)) (omega (arith, upper, size, high), omega (arith, upper, size, low)))

pub own_rises : (ss : List Shelf) (at : ℕ) (s : Shelf) → at < length ss → s ≡ get_or ss at s → Rises (entries_on ss) → Rises s
own_rises ss at s within item h = subst Rises (sym (item ∙ get_default ss at s [] within)) (shelf_rises ss at within h)

-- a key parts a shelf that was taken out of the list where it parts it in the list, and the other way round
pub own_parts : (k : Key) (ss : List Shelf) (at : ℕ) (s : Shelf) (p : ℕ) → at < length ss → s ≡ get_or ss at s → Parts k p s → Parts k p (get_or ss at [])
own_parts k ss at s p within item parts = subst (λ (v : Shelf). Parts k p v) (item ∙ get_default ss at s [] within) parts

pub shelf_parts : (k : Key) (ss : List Shelf) (at : ℕ) (s : Shelf) (p : ℕ) → at < length ss → s ≡ get_or ss at s → Parts k p (get_or ss at []) → Parts k p s
shelf_parts k ss at s p within item parts = subst (λ (v : Shelf). Parts k p v) (sym (item ∙ get_default ss at s [] within)) parts

pub more_if : {X : Type 0} (P Q : X → Type 0) (o : Option X) → (is_some o ≡ true → (x : X) → P x → Q x) → IfSome o P → IfSome o Q
more_if P Q None f h = h
more_if P Q (Some x) f h = f refl x h

-- a key whose place lies on a shelf has in all the row that it has on that shelf
pub found_on : (k : Key) (ss : List Shelf) (at : ℕ) (s : Shelf) (p : ℕ) → Rises (entries_on ss) → All IsStocked ss → at < length ss → s ≡ get_or ss at s → starts_by k s ≡ true → IsPlace k p s
    → row_in k (entries_on ss) ≡ row_in k s
found_on k ss at s p h stocked within item starts place =
    row_on k ss at within (below_shelf k ss at s h within item (stocked_at ss at s stocked within item).0 starts) (above_place k ss at s p h within item place)
    ∙ ap (λ (v : Shelf). row_in k v) (sym (item ∙ get_default ss at s [] within))

pub cut_same : (ss : List Shelf) (at cut : ℕ) → at < length ss → entries_on (cut_at at cut ss) ≡ entries_on ss
cut_same ss at cut within =
    let s : Shelf = get_or ss at [] in
    on_append (take at ss) (take cut s ∷ drop cut s ∷ drop (suc at) ss)
    ∙ ap (λ (v : List (Key × Row)). entries_on (take at ss) ++ v) (sym (append_assoc (take cut s) (drop cut s) (entries_on (drop (suc at) ss))))
    ∙ ap (λ (v : Shelf). entries_on (take at ss) ++ (v ++ entries_on (drop (suc at) ss))) (take-append-drop cut s)
    ∙ sym (on_parted ss at within)

pub put_none : (k : Key) (w : Row) → put_entry k w [] ≡ (k, w) ∷ []
unfolding put_entry
put_none k w = refl

pub rises_none : Rises []
unfolding Rises
rises_none = tt

pub put_rises : (k : Key) (w : Row) (es : List (Key × Row)) → Rises es → Rises (put_entry k w es)
unfolding Rises put_entry
put_rises k w es h = list.is_sorted-put key_cmp key_total k w es h

pub drop_rises : (k : Key) (es : List (Key × Row)) → Rises es → Rises (but_key k es)
unfolding Rises but_key
drop_rises k es h = list.is_sorted-where_key key_cmp (λ x. not (eq_by_cmp key_cmp k x)) es h

pub written_rises : (es : List (Key × Row)) (write : Write) → Rises es → Rises (entries_written es write)
written_rises es (Put key row) h = put_rises key row es h
written_rises es (Drop key) h = drop_rises key es h

pub ruleset none_rules = (nothing_on, nothing_dropped)

pub ruleset begin_rules = (put_none, rises_none, all_one, nothing_on)

pub ruleset write_rules = (put_rises, drop_rises)

pub ruleset put_rules = (shelf_rises, put_on_set, cut_same, all_set, all_parted)

pub ruleset split_rules = (set_split, drop-set-lt, take-set)

pub ruleset stock_rules = (all_taken, get_default)

pub ruleset cut_rules = (shelf_rises, but_on_set, all_set, all_but)

pub ruleset join_rules = (all_set, all_but)
