-- Cells in one list as a map, at a key's place.
use Rattle.std.proofs.Common.{◌≡◌, ℕ, zero, suc, ◌<◌, ◌≤◌, slice_get, Bool, true, false, cond, not, List, [], ◌∷◌, ◌++◌, length, take, drop, Option, Some, None, slice_index_or, slice_set, refl, sym, ap, ◌∙◌, subst, arith}
use Rattle.std.specs.List.{find as first_of_all}
use Rattle.std.specs.Option.{option_map}
use Rattle.std.specs.Ordering.{nat_cmp, is_eq, eq_by_cmp}
use Rattle.std.specs.Cmp.{alike_right, eq_by_cmp_equiv}
use Rattle.std.specs.Cmp.Lexicographic.{slice_cmp, nat_list_cmp_total}
use Rattle.std.specs.declared.cmp.Ordering.{Ordering}
use Rattle.std.specs.FinMap as map
use Rattle.std.specs.FinMap.Entries.{put, where_key, is_sorted-put, is_sorted-where_key, find-where_key}
use Rattle.off_defs.proofs.EntryLemmas.{holds, held, is_equal}
use Rattle.off_cells.specs.CellsSeen.{Cell, CellMap, is_behind}
use Rattle.off_cells.specs.SortedCells.{AreInOrder, place_of, is_in_front}
use Rattle.off_defs.proofs.PlaceLemmas.{opened, set_opened, value_at, put_at, less_at, put_there, found_there, removed_there}

abbrev pub bytes_cmp : List ℕ → List ℕ → Ordering
bytes_cmp = slice_cmp nat_cmp

pub exact : map.IsAntisymmetric bytes_cmp
exact = map.slice_cmp-IsAntisymmetric map.nat_cmp-IsAntisymmetric

pub same_key : (a b : List ℕ) → eq_by_cmp bytes_cmp a b ≡ true → a ≡ b
same_key a b e = exact a b (is_equal (bytes_cmp a b) e)

same_cells : (xs ys : CellMap) → ((key : List ℕ) → map.get xs key ≡ map.get ys key) → xs ≡ ys
same_cells xs ys same = map.same_map nat_list_cmp_total exact xs ys same

get_removed : (xs : CellMap) (key q : List ℕ) → map.get (map.remove xs key) q ≡ cond (eq_by_cmp bytes_cmp q key) None (map.get xs q)
get_removed xs key q = map.get-remove nat_list_cmp_total xs key q

abbrev kept : List Cell → CellMap
kept es = map.from_sorted es

pub none_kept : kept [] ≡ map.empty
none_kept = map.empty_of_len (kept []) (map.len-entries (kept []) ∙ ap length (map.entries-from_sorted bytes_cmp [] tt))

pub entries_kept : (es : List Cell) → AreInOrder es → map.entries (kept es) ≡ es
entries_kept es sorted = map.entries-from_sorted bytes_cmp es (held (map.is_sorted bytes_cmp es) sorted)

pub len_kept : (es : List Cell) → AreInOrder es → map.len (kept es) ≡ length es
len_kept es sorted = map.len-entries (kept es) ∙ ap length (entries_kept es sorted)

-- ---- a place

in_front_within : (key : List ℕ) (es : List Cell) (n : ℕ) → is_in_front key (drop n es) ≡ true → n < length es
in_front_within key [] zero at = cc
in_front_within key [] (suc n) at = cc
in_front_within key (e ∷ es) zero at = omega arith
in_front_within key (e ∷ es) (suc n) at = omega (arith, in_front_within key es n at)

-- what stands in front is the key's own, or isn't
own_value : (key : List ℕ) (e : Cell) (es : List Cell) → is_in_front key (e ∷ es) ≡ true → value_at bytes_cmp key (e ∷ es) ≡ Some e.1
own_value key e es at = ap (λ b. cond b (Some e.1) None) at

no_value : (key : List ℕ) (es : List Cell) → is_in_front key es ≡ false → value_at bytes_cmp key es ≡ None
no_value key [] at = refl
no_value key (e ∷ es) at = ap (λ b. cond b (Some e.1) None) at

own_put : (key : List ℕ) (e : Cell) (es : List Cell) (v : List ℕ) → is_in_front key (e ∷ es) ≡ true → put_at bytes_cmp key v (e ∷ es) ≡ (e.0, v) ∷ es
own_put key e es v at = ap (λ b. cond b ((e.0, v) ∷ es) ((key, v) ∷ e ∷ es)) at

new_put : (key : List ℕ) (es : List Cell) (v : List ℕ) → is_in_front key es ≡ false → put_at bytes_cmp key v es ≡ (key, v) ∷ es
new_put key [] v at = refl
new_put key (e ∷ es) v at = ap (λ b. cond b ((e.0, v) ∷ es) ((key, v) ∷ e ∷ es)) at

own_less : (key : List ℕ) (e : Cell) (es : List Cell) → is_in_front key (e ∷ es) ≡ true → less_at bytes_cmp key (e ∷ es) ≡ es
own_less key e es at = ap (λ b. cond b es (e ∷ es)) at

pub get_kept : (key : List ℕ) (xs : CellMap) (es : List Cell) (n : ℕ) → AreInOrder es → kept es ≡ xs → n ≡ place_of key es → map.get xs key ≡ value_at bytes_cmp key (drop n es)
get_kept key xs es n sorted is place =
    ap (λ (m : CellMap). map.get m key) (sym is) ∙ map.get-from_sorted bytes_cmp es key (held (map.is_sorted bytes_cmp es) sorted)
    ∙ found_there bytes_cmp key nat_list_cmp_total es (held (map.is_sorted bytes_cmp es) sorted) ∙ ap (λ m. value_at bytes_cmp key (drop m es)) (sym place)

-- the entry at the place, where it is the key's own
pub got : (key : List ℕ) (xs : CellMap) (es : List Cell) (n : ℕ) (e : Cell) (at : Bool) → AreInOrder es → kept es ≡ xs → n ≡ place_of key es
    → at ≡ is_in_front key (drop n es) → at ≡ true → e ≡ slice_index_or es n e → map.get xs key ≡ Some e.1
got key xs es n e at sorted is place front own item =
    let here = sym front ∙ own in
    let open_ = opened es n e (in_front_within key es n here) item in
    get_kept key xs es n sorted is place ∙ ap (value_at bytes_cmp key) open_ ∙ own_value key e (drop (suc n) es) (ap (is_in_front key) (sym open_) ∙ here)

pub got_none : (key : List ℕ) (xs : CellMap) (es : List Cell) (n : ℕ) (at : Bool) → AreInOrder es → kept es ≡ xs → n ≡ place_of key es
    → at ≡ is_in_front key (drop n es) → at ≡ false → map.get xs key ≡ None
got_none key xs es n at sorted is place front none =
    get_kept key xs es n sorted is place ∙ no_value key (drop n es) (sym front ∙ none)

-- ---- what an insertion makes

put_in : (key : List ℕ) (es : List Cell) (n : ℕ) (v : List ℕ) → n ≡ place_of key es → put bytes_cmp key v es ≡ take n es ++ put_at bytes_cmp key v (drop n es)
put_in key es n v place = put_there bytes_cmp key v es ∙ ap (λ m. take m es ++ put_at bytes_cmp key v (drop m es)) (sym place)

pub set_is_put : (key : List ℕ) (es : List Cell) (n : ℕ) (e : Cell) (v : List ℕ) (at : Bool) → n ≡ place_of key es → at ≡ is_in_front key (drop n es) → at ≡ true
    → e ≡ slice_index_or es n e → slice_set es n (e.0, v) ≡ put bytes_cmp key v es
set_is_put key es n e v at place front own item =
    let here = sym front ∙ own in
    let within = in_front_within key es n here in
    let open_ = opened es n e within item in
    set_opened es n (e.0, v) within
    ∙ sym (put_in key es n v place ∙ ap (λ (d : List Cell). take n es ++ put_at bytes_cmp key v d) open_
    ∙ ap (λ (d : List Cell). take n es ++ d) (own_put key e (drop (suc n) es) v (ap (is_in_front key) (sym open_) ∙ here)))

pub insert_is_put : (key : List ℕ) (es : List Cell) (n : ℕ) (v : List ℕ) (at : Bool) → n ≡ place_of key es → at ≡ is_in_front key (drop n es) → at ≡ false
    → take n es ++ (key, v) ∷ drop n es ≡ put bytes_cmp key v es
insert_is_put key es n v at place front none =
    sym (put_in key es n v place ∙ ap (λ (d : List Cell). take n es ++ d) (new_put key (drop n es) v (sym front ∙ none)))

pub sorted_put : (key : List ℕ) (v : List ℕ) (es fs : List Cell) → AreInOrder es → fs ≡ put bytes_cmp key v es → AreInOrder fs
sorted_put key v es fs sorted is =
    subst AreInOrder (sym is) (holds (map.is_sorted bytes_cmp (put bytes_cmp key v es)) (is_sorted-put bytes_cmp nat_list_cmp_total key v es (held (map.is_sorted bytes_cmp es) sorted)))

pub kept_put : (key : List ℕ) (v : List ℕ) (xs : CellMap) (es fs : List Cell) → AreInOrder es → kept es ≡ xs → fs ≡ put bytes_cmp key v es → kept fs ≡ map.insert xs key v
kept_put key v xs es fs sorted is made =
    map.same_entries_map (kept fs) (map.insert xs key v)
    (entries_kept fs (sorted_put key v es fs sorted made) ∙ made ∙ ap (put bytes_cmp key v) (sym (entries_kept es sorted) ∙ ap map.entries is)
    ∙ sym (map.entries-insert nat_list_cmp_total xs key v))

-- ---- and a removal

abbrev others : List ℕ → List Cell → List Cell
others key es = where_key bytes_cmp (λ x. not (eq_by_cmp bytes_cmp key x)) es

-- all but the first
abbrev behind_first : List Cell → List Cell
behind_first es = drop 1 es

own_behind : (key : List ℕ) (es : List Cell) → is_in_front key es ≡ true → less_at bytes_cmp key es ≡ behind_first es
own_behind key [] at = refl
own_behind key (e ∷ es) at = own_less key e es at

drop_one_more : (es : List Cell) (n : ℕ) → behind_first (drop n es) ≡ drop (suc n) es
drop_one_more [] zero = refl
drop_one_more [] (suc n) = refl
drop_one_more (e ∷ es) zero = refl
drop_one_more (e ∷ es) (suc n) = drop_one_more es n

pub remove_is : (key : List ℕ) (es : List Cell) (n : ℕ) (at : Bool) → AreInOrder es → n ≡ place_of key es → at ≡ is_in_front key (drop n es) → at ≡ true
    → take n es ++ drop (suc n) es ≡ others key es
remove_is key es n at sorted place front own =
    sym (removed_there bytes_cmp key nat_list_cmp_total es (held (map.is_sorted bytes_cmp es) sorted) ∙ ap (λ m. take m es ++ less_at bytes_cmp key (drop m es)) (sym place)
    ∙ ap (λ (d : List Cell). take n es ++ d) (own_behind key (drop n es) (sym front ∙ own) ∙ drop_one_more es n))

pub sorted_others : (key : List ℕ) (es fs : List Cell) → AreInOrder es → fs ≡ others key es → AreInOrder fs
sorted_others key es fs sorted is =
    subst AreInOrder (sym is) (holds (map.is_sorted bytes_cmp (others key es)) (is_sorted-where_key bytes_cmp (λ x. not (eq_by_cmp bytes_cmp key x)) es (held (map.is_sorted bytes_cmp es) sorted)))

turned : (b : Bool) (x : Option (List ℕ)) → cond (not b) x None ≡ cond b None x
turned true x = refl
turned false x = refl

get_others : (key q : List ℕ) (es : List Cell) → map.find bytes_cmp q (others key es) ≡ cond (eq_by_cmp bytes_cmp q key) None (map.find bytes_cmp q es)
get_others key q es =
    find-where_key bytes_cmp (λ x. not (eq_by_cmp bytes_cmp key x)) q (λ x t. ap (λ r. not (is_eq r)) (sym (alike_right nat_list_cmp_total q x key t))) es
    ∙ turned (eq_by_cmp bytes_cmp key q) (map.find bytes_cmp q es)
    ∙ ap (λ b. cond b None (map.find bytes_cmp q es)) ((eq_by_cmp_equiv nat_list_cmp_total).symm key q)

pub kept_removed : (key : List ℕ) (xs : CellMap) (es fs : List Cell) → AreInOrder es → kept es ≡ xs → fs ≡ others key es → kept fs ≡ map.remove xs key
kept_removed key xs es fs sorted is made =
    same_cells (kept fs) (map.remove xs key) (λ q.
    map.get-from_sorted bytes_cmp fs q (held (map.is_sorted bytes_cmp fs) (sorted_others key es fs sorted made))
    ∙ ap (map.find bytes_cmp q) made ∙ get_others key q es
    ∙ ap (λ (v : Option (List ℕ)). cond (eq_by_cmp bytes_cmp q key) None v) (sym (map.get-from_sorted bytes_cmp es q (held (map.is_sorted bytes_cmp es) sorted)) ∙ ap (λ (m : CellMap). map.get m q) is)
    ∙ sym (get_removed xs key q))

-- nothing is removed where nothing stands
nothing_at : (key : List ℕ) (xs : CellMap) (q : List ℕ) (same : Bool) → eq_by_cmp bytes_cmp q key ≡ same → map.get xs key ≡ None → map.get xs q ≡ cond same None (map.get xs q)
nothing_at key xs q true t none = ap (map.get xs) (same_key q key t) ∙ none
nothing_at key xs q false t none = refl

pub kept_all : (key : List ℕ) (xs : CellMap) → map.get xs key ≡ None → xs ≡ map.remove xs key
kept_all key xs none = same_cells xs (map.remove xs key) (λ q. nothing_at key xs q (eq_by_cmp bytes_cmp q key) refl none ∙ sym (get_removed xs key q))

-- ---- what is found

find_first : (key : List ℕ) (p : Cell → Bool) (es : List Cell) → ((e : Cell) → p e ≡ eq_by_cmp bytes_cmp key e.0) → option_map (λ (e : Cell). e.1) (first_of_all p es) ≡ map.find bytes_cmp key es
find_first key p [] is = refl
find_first key p (e ∷ es) is =
    ap (λ b. option_map (λ (x : Cell). x.1) (cond b (Some e) (first_of_all p es))) (is e)
    ∙ elim (eq_by_cmp bytes_cmp key e.0) as (λ b. option_map (λ (x : Cell). x.1) (cond b (Some e) (first_of_all p es)) ≡ cond b (Some e.1) (map.find bytes_cmp key es)) [
      | true ↦ refl
      | false ↦ find_first key p es is
    ]

pub found_held : (key : List ℕ) (p : Cell → Bool) (es : List Cell) → AreInOrder es → ((e : Cell) → p e ≡ eq_by_cmp bytes_cmp key e.0)
    → option_map (λ (e : Cell). e.1) (first_of_all p es) ≡ map.get (kept es) key
found_held key p es sorted is =
    find_first key p es is ∙ sym (map.get-from_sorted bytes_cmp es key (held (map.is_sorted bytes_cmp es) sorted))

pub next_held : (place : Option (List ℕ)) (es : List Cell) → AreInOrder es → first_of_all (is_behind place) es ≡ first_of_all (is_behind place) (map.entries (kept es))
next_held place es sorted = ap (λ (v : List Cell). first_of_all (is_behind place) v) (sym (entries_kept es sorted))

pub in_order_none : AreInOrder []
in_order_none = refl

pub first_past : (p : Cell → Bool) (es : List Cell) (n : ℕ) → length es ≤ n → slice_get es n ≡ first_of_all p (drop n es)
first_past p [] zero past = refl
first_past p [] (suc n) past = refl
first_past p (e ∷ es) zero past = absurd (omega (arith, past))
first_past p (e ∷ es) (suc n) past = first_past p es n (omega (arith, past))

pub first_here : (p : Cell → Bool) (es : List Cell) (n : ℕ) (e : Cell) → n < length es → e ≡ slice_index_or es n e → p e ≡ true → slice_get es n ≡ first_of_all p (drop n es)
first_here p [] n e within is passes = absurd (omega (arith, within))
first_here p (x ∷ es) zero e within is passes = ap (λ b. cond b (Some x) (first_of_all p es)) (sym (ap p (sym is) ∙ passes))
first_here p (x ∷ es) (suc n) e within is passes = first_here p es n e (omega (arith, within)) is passes

pub item_at : (es : List Cell) (n : ℕ) (e : Cell) → n < length es → e ≡ slice_index_or es n e → slice_get es n ≡ Some e
item_at [] n e within is = absurd (omega (arith, within))
item_at (x ∷ es) zero e within is = ap Some (sym is)
item_at (x ∷ es) (suc n) e within is = item_at es n e (omega (arith, within)) is

pub none_at : (es : List Cell) (n : ℕ) → length es ≤ n → slice_get es n ≡ None
none_at [] zero past = refl
none_at [] (suc n) past = refl
none_at (x ∷ es) zero past = absurd (omega (arith, past))
none_at (x ∷ es) (suc n) past = none_at es n (omega (arith, past))
