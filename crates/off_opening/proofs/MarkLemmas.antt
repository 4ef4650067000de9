-- The marks of a walk, and what is found among them.
use Rattle.std.proofs.Common.{◌≡◌, ℕ, ◌<◌, ◌≤◌, ◌+◌, false, ◌⊎◌, inl, inr, Option, Some, None, List, [], ◌∷◌, ◌++◌, map, length, length-append, refl, sym, ap, subst, ◌∙◌, arith}
use Rattle.std.proofs.lemmas.List.{get_or-map, length-map}
use Rattle.std.proofs.lemmas.Bool.{cases_lt}
use Rattle.std.specs.Option.{option_map}
use Rattle.std.specs.List.{filter_map}
use Rattle.std.specs.Prelude.{slice_index_or}
use Rattle.std.specs.List.Sorted.{IsPartitionPoint, IsNonDecreasingBy}
use Rattle.std.specs.Ordering.{ordering_index, eq_by_cmp}
use Rattle.std.specs.declared.cmp.Ordering.{Ordering}
use Rattle.std.specs.declared.cmp.Ordering.TheVariants.{Less, Equal, Greater}
use Rattle.std.specs.FinMap as map_of
use Rattle.std.specs.FinMap.Entries as list
use Rattle.off_defs.specs.declared.keys.Key.{Key}
use Rattle.off_defs.specs.declared.keys.Key.TheVariants as key
use Rattle.off_defs.specs.declared.tables.Row.{Row}
use Rattle.off_defs.specs.declared.tables.Row.TheVariants as row
use Rattle.off_defs.specs.Keys.{key_cmp}
use Rattle.off_defs.specs.State.{Tables}
use Rattle.off_defs.specs.Tables.{row_at}
use Rattle.off_defs.proofs.KeyLemmas.{key_total, key_exact}
use Rattle.off_outside.specs.KeeperSeen.{KeeperSeen}
use Rattle.off_outside.specs.KeeperCalls.{Reads, Spent, WasCounted, WalksOnce}
use Rattle.off_outside.proofs.KeeperLemmas.{reads_none, spent_one, spent_then, spent_within}
use Rattle.off_readers.proofs.GatherLemmas.{Gathered}
use Rattle.off_readers.proofs.WalkLemmas.{left_of}
use Rattle.off_readers.proofs.StepLemmas.{all_left}
use Rattle.off_opening.specs.declared.marks.Mark.{Mark}
use Rattle.off_opening.specs.Marks.{tie_of, mark_of, marks_of}
use Rattle.off_opening.proofs.OrderLemmas.{indexes_rise, among_at, row_of, none_of, place_of, not_equal}

-- ---- the walk

-- each entry gives its mark
abbrev pub give_mark : Key × Row → Option Mark
give_mark entry = Some (mark_of entry)

each_given : (es : List (Key × Row)) → filter_map give_mark es ≡ map mark_of es
each_given [] = refl
each_given (e ∷ es) = ap (λ (v : List Mark). mark_of e ∷ v) (each_given es)

pub no_marks_yet : (found : List Mark) (a : KeeperSeen) → found ≡ [] → Reads (Gathered give_mark marks_of found None) a a
no_marks_yet found a none = reads_none (λ t.
    sym (ap (λ (v : List Mark). v ++ left_of give_mark None t) none
    ∙ ap (λ (v : List (Key × Row)). filter_map give_mark v) (all_left (map_of.entries t))
    ∙ each_given (map_of.entries t)))

-- ---- what the walk asks

pub no_calls_yet : (found : List Mark) (a : KeeperSeen) → found ≡ [] → Spent (length found) a a
no_calls_yet found a none = record { later = omega arith; most = omega arith }

-- each row that was read was one call
pub one_mark_more : (found more : List Mark) (mark : Mark) {a b c : KeeperSeen} → Spent (length found) a b → WasCounted b c → more ≡ found ++ mark ∷ []
    → Spent (length more) a c
one_mark_more found more mark {a} {b} {c} so_far one is =
    subst (λ (n : ℕ). Spent n a c) (sym (ap (λ (v : List Mark). length v) is ∙ length-append found (mark ∷ []))) (spent_then so_far (spent_one one))

-- there are as many rows as there are marks, and more
few_found : (found : List Mark) (place : Option Key) (t : Tables) → Gathered give_mark marks_of found place t → length found ≤ map_of.len t
few_found found place t gathered =
    let all : length (marks_of t) ≡ length found + length (left_of give_mark place t) =
    ap (λ (v : List Mark). length v) gathered ∙ length-append found (left_of give_mark place t) in
    omega (arith, all, length-map (map_of.entries t) mark_of, map_of.len-entries t)

pub walk_asks : (found : List Mark) (place : Option Key) {a b c : KeeperSeen} → Reads (Gathered give_mark marks_of found place) a b → Spent (length found) a b
    → WasCounted b c → WalksOnce a c
walk_asks found place read so_far one t told =
    spent_within (spent_then so_far (spent_one one)) (let few = few_found found place t (read.tables t told).1 in omega (arith, few))

-- ---- what is found

abbrev entries_of : Tables → List (Key × Row)
entries_of t = map_of.entries t

-- what stands in for an entry past the end
abbrev pub no_entry : Key × Row
no_entry = (key.Site, row.Held (record { 0 = 0 }))

abbrev pub entry_at : Tables → ℕ → Key × Row
entry_at t i = slice_index_or (entries_of t) i no_entry

pub as_many : (t : Tables) → length (marks_of t) ≡ length (map_of.entries t)
as_many t = length-map (entries_of t) mark_of

pub mark_at : (t : Tables) (i : ℕ) (d : Mark) → i < length (marks_of t) → slice_index_or (marks_of t) i d ≡ mark_of (entry_at t i)
mark_at t i d within = get_or-map mark_of (entries_of t) i no_entry d (omega (arith, as_many t, within))

marks_rise : (t : Tables) (key : Key) → IsNonDecreasingBy (λ (m : Mark). ordering_index (key_cmp m.key key)) (marks_of t)
marks_rise t key i j d below within =
    let before : i < length (marks_of t) = omega (arith, below, within) in
    let es_within : j < length (entries_of t) = omega (arith, as_many t, within) in
    let rise = indexes_rise key_cmp key_total (entries_of t) i j no_entry key (map_of.entries_sorted t) below es_within in
    subst (λ (m : Mark). ordering_index (key_cmp m.key key) ≤ ordering_index (key_cmp (slice_index_or (marks_of t) j d).key key)) (sym (mark_at t i d before))
    (subst (λ (m : Mark). ordering_index (key_cmp (entry_at t i).0 key) ≤ ordering_index (key_cmp m.key key)) (sym (mark_at t j d within)) rise)

found_in : (t : Tables) (key : Key) (i : ℕ) (d : Mark) → i < length (marks_of t) → key_cmp (slice_index_or (marks_of t) i d).key key ≡ Equal
    → Some (slice_index_or (marks_of t) i d).tie ≡ option_map tie_of (row_at t key)
found_in t key i d within equal =
    let is : slice_index_or (marks_of t) i d ≡ mark_of (entry_at t i) = mark_at t i d within in
    let same : (entry_at t i).0 ≡ key = key_exact (entry_at t i).0 key (subst (λ (m : Mark). key_cmp m.key key ≡ Equal) is equal) in
    let among = among_at key_cmp key_total (entries_of t) i no_entry (omega (arith, as_many t, within)) in
    let own = row_of key_cmp key_total (entry_at t i) (entries_of t) (map_of.entries_sorted t) among in
    let row : row_at t key ≡ Some (entry_at t i).1 = map_of.get-entries t key ∙ subst (λ (k : Key). list.find key_cmp k (entries_of t) ≡ Some (entry_at t i).1) same own in
    ap (λ (m : Mark). Some m.tie) is ∙ sym (ap (λ (v : Option Row). option_map tie_of v) row)

pub found_tie : (t : Tables) (marks : List Mark) (key : Key) (i : ℕ) (d : Mark) → marks ≡ marks_of t → i < length marks → key_cmp (slice_index_or marks i d).key key ≡ Equal
    → Some (slice_index_or marks i d).tie ≡ option_map tie_of (row_at t key)
found_tie t marks key i d are within equal =
    subst (λ (v : List Mark). i < length v → key_cmp (slice_index_or v i d).key key ≡ Equal → Some (slice_index_or v i d).tie ≡ option_map tie_of (row_at t key))
    (sym are) (found_in t key i d) within equal

-- the same by the order of the code, which is this one
pub found_by : {R : Key → Key → Ordering} → R ≡ key_cmp → (t : Tables) (marks : List Mark) (key : Key) (i : ℕ) (d : Mark) → marks ≡ marks_of t → i < length marks
    → R (slice_index_or marks i d).key key ≡ Equal → Some (slice_index_or marks i d).tie ≡ option_map tie_of (row_at t key)
found_by is t marks key i d are within equal =
    found_tie t marks key i d are within (subst (λ (r : Key → Key → Ordering). r (slice_index_or marks i d).key key ≡ Equal) is equal)

abbrev pub PartedBy : (Key → Key → Ordering) → List Mark → Key → ℕ → Type 0
PartedBy R marks key i = IsNonDecreasingBy (λ (m : Mark). ordering_index (R m.key key)) marks
    → IsPartitionPoint (λ (m : Mark). R m.key key ≡ Less) (λ (m : Mark). R m.key key ≡ Greater) marks i

abbrev pub Parted : List Mark → Key → ℕ → Type 0
Parted marks key i = PartedBy key_cmp marks key i

apart_at : (t : Tables) (key : Key) (i j : ℕ) → Parted (marks_of t) key i → j < length (marks_of t) → (key_cmp (entry_at t j).0 key ≡ Less) ⊎ (key_cmp (entry_at t j).0 key ≡ Greater)
apart_at t key i j parted within =
    let d = mark_of no_entry in
    let is : slice_index_or (marks_of t) j d ≡ mark_of (entry_at t j) = mark_at t j d within in
    let sides = parted (marks_rise t key) in
    elim (cases_lt j i) [
      | inl less ↦ inl (subst (λ (m : Mark). key_cmp m.key key ≡ Less) is (sides.0 j d (omega arith) less))
      | inr not ↦ inr (subst (λ (m : Mark). key_cmp m.key key ≡ Greater) is (sides.1 j d not within))
    ]

none_in : (t : Tables) (key : Key) (i : ℕ) → Parted (marks_of t) key i → None ≡ option_map tie_of (row_at t key)
none_in t key i parted =
    let none : list.find key_cmp key (entries_of t) ≡ None = none_of key_cmp key_total key (entries_of t) (λ e among.
    let p = place_of key_cmp key_total e (entries_of t) no_entry among in
    subst (λ (v : Key × Row). eq_by_cmp key_cmp key v.0 ≡ false) p.2
    (not_equal key_cmp key_total (entry_at t p.0).0 key (apart_at t key i p.0 parted (omega (arith, as_many t, p.1))))) in
    sym (ap (λ (v : Option Row). option_map tie_of v) (map_of.get-entries t key ∙ none))

pub no_tie : (t : Tables) (marks : List Mark) (key : Key) (i : ℕ) → marks ≡ marks_of t → Parted marks key i → None ≡ option_map tie_of (row_at t key)
no_tie t marks key i are parted = none_in t key i (subst (λ (v : List Mark). Parted v key i) are parted)

pub none_by : {R : Key → Key → Ordering} → R ≡ key_cmp → (t : Tables) (marks : List Mark) (key : Key) (i : ℕ) → marks ≡ marks_of t → PartedBy R marks key i
    → None ≡ option_map tie_of (row_at t key)
none_by is t marks key i are parted = no_tie t marks key i are (subst (λ (r : Key → Key → Ordering). PartedBy r marks key i) is parted)
