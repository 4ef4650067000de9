-- A tree is good exactly where it has no first fault.
use Rattle.std.proofs.Common.{◌≡◌, ℕ, ◌+◌, ◌-◌, ◌^◌, ◌≤◌, min, Bool, true, false, cond, eqb, nat_lt, List, [], ◌∷◌, ◌++◌, length, refl, sym, ap, subst, ◌∙◌, append-nil, append_assoc, arith, Option, Some, None, Result}
use Rattle.std.specs.Prelude.{◌||◌, ◌&&◌, not, ◌↔◌, IsTrue, IsOk, option_map}
use Rattle.std.specs.List.{AllByRecursion}
use Rattle.std.proofs.lemmas.Bool.Decides.{nat_tests}
use Rattle.std.proofs.lemmas.List.Sums.{sum_by-cons}
use Rattle.off_base.specs.Tree.{Tree, Row, leaf, group, no_more, followed, code_of, row_of, row_length, trees_length}
use Rattle.off_tree.specs.declared.tables.Level.{Level}
use Rattle.off_tree.specs.declared.tables.Level.TheVariants.{Top}
use Rattle.off_tree.specs.declared.tables.Kind.{Kind}
use Rattle.off_tree.specs.declared.tables.Rule.{Rule}
use Rattle.off_tree.specs.declared.tables.Form.{Form}
use Rattle.off_tree.specs.declared.tables.Form.TheVariants.{Leaf, Group}
use Rattle.off_tree.specs.declared.paths.Path.{Path}
use Rattle.off_tree.specs.declared.paths.TreeFault.{TreeFault}
use Rattle.off_tree.specs.declared.paths.TreeFault.TheVariants.{Length, Range, Missing, Twice, UnknownCode, FlowReference, ClassifierReference, TooLong}
use Rattle.off_tree.specs.Place.{below}
use Rattle.off_tree.specs.Table.{table_of, rule_of, level_inside, is_single, is_needed}
use Rattle.off_tree.specs.Value.{in_range}
use Rattle.std.specs.Option.{option_or}
use Rattle.off_tree.specs.Fault.{contains, leaf_broken, leaf_fault, group_broken, group_fault, missing_in, setting_fault, parts_fault, numbers, flow_number, both_directions, classifier_number, named_flow, direction_of, first_repeat, unless, lost_number, lost_flow, first_lost, flow_fault, classifier_fault, too_many, long_setting, long_part, size_limit, length_fault, root, first_fault}
use Rattle.off_tree.specs.Good.{times_in, LeafFits, LeafStands, IsGroup, GroupStands, single_rule, KeepsTimes, row_codes, Stands, EachStands, IsServed, IsShort, EachIsShort, GoodSettings, checked}
use Rattle.off_tree.proofs.ReferenceLemmas.{contains_front, contains_back}

some_none : {X Y : Type 0} (x : X) → Some x ≡ None → Y
some_none x e = cc

or_left : {X : Type 0} (a b : Option X) → option_or a b ≡ None → a ≡ None
or_left None b e = refl
or_left (Some x) b e = some_none x e

or_right : {X : Type 0} (a b : Option X) → option_or a b ≡ None → b ≡ None
or_right None b e = e
or_right (Some x) b e = some_none x e

or_both : {X : Type 0} (a b : Option X) → a ≡ None → b ≡ None → option_or a b ≡ None
or_both None b e f = f
or_both (Some x) b e f = some_none x e

-- ---- one setting

tests_left : (b r : Bool) (l g : TreeFault) → cond b (Some l) (cond r None (Some g)) ≡ None → (b ≡ false) × (r ≡ true)
tests_left true r l g e = some_none l e
tests_left false true l g e = (refl, refl)
tests_left false false l g e = some_none g e

tests_right : (b r : Bool) (l g : TreeFault) → b ≡ false → r ≡ true → cond b (Some l) (cond r None (Some g)) ≡ None
tests_right true r l g b e = cc
tests_right false true l g b e = refl
tests_right false false l g b e = cc

leaf_good : (form : Form) (path : Path) (again : Bool) (value : List ℕ) → leaf_broken form path again value ≡ None → LeafFits form value × (again ≡ false)
leaf_good Group path again value e = some_none (UnknownCode path) e
leaf_good (Leaf shortest longest range) path true value e = some_none (Twice path) e
leaf_good (Leaf shortest longest range) path false value e =
    let both = tests_left (nat_lt (length value) shortest || nat_lt longest (length value)) (in_range range value) (Length path) (Range path) e in
    let out : (nat_lt (length value) shortest || nat_lt longest (length value)) ≡ false = both.0 in
    let low : shortest ≤ length value = grind (arith, nat_tests) in
    let high : length value ≤ longest = grind (arith, nat_tests) in
    ((low, high, both.1), refl)

leaf_none : (form : Form) (path : Path) (again : Bool) (value : List ℕ) → LeafFits form value → again ≡ false → leaf_broken form path again value ≡ None
leaf_none Group path again value fits e = absurd fits
leaf_none (Leaf shortest longest range) path true value fits e = cc
leaf_none (Leaf shortest longest range) path false value fits e =
    let low : shortest ≤ length value = fits.0 in
    let high : length value ≤ longest = fits.1 in
    let out : (nat_lt (length value) shortest || nat_lt longest (length value)) ≡ false = grind (arith, nat_tests) in
    tests_right (nat_lt (length value) shortest || nat_lt longest (length value)) (in_range range value) (Length path) (Range path) out fits.2

leaf_rule_good : (rule : Option Rule) (path : Path) (seen : Bool) (value : List ℕ) → leaf_fault rule path seen value ≡ None → LeafStands rule value × ((seen && single_rule rule) ≡ false)
leaf_rule_good None path seen value e = some_none (UnknownCode path) e
leaf_rule_good (Some rule) path seen value e = leaf_good rule.form path (seen && is_single rule.times) value e

leaf_rule_none : (rule : Option Rule) (path : Path) (seen : Bool) (value : List ℕ) → LeafStands rule value → (seen && single_rule rule) ≡ false → leaf_fault rule path seen value ≡ None
leaf_rule_none None path seen value stands e = absurd stands
leaf_rule_none (Some rule) path seen value stands e = leaf_none rule.form path (seen && is_single rule.times) value stands e

group_good : (form : Form) (path : Path) (again : Bool) → group_broken form path again ≡ None → IsGroup form × (again ≡ false)
group_good (Leaf shortest longest range) path again e = some_none (UnknownCode path) e
group_good Group path true e = some_none (Twice path) e
group_good Group path false e = (tt, refl)

group_none : (form : Form) (path : Path) (again : Bool) → IsGroup form → again ≡ false → group_broken form path again ≡ None
group_none (Leaf shortest longest range) path again is e = absurd is
group_none Group path true is e = cc
group_none Group path false is e = refl

group_rule_good : (rule : Option Rule) (path : Path) (seen : Bool) → group_fault rule path seen ≡ None → GroupStands rule × ((seen && single_rule rule) ≡ false)
group_rule_good None path seen e = some_none (UnknownCode path) e
group_rule_good (Some rule) path seen e = group_good rule.form path (seen && is_single rule.times) e

group_rule_none : (rule : Option Rule) (path : Path) (seen : Bool) → GroupStands rule → (seen && single_rule rule) ≡ false → group_fault rule path seen ≡ None
group_rule_none None path seen stands e = absurd stands
group_rule_none (Some rule) path seen stands e = group_none rule.form path (seen && is_single rule.times) stands e

-- ---- what has to stand

abbrev Needed : List Rule → List ℕ → Type 0
Needed rules codes = AllByRecursion (λ rule. IsTrue (is_needed rule.times) → IsTrue (contains rule.code codes)) rules

need_left : (need there : Bool) (fault : TreeFault) (rest : Option TreeFault) → cond (need && not there) (Some fault) rest ≡ None → (need ≡ true → there ≡ true) × (rest ≡ None)
need_left true true fault rest e = ((λ _. refl), e)
need_left true false fault rest e = some_none fault e
need_left false there fault rest e = ((λ h. cc), e)

need_right : (need there : Bool) (fault : TreeFault) (rest : Option TreeFault) → (need ≡ true → there ≡ true) → rest ≡ None → cond (need && not there) (Some fault) rest ≡ None
need_right true true fault rest h e = e
need_right true false fault rest h e = let bad : false ≡ true = h refl in cc
need_right false there fault rest h e = e

missing_good : (rules : List Rule) (path : Path) (codes : List ℕ) → missing_in rules path codes ≡ None → Needed rules codes
missing_good [] path codes e = tt
missing_good (rule ∷ rules) path codes e =
    let both = need_left (is_needed rule.times) (contains rule.code codes) (Missing (below path rule.code)) (missing_in rules path codes) e in
    (both.0, missing_good rules path codes both.1)

missing_none : (rules : List Rule) (path : Path) (codes : List ℕ) → Needed rules codes → missing_in rules path codes ≡ None
missing_none [] path codes n = refl
missing_none (rule ∷ rules) path codes n =
    need_right (is_needed rule.times) (contains rule.code codes) (Missing (below path rule.code)) (missing_in rules path codes) n.0 (missing_none rules path codes n.1)

-- ---- what stands at most once

abbrev NoneTwice : (ℕ → Bool) → List ℕ → List ℕ → Type 0
NoneTwice p before [] = Unit {0}
NoneTwice p before (n ∷ ns) = ((contains n before && p n) ≡ false) × NoneTwice p (before ++ n ∷ []) ns

pub count-cons : (n m : ℕ) (ns : List ℕ) → times_in n (m ∷ ns) ≡ cond (eqb m n) 1 0 + times_in n ns
count-cons n m ns = sum_by-cons (λ (x : ℕ). cond (eqb x n) 1 0) m ns

contains_self : (n : ℕ) (before : List ℕ) → contains n (before ++ n ∷ []) ≡ true
contains_self n before = contains_back n before (n ∷ []) (grind (arith, nat_tests))

and_true : (a b : Bool) → (a && b) ≡ false → b ≡ true → a ≡ false
and_true true b e h = cc
and_true false b e h = refl

and_false : (a b : Bool) → (b ≡ true → a ≡ false) → (a && b) ≡ false
and_false true true h = h refl
and_false true false h = refl
and_false false b h = refl

once_by : (p : ℕ → Bool) (m : ℕ) (ns before : List ℕ) → NoneTwice p before (m ∷ ns) → (n : ℕ) → p n ≡ true → (b : Bool) → eqb m n ≡ b
    → (contains n (before ++ m ∷ []) ≡ true → times_in n ns ≡ 0) × (times_in n ns ≤ 1) → (contains n before ≡ true → times_in n (m ∷ ns) ≡ 0) × (times_in n (m ∷ ns) ≤ 1)
once_by p m ns before once n is true e rest =
    let same : m ≡ n = grind (arith, nat_tests) in
    let single : p m ≡ true = ap p same ∙ is in
    let fresh : contains m before ≡ false = and_true (contains m before) (p m) once.0 single in
    let there : contains n (before ++ m ∷ []) ≡ true = subst (λ (x : ℕ). contains n (before ++ x ∷ []) ≡ true) (sym same) (contains_self n before) in
    let none : times_in n ns ≡ 0 = rest.0 there in
    let one : times_in n (m ∷ ns) ≡ 1 + times_in n ns = count-cons n m ns ∙ ap (λ (x : Bool). cond x 1 0 + times_in n ns) e in
    ((λ h. let f : contains n before ≡ false = ap (λ (x : ℕ). contains x before) (sym same) ∙ fresh in let bad : true ≡ false = sym h ∙ f in cc), omega arith)
once_by p m ns before once n is false e rest =
    let one : times_in n (m ∷ ns) ≡ 0 + times_in n ns = count-cons n m ns ∙ ap (λ (x : Bool). cond x 1 0 + times_in n ns) e in
    ((λ h. let none : times_in n ns ≡ 0 = rest.0 (contains_front n before (m ∷ []) h) in omega arith), omega (arith, rest.1))

pub once_counted : (p : ℕ → Bool) (ns before : List ℕ) → NoneTwice p before ns → (n : ℕ) → p n ≡ true → (contains n before ≡ true → times_in n ns ≡ 0) × (times_in n ns ≤ 1)
once_counted p [] before once n is = ((λ _. refl), omega arith)
once_counted p (m ∷ ns) before once n is = once_by p m ns before once n is (eqb m n) refl (once_counted p ns (before ++ m ∷ []) once.1 n is)

last_by : (b x y : Bool) → (b || y) ≡ true → (y ≡ true → x ≡ true) → (b || x) ≡ true
last_by true x y h f = refl
last_by false x y h f = f h

-- a number that stands before, or is the last of those, stands there
split_last : (n m : ℕ) (before : List ℕ) → contains n (before ++ m ∷ []) ≡ true → (b : Bool) → contains n before ≡ b → eqb m n ≡ false → b ≡ true
split_last n m [] h b e ne = let bad : false ≡ true = sym (ap (λ (x : Bool). x || false) ne) ∙ h in cc
split_last n m (x ∷ before) h b e ne = sym e ∙ last_by (eqb x n) (contains n before) (contains n (before ++ m ∷ [])) h (λ k. split_last n m before k (contains n before) refl ne)

counted_head : (p : ℕ → Bool) (m : ℕ) (ns before : List ℕ) → (p m ≡ true → (contains m before ≡ true → times_in m (m ∷ ns) ≡ 0)) → (b : Bool) → contains m before ≡ b → p m ≡ true → b ≡ false
counted_head p m ns before h true e is =
    let self : eqb m m ≡ true = grind (arith, nat_tests) in
    let one : times_in m (m ∷ ns) ≡ 1 + times_in m ns = count-cons m m ns ∙ ap (λ (x : Bool). cond x 1 0 + times_in m ns) self in
    let none : times_in m (m ∷ ns) ≡ 0 = h is e in
    absurd (omega arith)
counted_head p m ns before h false e is = refl

counted_tail : (m : ℕ) (ns before : List ℕ) (n : ℕ) → (contains n before ≡ true → times_in n (m ∷ ns) ≡ 0) × (times_in n (m ∷ ns) ≤ 1) → (b : Bool) → eqb m n ≡ b
    → (contains n (before ++ m ∷ []) ≡ true → times_in n ns ≡ 0) × (times_in n ns ≤ 1)
counted_tail m ns before n h true e =
    let one : times_in n (m ∷ ns) ≡ 1 + times_in n ns = count-cons n m ns ∙ ap (λ (x : Bool). cond x 1 0 + times_in n ns) e in
    ((λ _. omega (arith, h.1)), omega (arith, h.1))
counted_tail m ns before n h false e =
    let one : times_in n (m ∷ ns) ≡ 0 + times_in n ns = count-cons n m ns ∙ ap (λ (x : Bool). cond x 1 0 + times_in n ns) e in
    ((λ k. let none : times_in n (m ∷ ns) ≡ 0 = h.0 (split_last n m before k (contains n before) refl e) in omega arith), omega (arith, h.1))

pub counted_once : (p : ℕ → Bool) (ns before : List ℕ) → ((n : ℕ) → p n ≡ true → (contains n before ≡ true → times_in n ns ≡ 0) × (times_in n ns ≤ 1)) → NoneTwice p before ns
counted_once p [] before h = tt
counted_once p (m ∷ ns) before h = (
  and_false (contains m before) (p m) (λ is. counted_head p m ns before (λ k. (h m k).0) (contains m before) refl is),
  counted_once p ns (before ++ m ∷ []) (λ n is. counted_tail m ns before n (h n is) (eqb m n) refl),
)

-- ---- trees

abbrev single_at : Level → ℕ → Bool
single_at level code = single_rule (rule_of level code)

counted_of : (level : Level) (codes : List ℕ) → NoneTwice (single_at level) [] codes → Needed (table_of level) codes → KeepsTimes level codes
counted_of level codes once needed = ((λ code is. (once_counted (single_at level) codes [] once code is).1), needed)

none_twice_of : (level : Level) (codes : List ℕ) → KeepsTimes level codes → NoneTwice (single_at level) [] codes
none_twice_of level codes c = counted_once (single_at level) codes [] (λ n is. ((λ bad. cc), c.0 n is))

mutual
  tree_good : (t : Tree) (level : Level) (path : Path) (codes : List ℕ) → setting_fault level path codes t ≡ None → Stands level t × ((contains (code_of t) codes && single_rule (rule_of level (code_of t))) ≡ false)
  tree_good (leaf code value) level path codes e = leaf_rule_good (rule_of level code) (below path code) (contains code codes) value e
  tree_good (group code parts) level path codes e =
      let own = group_rule_good (rule_of level code) (below path code) (contains code codes) (or_left (group_fault (rule_of level code) (below path code) (contains code codes)) (parts_fault (level_inside level code) (below path code) [] parts) e) in
      let inner = row_good parts (level_inside level code) (below path code) [] (or_right (group_fault (rule_of level code) (below path code) (contains code codes)) (parts_fault (level_inside level code) (below path code) [] parts) e) in
      ((own.0, inner.0, counted_of (level_inside level code) (row_codes parts) inner.1 inner.2), own.1)

  row_good : (r : Row) (level : Level) (path : Path) (codes : List ℕ) → parts_fault level path codes r ≡ None
      → EachStands level r × NoneTwice (single_at level) codes (row_codes r) × Needed (table_of level) (codes ++ row_codes r)
  row_good no_more level path codes e = (tt, tt, subst (Needed (table_of level)) (sym (append-nil codes)) (missing_good (table_of level) path codes e))
  row_good (followed t r) level path codes e =
      let one = tree_good t level path codes (or_left (setting_fault level path codes t) (parts_fault level path (codes ++ code_of t ∷ []) r) e) in
      let rest = row_good r level path (codes ++ code_of t ∷ []) (or_right (setting_fault level path codes t) (parts_fault level path (codes ++ code_of t ∷ []) r) e) in
      ((one.0, rest.0), (one.1, rest.1), subst (Needed (table_of level)) (append_assoc codes (code_of t ∷ []) (row_codes r)) rest.2)

mutual
  tree_none : (t : Tree) (level : Level) (path : Path) (codes : List ℕ) → Stands level t → (contains (code_of t) codes && single_rule (rule_of level (code_of t))) ≡ false → setting_fault level path codes t ≡ None
  tree_none (leaf code value) level path codes stands once = leaf_rule_none (rule_of level code) (below path code) (contains code codes) value stands once
  tree_none (group code parts) level path codes stands once =
      or_both (group_fault (rule_of level code) (below path code) (contains code codes)) (parts_fault (level_inside level code) (below path code) [] parts)
      (group_rule_none (rule_of level code) (below path code) (contains code codes) stands.0 once)
      (row_none parts (level_inside level code) (below path code) [] stands.1 (none_twice_of (level_inside level code) (row_codes parts) stands.2) stands.2.1)

  row_none : (r : Row) (level : Level) (path : Path) (codes : List ℕ) → EachStands level r → NoneTwice (single_at level) codes (row_codes r) → Needed (table_of level) (codes ++ row_codes r)
      → parts_fault level path codes r ≡ None
  row_none no_more level path codes stands once needed = missing_none (table_of level) path codes (subst (Needed (table_of level)) (append-nil codes) needed)
  row_none (followed t r) level path codes stands once needed =
      or_both (setting_fault level path codes t) (parts_fault level path (codes ++ code_of t ∷ []) r)
      (tree_none t level path codes stands.0 once.0)
      (row_none r level path (codes ++ code_of t ∷ []) stands.1 once.1 (subst (Needed (table_of level)) (sym (append_assoc codes (code_of t ∷ []) (row_codes r))) needed))

-- ---- references

abbrev all_true : ℕ → Bool
all_true n = true

repeat_left : (b : Bool) (n : ℕ) (rest : Option ℕ) → cond b (Some n) rest ≡ None → (b ≡ false) × (rest ≡ None)
repeat_left true n rest e = some_none n e
repeat_left false n rest e = (refl, e)

repeat_right : (b : Bool) (n : ℕ) (rest : Option ℕ) → b ≡ false → rest ≡ None → cond b (Some n) rest ≡ None
repeat_right true n rest b e = cc
repeat_right false n rest b e = e

distinct_good : (ns before : List ℕ) → first_repeat before ns ≡ None → NoneTwice all_true before ns
distinct_good [] before e = tt
distinct_good (n ∷ ns) before e =
    let both = repeat_left (contains n before) n (first_repeat (before ++ n ∷ []) ns) e in
    (and_false (contains n before) true (λ _. both.0), distinct_good ns (before ++ n ∷ []) both.1)

distinct_none : (ns before : List ℕ) → NoneTwice all_true before ns → first_repeat before ns ≡ None
distinct_none [] before once = refl
distinct_none (n ∷ ns) before once =
    repeat_right (contains n before) n (first_repeat (before ++ n ∷ []) ns) (and_true (contains n before) true once.0 refl) (distinct_none ns (before ++ n ∷ []) once.1)

differ_good : (ns : List ℕ) → first_repeat [] ns ≡ None → (n : ℕ) → times_in n ns ≤ 1
differ_good ns e n = (once_counted all_true ns [] (distinct_good ns [] e) n refl).1

differ_none : (ns : List ℕ) → ((n : ℕ) → times_in n ns ≤ 1) → first_repeat [] ns ≡ None
differ_none ns h = distinct_none ns [] (counted_once all_true ns [] (λ n is. ((λ bad. cc), h n)))

unless_good : (b : Bool) (m : ℕ) → unless b (Some m) ≡ None → b ≡ true
unless_good true m e = refl
unless_good false m e = some_none m e

unless_none : (b : Bool) (o : Option ℕ) → b ≡ true → unless b o ≡ None
unless_none true o e = refl
unless_none false o e = cc

lost_good : (flows : List ℕ) (o : Option ℕ) → lost_number flows o ≡ None → (n : ℕ) → o ≡ Some n → contains n flows ≡ true
lost_good flows None e n is = cc
lost_good flows (Some m) e n is = let same : m ≡ n = cc in subst (λ (x : ℕ). contains x flows ≡ true) same (unless_good (contains m flows) m e)

lost_none : (flows : List ℕ) (o : Option ℕ) → ((n : ℕ) → o ≡ Some n → contains n flows ≡ true) → lost_number flows o ≡ None
lost_none flows None h = refl
lost_none flows (Some m) h = unless_none (contains m flows) (Some m) (h m refl)

served_good : (all ts : List Tree) → first_lost all ts ≡ None → AllByRecursion (IsServed all) ts
served_good all [] e = tt
served_good all (t ∷ ts) e =
    (lost_good (numbers (flow_number (direction_of (code_of t) ∷ [])) all) (named_flow t) (or_left (lost_flow all t) (first_lost all ts) e), served_good all ts (or_right (lost_flow all t) (first_lost all ts) e))

served_none : (all ts : List Tree) → AllByRecursion (IsServed all) ts → first_lost all ts ≡ None
served_none all [] h = refl
served_none all (t ∷ ts) h =
    or_both (lost_flow all t) (first_lost all ts) (lost_none (numbers (flow_number (direction_of (code_of t) ∷ [])) all) (named_flow t) h.0) (served_none all ts h.1)

-- ---- lengths

many_good : (most n : ℕ) → too_many most n ≡ None → n ≤ most
many_good most n e = let both = repeat_left (nat_lt most n) n None e in let few : nat_lt most n ≡ false = both.0 in grind (arith, nat_tests)

many_none : (most n : ℕ) → n ≤ most → too_many most n ≡ None
many_none most n h = let few : nat_lt most n ≡ false = grind (arith, nat_tests) in repeat_right (nat_lt most n) n None few refl

mutual
  short_tree : (t : Tree) → long_setting t ≡ None → IsShort t
  short_tree (leaf code value) e = many_good 254 (length value) e
  short_tree (group code parts) e = (many_good 254 (row_length parts) (or_left (too_many 254 (row_length parts)) (long_part parts) e), short_row parts (or_right (too_many 254 (row_length parts)) (long_part parts) e))

  short_row : (r : Row) → long_part r ≡ None → EachIsShort r
  short_row no_more e = tt
  short_row (followed t r) e = (short_tree t (or_left (long_setting t) (long_part r) e), short_row r (or_right (long_setting t) (long_part r) e))

mutual
  tree_short : (t : Tree) → IsShort t → long_setting t ≡ None
  tree_short (leaf code value) h = many_none 254 (length value) h
  tree_short (group code parts) h = or_both (too_many 254 (row_length parts)) (long_part parts) (many_none 254 (row_length parts) h.0) (row_short parts h.1)

  row_short : (r : Row) → EachIsShort r → long_part r ≡ None
  row_short no_more h = refl
  row_short (followed t r) h = or_both (long_setting t) (long_part r) (tree_short t h.0) (row_short r h.1)

-- ---- the whole

pub not_mapped : {X Y : Type 0} (f : X → Y) (o : Option X) → option_map f o ≡ None → o ≡ None
not_mapped f None e = refl
not_mapped f (Some x) e = some_none (f x) e

map_none : {X Y : Type 0} (f : X → Y) (o : Option X) → o ≡ None → option_map f o ≡ None
map_none f None e = refl
map_none f (Some x) e = some_none x e

module _ (kind : Kind) (trees : List Tree) where
  pub no_fault_good : first_fault kind trees ≡ None → GoodSettings kind trees
  no_fault_good e =
      let rest = or_right (parts_fault (Top kind) root [] (row_of trees)) (option_or (flow_fault trees) (option_or (classifier_fault trees) (length_fault kind trees))) e in
      let shapes = row_good (row_of trees) (Top kind) root [] (or_left (parts_fault (Top kind) root [] (row_of trees)) (option_or (flow_fault trees) (option_or (classifier_fault trees) (length_fault kind trees))) e) in
      let flows = not_mapped FlowReference (option_or (first_repeat [] (numbers (flow_number both_directions) trees)) (first_lost trees trees))
      (or_left (flow_fault trees) (option_or (classifier_fault trees) (length_fault kind trees)) rest) in
      let rest2 = or_right (flow_fault trees) (option_or (classifier_fault trees) (length_fault kind trees)) rest in
      let classifiers = not_mapped ClassifierReference (first_repeat [] (numbers classifier_number trees)) (or_left (classifier_fault trees) (length_fault kind trees) rest2) in
      let lengths = not_mapped (λ (n : ℕ). TooLong (min n (2 ^ 32 - 1))) (option_or (long_part (row_of trees)) (too_many (size_limit kind) (trees_length trees)))
      (or_right (classifier_fault trees) (length_fault kind trees) rest2) in
      record {
        stand = shapes.0;
        counted = counted_of (Top kind) (row_codes (row_of trees)) shapes.1 shapes.2;
        flows = differ_good (numbers (flow_number both_directions) trees) (or_left (first_repeat [] (numbers (flow_number both_directions) trees)) (first_lost trees trees) flows);
        served = served_good trees trees (or_right (first_repeat [] (numbers (flow_number both_directions) trees)) (first_lost trees trees) flows);
        classifiers = differ_good (numbers classifier_number trees) classifiers;
        short = short_row (row_of trees) (or_left (long_part (row_of trees)) (too_many (size_limit kind) (trees_length trees)) lengths);
        whole = many_good (size_limit kind) (trees_length trees) (or_right (long_part (row_of trees)) (too_many (size_limit kind) (trees_length trees)) lengths);
      }

  pub good_no_fault : GoodSettings kind trees → first_fault kind trees ≡ None
  good_no_fault g =
      or_both (parts_fault (Top kind) root [] (row_of trees)) (option_or (flow_fault trees) (option_or (classifier_fault trees) (length_fault kind trees)))
      (row_none (row_of trees) (Top kind) root [] g.stand (none_twice_of (Top kind) (row_codes (row_of trees)) g.counted) g.counted.1)
      (or_both (flow_fault trees) (option_or (classifier_fault trees) (length_fault kind trees))
      (map_none FlowReference (option_or (first_repeat [] (numbers (flow_number both_directions) trees)) (first_lost trees trees))
      (or_both (first_repeat [] (numbers (flow_number both_directions) trees)) (first_lost trees trees) (differ_none (numbers (flow_number both_directions) trees) g.flows) (served_none trees trees g.served)))
      (or_both (classifier_fault trees) (length_fault kind trees)
      (map_none ClassifierReference (first_repeat [] (numbers classifier_number trees)) (differ_none (numbers classifier_number trees) g.classifiers))
      (map_none (λ (n : ℕ). TooLong (min n (2 ^ 32 - 1))) (option_or (long_part (row_of trees)) (too_many (size_limit kind) (trees_length trees)))
      (or_both (long_part (row_of trees)) (too_many (size_limit kind) (trees_length trees)) (row_short (row_of trees) g.short) (many_none (size_limit kind) (trees_length trees) g.whole)))))

checked_good : (o : Option TreeFault) → IsOk (checked o) → o ≡ None
checked_good None is = refl
checked_good (Some fault) is = cc

checked_ok : (o : Option TreeFault) → o ≡ None → IsOk (checked o)
checked_ok None e = refl
checked_ok (Some fault) e = some_none fault e

pub answer_good : (kind : Kind) (trees : List Tree) (answer : Result (Unit {0}) TreeFault) → answer ≡ checked (first_fault kind trees) → IsOk answer ↔ GoodSettings kind trees
answer_good kind trees answer is = (
  (λ ok. no_fault_good kind trees (checked_good (first_fault kind trees) (subst IsOk is ok))),
  (λ good. subst IsOk (sym is) (checked_ok (first_fault kind trees) (good_no_fault kind trees good))),
)
