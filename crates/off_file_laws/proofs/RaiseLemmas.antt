-- References of add-ons, as they stand and raised.
use Rattle.std.proofs.Common.{◌≡◌, ℕ, ◌+◌, ◌*◌, ◌/◌, ◌%◌, ◌<◌, ◌≤◌, Bool, true, false, cond, eqb, List, [], ◌∷◌, refl, sym, ap, subst, ◌∙◌, arith, Option, Some, None}
use Rattle.std.specs.Prelude.{option_map, nat_le, IsTrue, ◌&&◌}
use Rattle.std.specs.List.{AllByRecursion}
use Rattle.std.proofs.lemmas.Bool.Decides.{nat_tests}
use Rattle.std.proofs.lemmas.Bool.{eqb-true}
use Rattle.off_base.specs.Tree.{Tree, Row, leaf, group, no_more, followed, code_of, row_items}
use Rattle.off_tree.specs.declared.tables.Level.{Level}
use Rattle.off_tree.specs.declared.tables.Level.TheVariants.{Top, Classifier, UpstreamFlow, DownstreamFlow}
use Rattle.off_tree.specs.declared.tables.Kind.{Kind}
use Rattle.off_tree.specs.declared.tables.Kind.TheVariants.{Class, AddOn}
use Rattle.off_tree.specs.declared.tables.Rule.{Rule}
use Rattle.off_tree.specs.declared.tables.Form.TheVariants.{Leaf}
use Rattle.off_tree.specs.declared.tables.Range.TheVariants.{Number}
use Rattle.off_tree.specs.Table.{table_of, rule_of, rule_with, or_other, level_inside}
use Rattle.std.specs.Option.{option_or}
use Rattle.off_tree.specs.Fault.{contains, value_in, pair, single, flow_number, both_directions, is_classifier, classifier_number, named_flow}
use Rattle.off_tree.specs.Good.{LeafFits, LeafStands, IsGroup, GroupStands, Stands, EachStands}
use Rattle.off_file_rules.specs.Profile.{raised_pair, raised_single, flow_rise, classifier_rise, raised_value, raised_parts, raised}
use Rattle.off_file_laws.proofs.CountLemmas.{Between}

-- ---- a group's code is one of its table

group_line : (code : ℕ) (rule : Rule) (rules : List Rule) (P : ℕ → Type 0) (b : Bool) → eqb rule.code code ≡ b → GroupStands (or_other (cond b (Some rule) (rule_with code rules)) None)
    → (IsGroup rule.form → P rule.code) → (GroupStands (or_other (rule_with code rules) None) → P code) → P code
group_line code rule rules P true e g here more = subst P (eqb-true rule.code code e) (here g)
group_line code rule rules P false e g here more = more g

pub group_code : (code : ℕ) (rules : List Rule) (P : ℕ → Type 0) → GroupStands (or_other (rule_with code rules) None) → AllByRecursion (λ rule. IsGroup rule.form → P rule.code) rules → P code
group_code code [] P g all = absurd g
group_code code (rule ∷ rules) P g all = group_line code rule rules P (eqb rule.code code) refl g all.0 (λ rest. group_code code rules P rest all.1)

pub class_group : (code : ℕ) (P : ℕ → Type 0) → GroupStands (rule_of (Top Class) code) → P 22 → P 23 → P 24 → P 25 → P 43 → P code
unfolding table_of
class_group code P g a b c d e =
    group_code code (table_of (Top Class)) P g ((λ h. absurd h), ((λ h. absurd h), ((λ h. a), ((λ h. b), ((λ h. c), ((λ h. d), ((λ h. absurd h), ((λ h. absurd h), ((λ h. e), tt)))))))))

pub add_on_group : (code : ℕ) (P : ℕ → Type 0) → GroupStands (rule_of (Top AddOn) code) → P 22 → P 23 → P 24 → P 25 → P 43 → P code
unfolding table_of
add_on_group code P g a b c d e = group_code code (table_of (Top AddOn)) P g ((λ h. a), ((λ h. b), ((λ h. c), ((λ h. d), ((λ h. e), tt)))))

-- ---- the value of a part

found_here : (level : Level) (c p : ℕ) (v value : List ℕ) (rest : Option (List ℕ)) (b : Bool) → eqb p c ≡ b → LeafStands (rule_of level p) v
    → (rest ≡ Some value → LeafStands (rule_of level c) value) → option_or (cond b (Some v) None) rest ≡ Some value → LeafStands (rule_of level c) value
found_here level c p v value rest true is stands more e =
    let same : v ≡ value = cc in
    subst (λ (x : ℕ). LeafStands (rule_of level x) value) (eqb-true p c is) (subst (λ (x : List ℕ). LeafStands (rule_of level p) x) same stands)
found_here level c p v value rest false is stands more e = more e

-- what is found of a code among good parts is good there
stands_value : (level : Level) (c : ℕ) (parts : Row) (value : List ℕ) → EachStands level parts → value_in c (row_items parts) ≡ Some value → LeafStands (rule_of level c) value
stands_value level c no_more value stands e = cc
stands_value level c (followed (leaf p v) parts) value stands e =
    found_here level c p v value (value_in c (row_items parts)) (eqb p c) refl stands.0 (λ found. stands_value level c parts value stands.1 found) e
stands_value level c (followed (group p q) parts) value stands e = stands_value level c parts value stands.1 e

raised_here : (k code c p : ℕ) (v : List ℕ) (rest raised_rest : Option (List ℕ)) (b : Bool) → eqb p c ≡ b → raised_rest ≡ option_map (raised_value k code c) rest
    → option_or (cond b (Some (raised_value k code p v)) None) raised_rest ≡ option_map (raised_value k code c) (option_or (cond b (Some v) None) rest)
raised_here k code c p v rest raised_rest true is e = ap (λ (x : ℕ). Some (raised_value k code x v)) (eqb-true p c is)
raised_here k code c p v rest raised_rest false is e = e

value_raised : (k code c : ℕ) (parts : Row) → value_in c (row_items (raised_parts k code parts)) ≡ option_map (raised_value k code c) (value_in c (row_items parts))
value_raised k code c no_more = refl
value_raised k code c (followed (leaf p v) parts) =
    raised_here k code c p v (value_in c (row_items parts)) (value_in c (row_items (raised_parts k code parts))) (eqb p c) refl (value_raised k code c parts)
value_raised k code c (followed (group p q) parts) = value_raised k code c parts

-- ---- references of two bytes

abbrev IsReference : List ℕ → Type 0
IsReference value = LeafFits (Leaf 2 2 (Number 1 255)) value

bounds : (least most n : ℕ) → IsTrue (nat_le least n && nat_le n most) → (least ≤ n) × (n ≤ most)
bounds least most n t = grind (arith, nat_tests)

pair_between : (value : List ℕ) → IsReference value → Between 1 256 (pair (Some value))
pair_between [] is = absurd (omega (arith, is.0))
pair_between (a ∷ []) is = absurd (omega (arith, is.0))
pair_between (a ∷ b ∷ []) is = let h = bounds 1 255 (a * 256 + b) is.2 in (h.0, omega (arith, h.1))
pair_between (a ∷ b ∷ c ∷ more) is = absurd (omega (arith, is.1))

two_bytes_read : (n : ℕ) → n < 65536 → n / 256 % 256 * 256 + n % 256 ≡ n
two_bytes_read n lt = omega arith

pair_raised : (k : ℕ) (value : List ℕ) → k < 8 → IsReference value → pair (Some (raised_pair (flow_rise k) value)) ≡ option_map (λ (n : ℕ). n + flow_rise k) (pair (Some value))
pair_raised k [] small is = absurd (omega (arith, is.0))
pair_raised k (a ∷ []) small is = absurd (omega (arith, is.0))
pair_raised k (a ∷ b ∷ []) small is =
    let h = bounds 1 255 (a * 256 + b) is.2 in
    ap Some (two_bytes_read (a * 256 + b + flow_rise k) (omega (arith, h.1)))
pair_raised k (a ∷ b ∷ c ∷ more) small is = absurd (omega (arith, is.1))

-- ---- references of one byte

single_between : (low high : ℕ) (value : List ℕ) → LeafFits (Leaf 1 1 (Number low high)) value → Between low (high + 1) (single (Some value))
single_between low high [] is = absurd (omega (arith, is.0))
single_between low high (a ∷ []) is = let h = bounds low high a is.2 in (h.0, omega (arith, h.1))
single_between low high (a ∷ b ∷ more) is = absurd (omega (arith, is.1))

single_raised : (k : ℕ) (value : List ℕ) → k < 8 → LeafFits (Leaf 1 1 (Number 0 15)) value
    → single (Some (raised_single (classifier_rise k) value)) ≡ option_map (λ (n : ℕ). n + classifier_rise k) (single (Some value))
single_raised k [] small is = absurd (omega (arith, is.0))
single_raised k (a ∷ []) small is =
    let h = bounds 0 15 a is.2 in
    let e : (a + classifier_rise k) % 256 ≡ a + classifier_rise k = omega (arith, h.1) in
    ap Some e
single_raised k (a ∷ b ∷ more) small is = absurd (omega (arith, is.1))

-- ---- of parts that are good

module _ (read : Option (List ℕ) → Option ℕ) (none : read None ≡ None) (Is : List ℕ → Type 0) where
  between_by : (low high : ℕ) (o : Option (List ℕ)) → ((v : List ℕ) → Is v → Between low high (read (Some v))) → ((v : List ℕ) → o ≡ Some v → Is v) → Between low high (read o)
  between_by low high None good is = subst (Between low high) (sym none) tt
  between_by low high (Some v) good is = good v (is v refl)

  raised_by : (rise : List ℕ → List ℕ) (by : ℕ) (o : Option (List ℕ)) → ((v : List ℕ) → Is v → read (Some (rise v)) ≡ option_map (λ (n : ℕ). n + by) (read (Some v)))
      → ((v : List ℕ) → o ≡ Some v → Is v) → read (option_map rise o) ≡ option_map (λ (n : ℕ). n + by) (read o)
  raised_by rise by None good is = none ∙ ap (option_map (λ (n : ℕ). n + by)) (sym none)
  raised_by rise by (Some v) good is = good v (is v refl)

flow_part : (level : Level) (c : ℕ) (parts : Row) → ((v : List ℕ) → LeafStands (rule_of level c) v → IsReference v) → EachStands level parts
    → Between 1 256 (pair (value_in c (row_items parts)))
flow_part level c parts rule stands = between_by pair refl IsReference 1 256 (value_in c (row_items parts)) pair_between (λ v e. rule v (stands_value level c parts v stands e))

flow_part_raised : (level : Level) (k code c : ℕ) (parts : Row) → k < 8 → ((v : List ℕ) → raised_value k code c v ≡ raised_pair (flow_rise k) v)
    → ((v : List ℕ) → LeafStands (rule_of level c) v → IsReference v) → EachStands level parts
    → pair (value_in c (row_items (raised_parts k code parts))) ≡ option_map (λ (n : ℕ). n + flow_rise k) (pair (value_in c (row_items parts)))
flow_part_raised level k code c parts small opens rule stands =
    ap pair (value_raised k code c parts)
    ∙ raised_by pair refl IsReference (raised_value k code c) (flow_rise k) (value_in c (row_items parts)) (λ v is. ap (λ (x : List ℕ). pair (Some x)) (opens v) ∙ pair_raised k v small is)
    (λ v e. rule v (stands_value level c parts v stands e))

single_part_raised : (level : Level) (k code : ℕ) (parts : Row) → k < 8 → ((v : List ℕ) → raised_value k code 1 v ≡ raised_single (classifier_rise k) v)
    → ((v : List ℕ) → LeafStands (rule_of level 1) v → LeafFits (Leaf 1 1 (Number 0 15)) v) → EachStands level parts
    → single (value_in 1 (row_items (raised_parts k code parts))) ≡ option_map (λ (n : ℕ). n + classifier_rise k) (single (value_in 1 (row_items parts)))
single_part_raised level k code parts small opens rule stands =
    ap single (value_raised k code 1 parts)
    ∙ raised_by single refl (LeafFits (Leaf 1 1 (Number 0 15))) (raised_value k code 1) (classifier_rise k) (value_in 1 (row_items parts))
    (λ v is. ap (λ (x : List ℕ). single (Some x)) (opens v) ∙ single_raised k v small is) (λ v e. rule v (stands_value level 1 parts v stands e))

-- ---- the lines of the tables that references have

upstream_rule : (v : List ℕ) → LeafStands (rule_of UpstreamFlow 1) v → IsReference v
unfolding table_of
upstream_rule v is = is

downstream_rule : (v : List ℕ) → LeafStands (rule_of DownstreamFlow 1) v → IsReference v
unfolding table_of
downstream_rule v is = is

named_rule : (kind : Kind) (v : List ℕ) → LeafStands (rule_of (Classifier kind) 3) v → IsReference v
unfolding table_of
named_rule Class v is = is
named_rule AddOn v is = is

-- the references of classifiers lie between these bounds
abbrev pub least_of : Kind → ℕ
least_of Class = 1
least_of AddOn = 0

abbrev pub most_of : Kind → ℕ
most_of Class = 127
most_of AddOn = 15

own_rule : (kind : Kind) (v : List ℕ) → LeafStands (rule_of (Classifier kind) 1) v → LeafFits (Leaf 1 1 (Number (least_of kind) (most_of kind))) v
unfolding table_of
own_rule Class v is = is
own_rule AddOn v is = is

pub group_of_kind : (kind : Kind) (code : ℕ) (P : ℕ → Type 0) → GroupStands (rule_of (Top kind) code) → P 22 → P 23 → P 24 → P 25 → P 43 → P code
group_of_kind Class code P g a b c d e = class_group code P g a b c d e
group_of_kind AddOn code P g a b c d e = add_on_group code P g a b c d e

-- ---- references of good settings, where they are

by_test : (low high : ℕ) (b : Bool) (x : Option ℕ) → Between low high x → Between low high (cond b x None)
by_test low high true x is = is
by_test low high false x is = tt

no_test : (low high : ℕ) (b : Bool) (x : Option ℕ) → b ≡ false → Between low high (cond b x None)
no_test low high true x e = cc
no_test low high false x e = tt

pub flow_between : (kind : Kind) (t : Tree) → Stands (Top kind) t → Between 1 256 (flow_number both_directions t)
flow_between kind (leaf code value) stands = by_test 1 256 (contains code both_directions) None tt
flow_between kind (group code parts) stands =
    group_of_kind kind code (λ c. EachStands (level_inside (Top kind) c) parts → Between 1 256 (flow_number both_directions (group c parts))) stands.0
    (λ s. tt) (λ s. tt) (λ s. flow_part UpstreamFlow 1 parts upstream_rule s) (λ s. flow_part DownstreamFlow 1 parts downstream_rule s) (λ s. tt) stands.1

pub classifier_between : (kind : Kind) (t : Tree) → Stands (Top kind) t → Between (least_of kind) (most_of kind + 1) (classifier_number t)
classifier_between kind (leaf code value) stands = by_test (least_of kind) (most_of kind + 1) (is_classifier code) None tt
classifier_between kind (group code parts) stands =
    let part : EachStands (Classifier kind) parts → Between (least_of kind) (most_of kind + 1) (single (value_in 1 (row_items parts))) =
    λ s. between_by single refl (LeafFits (Leaf 1 1 (Number (least_of kind) (most_of kind)))) (least_of kind) (most_of kind + 1) (value_in 1 (row_items parts))
    (single_between (least_of kind) (most_of kind)) (λ v e. own_rule kind v (stands_value (Classifier kind) 1 parts v s e)) in
    group_of_kind kind code (λ c. EachStands (level_inside (Top kind) c) parts → Between (least_of kind) (most_of kind + 1) (classifier_number (group c parts))) stands.0
    part part (λ s. tt) (λ s. tt) (λ s. tt) stands.1

-- ---- raised

risen_test : (by : ℕ) (b : Bool) (x y : Option ℕ) → x ≡ option_map (λ (n : ℕ). n + by) y → cond b x None ≡ option_map (λ (n : ℕ). n + by) (cond b y None)
risen_test by true x y e = e
risen_test by false x y e = refl

risen_none : (by : ℕ) (b : Bool) (x y : Option ℕ) → b ≡ false → cond b x None ≡ option_map (λ (n : ℕ). n + by) (cond b y None)
risen_none by true x y e = cc
risen_none by false x y e = refl

module _ (k : ℕ) (small : k < 8) where
  pub flow_raised : (dirs : List ℕ) → contains 22 dirs ≡ false → contains 23 dirs ≡ false → contains 43 dirs ≡ false → (t : Tree) → Stands (Top AddOn) t
      → flow_number dirs (raised k t) ≡ option_map (λ (n : ℕ). n + flow_rise k) (flow_number dirs t)
  flow_raised dirs p q r (leaf code value) stands = risen_test (flow_rise k) (contains code dirs) None None refl
  flow_raised dirs p q r (group code parts) stands =
      add_on_group code
      (λ c. EachStands (level_inside (Top AddOn) c) parts → flow_number dirs (raised k (group c parts)) ≡ option_map (λ (n : ℕ). n + flow_rise k) (flow_number dirs (group c parts))) stands.0
      (λ s. risen_none (flow_rise k) (contains 22 dirs) (pair (value_in 1 (row_items (raised_parts k 22 parts)))) (pair (value_in 1 (row_items parts))) p)
      (λ s. risen_none (flow_rise k) (contains 23 dirs) (pair (value_in 1 (row_items (raised_parts k 23 parts)))) (pair (value_in 1 (row_items parts))) q)
      (λ s. risen_test (flow_rise k) (contains 24 dirs) (pair (value_in 1 (row_items (raised_parts k 24 parts)))) (pair (value_in 1 (row_items parts)))
      (flow_part_raised UpstreamFlow k 24 1 parts small (λ v. refl) upstream_rule s))
      (λ s. risen_test (flow_rise k) (contains 25 dirs) (pair (value_in 1 (row_items (raised_parts k 25 parts)))) (pair (value_in 1 (row_items parts)))
      (flow_part_raised DownstreamFlow k 25 1 parts small (λ v. refl) downstream_rule s))
      (λ s. risen_none (flow_rise k) (contains 43 dirs) (pair (value_in 1 (row_items (raised_parts k 43 parts)))) (pair (value_in 1 (row_items parts))) r)
      stands.1

  pub named_raised : (t : Tree) → Stands (Top AddOn) t → named_flow (raised k t) ≡ option_map (λ (n : ℕ). n + flow_rise k) (named_flow t)
  named_raised (leaf code value) stands = risen_test (flow_rise k) (is_classifier code) None None refl
  named_raised (group code parts) stands =
      add_on_group code (λ c. EachStands (level_inside (Top AddOn) c) parts → named_flow (raised k (group c parts)) ≡ option_map (λ (n : ℕ). n + flow_rise k) (named_flow (group c parts))) stands.0
      (λ s. flow_part_raised (Classifier AddOn) k 22 3 parts small (λ v. refl) (named_rule AddOn) s)
      (λ s. flow_part_raised (Classifier AddOn) k 23 3 parts small (λ v. refl) (named_rule AddOn) s) (λ s. refl) (λ s. refl) (λ s. refl) stands.1

  pub classifier_raised : (t : Tree) → Stands (Top AddOn) t → classifier_number (raised k t) ≡ option_map (λ (n : ℕ). n + classifier_rise k) (classifier_number t)
  classifier_raised (leaf code value) stands = risen_test (classifier_rise k) (is_classifier code) None None refl
  classifier_raised (group code parts) stands =
      add_on_group code
      (λ c. EachStands (level_inside (Top AddOn) c) parts → classifier_number (raised k (group c parts)) ≡ option_map (λ (n : ℕ). n + classifier_rise k) (classifier_number (group c parts))) stands.0
      (λ s. single_part_raised (Classifier AddOn) k 22 parts small (λ v. refl) (own_rule AddOn) s)
      (λ s. single_part_raised (Classifier AddOn) k 23 parts small (λ v. refl) (own_rule AddOn) s) (λ s. refl) (λ s. refl) (λ s. refl) stands.1

pub code_raised : (k : ℕ) (t : Tree) → code_of (raised k t) ≡ code_of t
code_raised k (leaf code value) = refl
code_raised k (group code parts) = refl
