-- Good settings of a class or an add-on, in no order: what the tables, the references and the
-- lengths ask.
use Rattle.std.specs.Prelude.{◌≡◌, ℕ, ◌≤◌, Bool, false, IsTrue, List, [], ◌∷◌, length, Option, Some, None, Result, Ok, Err, count_by, ◌==◌}
use Rattle.std.specs.List.{AllByRecursion}
use Rattle.off_base.specs.Tree.{Tree, Row, leaf, group, no_more, followed, code_of, row_of, row_length, trees_length}
use Rattle.off_tree.specs.declared.tables.Level.{Level}
use Rattle.off_tree.specs.declared.tables.Level.TheVariants.{Top}
use Rattle.off_tree.specs.declared.tables.Kind.{Kind}
use Rattle.off_tree.specs.declared.tables.Rule.{Rule}
use Rattle.off_tree.specs.declared.tables.Form.{Form}
use Rattle.off_tree.specs.declared.tables.Form.TheVariants.{Leaf, Group}
use Rattle.off_tree.specs.declared.paths.TreeFault.{TreeFault}
use Rattle.off_tree.specs.Table.{table_of, rule_of, level_inside, is_single, is_needed}
use Rattle.off_tree.specs.Value.{in_range}
use Rattle.off_tree.specs.Fault.{contains, numbers, flow_number, both_directions, classifier_number, named_flow, direction_of, size_limit}

abbrev pub times_in : ℕ → List ℕ → ℕ
times_in n ns = count_by (λ x. x == n) ns

-- a leaf is one of the table, with a length and a value in their ranges
abbrev pub LeafFits : Form → List ℕ → Type 0
LeafFits Group value = ⊥
LeafFits (Leaf shortest longest range) value =
    (shortest ≤ length value) × (length value ≤ longest) × IsTrue (in_range range value)

abbrev pub LeafStands : Option Rule → List ℕ → Type 0
LeafStands None value = ⊥
LeafStands (Some rule) value = LeafFits rule.form value

-- a group is one of the table
abbrev pub IsGroup : Form → Type 0
IsGroup Group = Unit {0}
IsGroup (Leaf shortest longest range) = ⊥

abbrev pub GroupStands : Option Rule → Type 0
GroupStands None = ⊥
GroupStands (Some rule) = IsGroup rule.form

-- a code of which the table has at most one setting
abbrev pub single_rule : Option Rule → Bool
single_rule None = false
single_rule (Some rule) = is_single rule.times

-- what stands at most once does, and what has to stand does
abbrev pub KeepsTimes : Level → List ℕ → Type 0
KeepsTimes level codes =
    ((code : ℕ) → IsTrue (single_rule (rule_of level code)) → times_in code codes ≤ 1)
    × AllByRecursion (λ rule. IsTrue (is_needed rule.times) → IsTrue (contains rule.code codes))
    (table_of level)

abbrev pub row_codes : Row → List ℕ
row_codes no_more = []
row_codes (followed t r) = code_of t ∷ row_codes r

-- each setting is one of the tables, those in groups too, and each list of settings is counted
abbrev mutual
  pub Stands : Level → Tree → Type 0
  Stands level (leaf code value) = LeafStands (rule_of level code) value
  Stands level (group code parts) = GroupStands (rule_of level code)
      × EachStands (level_inside level code) parts
      × KeepsTimes (level_inside level code) (row_codes parts)

  pub EachStands : Level → Row → Type 0
  EachStands level no_more = Unit {0}
  EachStands level (followed t r) = Stands level t × EachStands level r

-- the flow that a classifier names is there, in the classifier's direction
abbrev pub IsServed : List Tree → Tree → Type 0
IsServed all t =
    (n : ℕ) → named_flow t ≡ Some n →
    IsTrue (contains n (numbers (flow_number (direction_of (code_of t) ∷ [])) all))

-- no value and no group's spelled parts have over 254 bytes
abbrev mutual
  pub IsShort : Tree → Type 0
  IsShort (leaf code value) = length value ≤ 254
  IsShort (group code parts) = (row_length parts ≤ 254) × EachIsShort parts

  pub EachIsShort : Row → Type 0
  EachIsShort no_more = Unit {0}
  EachIsShort (followed t r) = IsShort t × EachIsShort r

pub record GoodSettings (kind : Kind) (trees : List Tree) : Type 0 where
  pub stand : EachStands (Top kind) (row_of trees)
  pub counted : KeepsTimes (Top kind) (row_codes (row_of trees))
  -- the references of flows differ over both directions, and those of classifiers
  pub flows : (n : ℕ) → times_in n (numbers (flow_number both_directions) trees) ≤ 1
  pub served : AllByRecursion (IsServed trees) trees
  pub classifiers : (n : ℕ) → times_in n (numbers classifier_number trees) ≤ 1
  pub short : EachIsShort (row_of trees)
  pub whole : trees_length trees ≤ size_limit kind

-- the answer that a first fault makes
abbrev pub checked : Option TreeFault → Result (Unit {0}) TreeFault
checked None = Ok tt
checked (Some fault) = Err fault
