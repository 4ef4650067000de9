-- The first broken rule of a tree of settings: a walk over the tree, each setting before its parts,
-- then the references, then the lengths.
use Rattle.std.specs.Prelude.{ℕ, ◌+◌, ◌*◌, ◌==◌, ◌&&◌, ◌||◌, Bool, true, false, not, nat_lt, min, ◌-◌, ◌^◌, List, [], ◌∷◌, ◌++◌, length, Option, Some, None, option_map, if◌then◌else◌}
use Rattle.std.specs.Option.{option_or}
use Rattle.std.specs.List.{list_any, flat_map}
use Rattle.off_base.specs.Tree.{Tree, Row, leaf, group, no_more, followed, code_of, row_of, row_items, row_length, trees_length}
use Rattle.off_tree.specs.declared.tables.Level.{Level}
use Rattle.off_tree.specs.declared.tables.Level.TheVariants.{Top}
use Rattle.off_tree.specs.declared.tables.Kind.{Kind}
use Rattle.off_tree.specs.declared.tables.Kind.TheVariants.{Class, AddOn}
use Rattle.off_tree.specs.declared.tables.Rule.{Rule}
use Rattle.off_tree.specs.declared.tables.Form.{Form}
use Rattle.off_tree.specs.declared.tables.Form.TheVariants.{Leaf, Group}
use Rattle.off_tree.specs.declared.paths.Path.{Path}
use Rattle.off_tree.specs.declared.paths.TreeFault.{TreeFault}
use Rattle.off_tree.specs.declared.paths.TreeFault.TheVariants.{UnknownCode, Length, Range, Missing, Twice, FlowReference, ClassifierReference, TooLong}
use Rattle.off_tree.specs.Place.{below}
use Rattle.off_tree.specs.Table.{table_of, rule_of, level_inside, is_single, is_needed}
use Rattle.off_tree.specs.Value.{in_range}

abbrev pub contains : ℕ → List ℕ → Bool
contains code codes = list_any (λ c. c == code) codes

-- what is wrong with a leaf where the table has this line, by its path, and whether its code has
-- stood before
abbrev pub leaf_broken : Form → Path → Bool → List ℕ → Option TreeFault
leaf_broken Group path again value = Some (UnknownCode path)
leaf_broken (Leaf shortest longest range) path again value =
    if again then Some (Twice path)
    else if nat_lt (length value) shortest || nat_lt longest (length value) then Some (Length path)
    else if in_range range value then None
    else Some (Range path)

abbrev pub leaf_fault : Option Rule → Path → Bool → List ℕ → Option TreeFault
leaf_fault None path seen value = Some (UnknownCode path)
leaf_fault (Some rule) path seen value =
    leaf_broken rule.form path (seen && is_single rule.times) value

-- the same of a group, apart from its parts
abbrev pub group_broken : Form → Path → Bool → Option TreeFault
group_broken (Leaf shortest longest range) path again = Some (UnknownCode path)
group_broken Group path again = if again then Some (Twice path) else None

abbrev pub group_fault : Option Rule → Path → Bool → Option TreeFault
group_fault None path seen = Some (UnknownCode path)
group_fault (Some rule) path seen = group_broken rule.form path (seen && is_single rule.times)

-- the first line of a table that has to stand and doesn't; each table's codes ascend
-- (`proofs/TableFacts.antt`), so it's the least such code
abbrev pub missing_in : List Rule → Path → List ℕ → Option TreeFault
missing_in [] path codes = None
missing_in (rule ∷ rules) path codes =
    if is_needed rule.times && not (contains rule.code codes)
    then Some (Missing (below path rule.code)) else missing_in rules path codes

-- a setting before its parts, and one after another; what is missing stands behind the last. The
-- codes are those that have stood before.
abbrev mutual
  pub setting_fault : Level → Path → List ℕ → Tree → Option TreeFault
  setting_fault level path codes (leaf code value) = leaf_fault (rule_of level code)
      (below path code) (contains code codes) value
  setting_fault level path codes (group code parts) =
      option_or (group_fault (rule_of level code) (below path code) (contains code codes))
      (parts_fault (level_inside level code) (below path code) [] parts)

  pub parts_fault : Level → Path → List ℕ → Row → Option TreeFault
  parts_fault level path codes no_more = missing_in (table_of level) path codes
  parts_fault level path codes (followed t r) = option_or (setting_fault level path codes t)
      (parts_fault level path (codes ++ code_of t ∷ []) r)

-- the value of the first leaf of a code among settings
abbrev pub leaf_value : ℕ → Tree → Option (List ℕ)
leaf_value code (leaf c value) = if c == code then Some value else None
leaf_value code (group c parts) = None

abbrev pub value_in : ℕ → List Tree → Option (List ℕ)
value_in code [] = None
value_in code (t ∷ ts) = option_or (leaf_value code t) (value_in code ts)

abbrev pub part_value : ℕ → Tree → Option (List ℕ)
part_value code (leaf c value) = None
part_value code (group c parts) = value_in code (row_items parts)

-- a number of two bytes, big-endian, and one of one byte
abbrev pub pair : Option (List ℕ) → Option ℕ
pair None = None
pair (Some []) = None
pair (Some (a ∷ [])) = None
pair (Some (a ∷ b ∷ [])) = Some (a * 256 + b)
pair (Some (a ∷ b ∷ c ∷ more)) = None

abbrev pub single : Option (List ℕ) → Option ℕ
single None = None
single (Some []) = None
single (Some (a ∷ [])) = Some a
single (Some (a ∷ b ∷ more)) = None

-- the reference of a service flow of some directions, that of a classifier, and that of the flow
-- which a classifier names
abbrev pub flow_number : List ℕ → Tree → Option ℕ
flow_number directions t = if contains (code_of t) directions then pair (part_value 1 t) else None

abbrev pub is_classifier : ℕ → Bool
is_classifier code = code == 22 || code == 23

abbrev pub classifier_number : Tree → Option ℕ
classifier_number t = if is_classifier (code_of t) then single (part_value 1 t) else None

abbrev pub named_flow : Tree → Option ℕ
named_flow t = if is_classifier (code_of t) then pair (part_value 3 t) else None

-- the direction of the flows that a classifier may name
abbrev pub direction_of : ℕ → ℕ
direction_of code = if code == 22 then 24 else 25

abbrev pub both_directions : List ℕ
both_directions = 24 ∷ 25 ∷ []

abbrev pub as_list : Option ℕ → List ℕ
as_list None = []
as_list (Some n) = n ∷ []

-- the numbers that settings have, in their order
abbrev pub numbers : (Tree → Option ℕ) → List Tree → List ℕ
numbers f trees = flat_map (λ t. as_list (f t)) trees

-- the first number that stands a second time, behind those before
abbrev pub first_repeat : List ℕ → List ℕ → Option ℕ
first_repeat before [] = None
first_repeat before (n ∷ ns) =
    if contains n before then Some n else first_repeat (before ++ n ∷ []) ns

-- the flow that a classifier names and that isn't there in its direction
abbrev pub unless : Bool → Option ℕ → Option ℕ
unless true n = None
unless false n = n

abbrev pub lost_number : List ℕ → Option ℕ → Option ℕ
lost_number flows None = None
lost_number flows (Some n) = unless (contains n flows) (Some n)

abbrev pub lost_flow : List Tree → Tree → Option ℕ
lost_flow all t =
    lost_number (numbers (flow_number (direction_of (code_of t) ∷ [])) all) (named_flow t)

abbrev pub first_lost : List Tree → List Tree → Option ℕ
first_lost all [] = None
first_lost all (t ∷ ts) = option_or (lost_flow all t) (first_lost all ts)

abbrev pub flow_fault : List Tree → Option TreeFault
flow_fault trees =
    option_map FlowReference (option_or
    (first_repeat [] (numbers (flow_number both_directions) trees)) (first_lost trees trees))

abbrev pub classifier_fault : List Tree → Option TreeFault
classifier_fault trees =
    option_map ClassifierReference (first_repeat [] (numbers classifier_number trees))

-- a value or the spelled parts of a group have more than 254 bytes, each setting before its parts
abbrev pub too_many : ℕ → ℕ → Option ℕ
too_many most n = if nat_lt most n then Some n else None

abbrev mutual
  pub long_setting : Tree → Option ℕ
  long_setting (leaf code value) = too_many 254 (length value)
  long_setting (group code parts) = option_or (too_many 254 (row_length parts)) (long_part parts)

  pub long_part : Row → Option ℕ
  long_part no_more = None
  long_part (followed t r) = option_or (long_setting t) (long_part r)

-- the most bytes of a whole tree's spelling
abbrev pub size_limit : Kind → ℕ
size_limit Class = 2048
size_limit AddOn = 512

abbrev pub length_fault : Kind → List Tree → Option TreeFault
length_fault kind trees =
    option_map (λ n. TooLong (min n (2 ^ 32 - 1)))
    (option_or (long_part (row_of trees)) (too_many (size_limit kind) (trees_length trees)))

abbrev pub root : Path
root = record { depth = 0; a = 0; b = 0; c = 0 }

-- the first broken rule: by the tables, then the references of flows, then those of classifiers,
-- then the lengths
abbrev pub first_fault : Kind → List Tree → Option TreeFault
first_fault kind trees =
    option_or (parts_fault (Top kind) root [] (row_of trees))
    (option_or (flow_fault trees) (option_or (classifier_fault trees) (length_fault kind trees)))
