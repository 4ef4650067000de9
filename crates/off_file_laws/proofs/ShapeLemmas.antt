-- Good settings are settings of a file: the tables against the grammar.
use Rattle.std.proofs.Common.{◌≡◌, ℕ, ◌+◌, Bool, true, false, cond, eqb, List, [], ◌∷◌, length, map, refl, ap, subst, ◌∙◌, arith, lit≤, Option, Some, None}
use Rattle.std.specs.Prelude.{◌&&◌, ◌||◌, not}
use Rattle.std.specs.List.{AllByRecursion, list_all}
use Rattle.off_base.specs.Tree.{Tree, Row, leaf, group, no_more, followed, code_of, row_of, row_length, Fits, RowFits, AllFit}
use Rattle.off_base.proofs.TreeLemmas.{length-spelled_row}
use Rattle.off_tlv.specs.Grammar as grammar
use Rattle.off_mic.specs.Mic.{is_mic, without_mics}
use Rattle.off_tree.specs.declared.tables.Level.{Level}
use Rattle.off_tree.specs.declared.tables.Level.TheVariants.{Top, Classifier, UpstreamFlow, DownstreamFlow, Ip, Extension}
use Rattle.off_tree.specs.declared.tables.Kind.{Kind}
use Rattle.off_tree.specs.declared.tables.Kind.TheVariants.{Class, AddOn}
use Rattle.off_tree.specs.declared.tables.Rule.{Rule}
use Rattle.off_tree.specs.declared.tables.Form.{Form}
use Rattle.off_tree.specs.declared.tables.Form.TheVariants.{Leaf, Group}
use Rattle.off_tree.specs.Table.{table_of, rule_of, rule_with, or_other, others, level_inside}
use Rattle.off_tree.specs.Good.{LeafFits, LeafStands, IsGroup, GroupStands, Stands, EachStands, IsShort, EachIsShort, GoodSettings}
use Rattle.off_file_rules.specs.Profile.{has_flow, has_classifier, flow_rise, classifier_rise, raised_pair, raised_single, raised_value, raised_parts, raised, all_raised, access, devices, plain_flow, profile_of}
use Rattle.off_file_laws.specs.Laws.{SpellsProfile}
use Rattle.off_file_laws.proofs.AgreeLemmas.{AllGood, all_join}
use Rattle.std.proofs.lemmas.Bool.{not-true, and_parts, eqb-true}

-- ---- the lists of settings that a profile has, by the tables and by the grammar

data Spot : Type 0 where
  whole : Kind → Spot
  upstream_rules : Kind → Spot
  downstream_rules : Kind → Spot
  upstream : Spot
  downstream : Spot
  addresses : Spot
  extension : Spot

abbrev place_of : Spot → Level
place_of (whole kind) = Top kind
place_of (upstream_rules kind) = Classifier kind
place_of (downstream_rules kind) = Classifier kind
place_of upstream = UpstreamFlow
place_of downstream = DownstreamFlow
place_of addresses = Ip
place_of extension = Extension

abbrev level_of : Spot → grammar.Level
level_of (whole kind) = grammar.in_file
level_of (upstream_rules kind) = grammar.in_group 22
level_of (downstream_rules kind) = grammar.in_group 23
level_of upstream = grammar.in_group 24
level_of downstream = grammar.in_group 25
level_of addresses = grammar.in_part
level_of extension = grammar.in_group 43

-- a leaf where the grammar has none, or a group
abbrev form_fits : Bool → Form → Bool
form_fits grouped (Leaf shortest longest range) = not grouped
form_fits grouped Group = grouped

abbrev line_fits : grammar.Level → Rule → Bool
line_fits level rule = grammar.is_code level rule.code && form_fits (grammar.is_group level rule.code) rule.form

tables_fit : (s : Spot) → list_all (line_fits (level_of s)) (table_of (place_of s)) ≡ true
unfolding table_of
tables_fit (whole Class) = refl
tables_fit (whole AddOn) = refl
tables_fit (upstream_rules Class) = refl
tables_fit (upstream_rules AddOn) = refl
tables_fit (downstream_rules Class) = refl
tables_fit (downstream_rules AddOn) = refl
tables_fit upstream = refl
tables_fit downstream = refl
tables_fit addresses = refl
tables_fit extension = refl

-- ---- a line of a table

-- what all lines pass, the line of a code does
line_here : (test : Rule → Bool) (code : ℕ) (line rule : Rule) (lines : List Rule) (b : Bool) → eqb line.code code ≡ b → test line ≡ true
    → (rule_with code lines ≡ Some rule → (test rule ≡ true) × (rule.code ≡ code)) → cond b (Some line) (rule_with code lines) ≡ Some rule → (test rule ≡ true) × (rule.code ≡ code)
line_here test code line rule lines true is passes more e =
    let same : line ≡ rule = cc in
    (subst (λ (r : Rule). test r ≡ true) same passes, subst (λ (r : Rule). r.code ≡ code) same (eqb-true line.code code is))
line_here test code line rule lines false is passes more e = more e

line_passes : (test : Rule → Bool) (code : ℕ) (rule : Rule) (lines : List Rule) → list_all test lines ≡ true → rule_with code lines ≡ Some rule → (test rule ≡ true) × (rule.code ≡ code)
line_passes test code rule [] all e = cc
line_passes test code rule (line ∷ lines) all e =
    line_here test code line rule lines (eqb line.code code) refl (and_parts (test line) (list_all test lines) all).0
    (λ found. line_passes test code rule lines (and_parts (test line) (list_all test lines) all).1 found) e

-- the rule of a code is of a form that the grammar has there
abbrev RuleFits : grammar.Level → ℕ → Rule → Type 0
RuleFits level code rule = (grammar.is_code level code ≡ true) × (form_fits (grammar.is_group level code) rule.form ≡ true)

line_right : (s : Spot) (code : ℕ) (rule : Rule) → rule_with code (table_of (place_of s)) ≡ Some rule → RuleFits (level_of s) code rule
line_right s code rule e =
    let p = line_passes (line_fits (level_of s)) code rule (table_of (place_of s)) (tables_fit s) e in (
      subst (λ (c : ℕ). grammar.is_code (level_of s) c ≡ true) p.1 (and_parts (grammar.is_code (level_of s) rule.code) (form_fits (grammar.is_group (level_of s) rule.code) rule.form) p.0).0,
      subst (λ (c : ℕ). form_fits (grammar.is_group (level_of s) c) rule.form ≡ true) p.1
          (and_parts (grammar.is_code (level_of s) rule.code) (form_fits (grammar.is_group (level_of s) rule.code) rule.form) p.0).1,
    )

no_rule : (rule : Rule) (P : Type 0) → None ≡ Some rule → P
no_rule rule P e = cc

-- what holds of a rule where there is one
abbrev Holds : (Rule → Type 0) → Option Rule → Type 0
Holds P None = Unit {0}
Holds P (Some rule) = P rule

held : (P : Rule → Type 0) (o : Option Rule) (rule : Rule) → Holds P o → o ≡ Some rule → P rule
held P None rule h e = cc
held P (Some other) rule h e = let same : other ≡ rule = cc in subst P same h

other_right : (s : Spot) (code : ℕ) (rule : Rule) → others (place_of s) ≡ Some rule → RuleFits (level_of s) code rule
other_right (whole kind) code rule e = no_rule rule (RuleFits grammar.in_file code rule) e
other_right (upstream_rules kind) code rule e = no_rule rule (RuleFits (grammar.in_group 22) code rule) e
other_right (downstream_rules kind) code rule e = no_rule rule (RuleFits (grammar.in_group 23) code rule) e
other_right upstream code rule e = no_rule rule (RuleFits (grammar.in_group 24) code rule) e
other_right downstream code rule e = no_rule rule (RuleFits (grammar.in_group 25) code rule) e
other_right addresses code rule e = no_rule rule (RuleFits grammar.in_part code rule) e
other_right extension code rule e = held (RuleFits (grammar.in_group 43) code) (others Extension) rule (refl, refl) e

rule_by : (o other : Option Rule) (rule : Rule) (P : Type 0) → or_other o other ≡ Some rule → (o ≡ Some rule → P) → (other ≡ Some rule → P) → P
rule_by None other rule P e here more = more e
rule_by (Some r) other rule P e here more = here e

rule_right : (s : Spot) (code : ℕ) (rule : Rule) → rule_of (place_of s) code ≡ Some rule → RuleFits (level_of s) code rule
rule_right s code rule e =
    rule_by (rule_with code (table_of (place_of s))) (others (place_of s)) rule (RuleFits (level_of s) code rule) e (line_right s code rule) (other_right s code rule)

-- ---- the shape

leaf_form : (level : grammar.Level) (code : ℕ) (form : Form) (value : List ℕ) → (grammar.is_code level code ≡ true) × (form_fits (grammar.is_group level code) form ≡ true) → LeafFits form value
    → (grammar.is_code level code ≡ true) × (grammar.is_group level code ≡ false)
leaf_form level code (Leaf a b r) value fits is = (fits.0, not-true (grammar.is_group level code) fits.1)
leaf_form level code Group value fits is = absurd is

group_form : (level : grammar.Level) (code : ℕ) (form : Form) → (grammar.is_code level code ≡ true) × (form_fits (grammar.is_group level code) form ≡ true) → IsGroup form
    → (grammar.is_code level code ≡ true) × (grammar.is_group level code ≡ true)
group_form level code (Leaf a b r) fits is = absurd is
group_form level code Group fits is = fits

leaf_shape : (level : grammar.Level) (code : ℕ) (value : List ℕ) (o : Option Rule) → ((rule : Rule) → o ≡ Some rule → RuleFits level code rule) → LeafStands o value
    → (grammar.is_code level code ≡ true) × (grammar.is_group level code ≡ false)
leaf_shape level code value None right stands = absurd stands
leaf_shape level code value (Some rule) right stands = leaf_form level code rule.form value (right rule refl) stands

group_shape : (level : grammar.Level) (code : ℕ) (o : Option Rule) → ((rule : Rule) → o ≡ Some rule → RuleFits level code rule) → GroupStands o
    → (grammar.is_code level code ≡ true) × (grammar.is_group level code ≡ true)
group_shape level code None right stands = absurd stands
group_shape level code (Some rule) right stands = group_form level code rule.form (right rule refl) stands

-- the codes of groups in a file
group_here : (n code : ℕ) (rest : Bool) (P : ℕ → Type 0) (b : Bool) → eqb n code ≡ b → (b || rest) ≡ true → P n → (rest ≡ true → P code) → P code
group_here n code rest P true is e here more = subst P (eqb-true n code is) here
group_here n code rest P false is e here more = more e

nothing : (P : Type 0) → false ≡ true → P
nothing P e = cc

file_group : (code : ℕ) (P : ℕ → Type 0) → grammar.is_group grammar.in_file code ≡ true → P 22 → P 23 → P 24 → P 25 → P 43 → P code
file_group code P e a b c d f =
    group_here 22 code (eqb 23 code || (eqb 24 code || (eqb 25 code || (eqb 43 code || false)))) P (eqb 22 code) refl e a
    (λ e1. group_here 23 code (eqb 24 code || (eqb 25 code || (eqb 43 code || false))) P (eqb 23 code) refl e1 b
    (λ e2. group_here 24 code (eqb 25 code || (eqb 43 code || false)) P (eqb 24 code) refl e2 c
    (λ e3. group_here 25 code (eqb 43 code || false) P (eqb 25 code) refl e3 d (λ e4. group_here 43 code false P (eqb 43 code) refl e4 f (λ e5. nothing (P code) e5)))))

-- the parts of a group, where parts are as the grammar has them wherever they stand
inside : (s : Spot) (code : ℕ) (parts : Row) → ((q : Spot) → EachStands (place_of q) parts → grammar.RowShaped (level_of q) parts) → grammar.is_group (level_of s) code ≡ true
    → EachStands (level_inside (place_of s) code) parts → grammar.RowShaped (grammar.inside_of (level_of s) code) parts
inside (whole kind) code parts each e stands =
    file_group code (λ c. EachStands (level_inside (Top kind) c) parts → grammar.RowShaped (grammar.in_group c) parts) e (each (upstream_rules kind)) (each (downstream_rules kind)) (each upstream)
    (each downstream) (each extension) stands
inside (upstream_rules kind) code parts each e stands = each addresses stands
inside (downstream_rules kind) code parts each e stands = each addresses stands
inside upstream code parts each e stands = nothing (grammar.RowShaped grammar.in_part parts) e
inside downstream code parts each e stands = nothing (grammar.RowShaped grammar.in_part parts) e
inside addresses code parts each e stands = nothing (grammar.RowShaped grammar.in_part parts) e
inside extension code parts each e stands = nothing (grammar.RowShaped grammar.in_part parts) e

mutual
  shaped_tree : (t : Tree) (s : Spot) → Stands (place_of s) t → grammar.Shaped (level_of s) t
  shaped_tree (leaf code value) s stands = leaf_shape (level_of s) code value (rule_of (place_of s) code) (rule_right s code) stands
  shaped_tree (group code parts) s stands =
      let g = group_shape (level_of s) code (rule_of (place_of s) code) (rule_right s code) stands.0 in
      (g.0, g.1, inside s code parts (λ q each. shaped_row parts q each) g.1 stands.1)

  shaped_row : (r : Row) (s : Spot) → EachStands (place_of s) r → grammar.RowShaped (level_of s) r
  shaped_row no_more s stands = tt
  shaped_row (followed t r) s stands = (shaped_tree t s stands.0, shaped_row r s stands.1)

-- ---- lengths

mutual
  fits_tree : (t : Tree) → IsShort t → Fits t
  fits_tree (leaf code value) short = omega (arith, short)
  fits_tree (group code parts) short = (omega (arith, short.0, length-spelled_row parts), fits_row parts short.1)

  fits_row : (r : Row) → EachIsShort r → RowFits r
  fits_row no_more short = tt
  fits_row (followed t r) short = (fits_tree t short.0, fits_row r short.1)

-- ---- raised

length_pair : (by : ℕ) (value : List ℕ) → length (raised_pair by value) ≡ length value
length_pair by [] = refl
length_pair by (a ∷ []) = refl
length_pair by (a ∷ b ∷ []) = refl
length_pair by (a ∷ b ∷ c ∷ more) = refl

length_single : (by : ℕ) (value : List ℕ) → length (raised_single by value) ≡ length value
length_single by [] = refl
length_single by (a ∷ []) = refl
length_single by (a ∷ b ∷ more) = refl

length_by : (a b : Bool) (x y z : List ℕ) → length x ≡ length z → length y ≡ length z → length (cond a x (cond b y z)) ≡ length z
length_by true b x y z p q = p
length_by false true x y z p q = q
length_by false false x y z p q = refl

length_raised : (k code part : ℕ) (value : List ℕ) → length (raised_value k code part value) ≡ length value
length_raised k code part value =
    length_by (has_flow code part) (has_classifier code part) (raised_pair (flow_rise k) value) (raised_single (classifier_rise k) value) value (length_pair (flow_rise k) value)
    (length_single (classifier_rise k) value)

pub row_length_raised : (k code : ℕ) (parts : Row) → row_length (raised_parts k code parts) ≡ row_length parts
row_length_raised k code no_more = refl
row_length_raised k code (followed (leaf p v) parts) = omega (arith, length_raised k code p v, row_length_raised k code parts)
row_length_raised k code (followed (group p q) parts) = omega (arith, row_length_raised k code parts)

parts_short : (k code : ℕ) (parts : Row) → EachIsShort parts → EachIsShort (raised_parts k code parts)
parts_short k code no_more short = tt
parts_short k code (followed (leaf p v) parts) short = (omega (arith, short.0, length_raised k code p v), parts_short k code parts short.1)
parts_short k code (followed (group p q) parts) short = (short.0, parts_short k code parts short.1)

raised_short : (k : ℕ) (t : Tree) → IsShort t → IsShort (raised k t)
raised_short k (leaf code value) short = short
raised_short k (group code parts) short = (omega (arith, short.0, row_length_raised k code parts), parts_short k code parts short.1)

parts_shaped : (k code : ℕ) (level : grammar.Level) (parts : Row) → grammar.RowShaped level parts → grammar.RowShaped level (raised_parts k code parts)
parts_shaped k code level no_more shaped = tt
parts_shaped k code level (followed (leaf p v) parts) shaped = (shaped.0, parts_shaped k code level parts shaped.1)
parts_shaped k code level (followed (group p q) parts) shaped = (shaped.0, parts_shaped k code level parts shaped.1)

raised_shaped : (k : ℕ) (level : grammar.Level) (t : Tree) → grammar.Shaped level t → grammar.Shaped level (raised k t)
raised_shaped k level (leaf code value) shaped = shaped
raised_shaped k level (group code parts) shaped = (shaped.0, shaped.1, parts_shaped k code (grammar.inside_of level code) parts shaped.2)

-- ---- neither of the two checks

leaf_some : (o : Option Rule) (value : List ℕ) → LeafStands o value → (rule : Rule) × (o ≡ Some rule)
leaf_some None value stands = absurd stands
leaf_some (Some rule) value stands = (rule, refl)

group_some : (o : Option Rule) → GroupStands o → (rule : Rule) × (o ≡ Some rule)
group_some None stands = absurd stands
group_some (Some rule) stands = (rule, refl)

-- no setting of a class or an add-on has a code that no line of the tables has
module _ (is : ℕ → Bool) (none : (kind : Kind) → list_all (λ (rule : Rule). not (is rule.code)) (table_of (Top kind)) ≡ true) where
  other_code : (kind : Kind) (code : ℕ) (rule : Rule) → rule_of (Top kind) code ≡ Some rule → is code ≡ false
  other_code kind code rule e =
      rule_by (rule_with code (table_of (Top kind))) None rule (is code ≡ false) e
      (λ found. let p = line_passes (λ (r : Rule). not (is r.code)) code rule (table_of (Top kind)) (none kind) found in
      subst (λ (c : ℕ). is c ≡ false) p.1 (not-true (is rule.code) p.0))
      (λ nowhere. no_rule rule (is code ≡ false) nowhere)

  pub never_stands : (kind : Kind) (t : Tree) → Stands (Top kind) t → is (code_of t) ≡ false
  never_stands kind (leaf code value) stands = let r = leaf_some (rule_of (Top kind) code) value stands in other_code kind code r.0 r.1
  never_stands kind (group code parts) stands = let r = group_some (rule_of (Top kind) code) stands.0 in other_code kind code r.0 r.1

tables_other : (kind : Kind) → list_all (λ (rule : Rule). not (is_mic rule.code)) (table_of (Top kind)) ≡ true
unfolding table_of
tables_other Class = refl
tables_other AddOn = refl

no_mic : (kind : Kind) (t : Tree) → Stands (Top kind) t → is_mic (code_of t) ≡ false
no_mic kind t stands = never_stands is_mic tables_other kind t stands

raised_other : (k : ℕ) (t : Tree) → is_mic (code_of t) ≡ false → is_mic (code_of (raised k t)) ≡ false
raised_other k (leaf code value) e = e
raised_other k (group code parts) e = e

-- ---- the whole profile

abbrev Fine : Tree → Type 0
Fine t = grammar.Stands grammar.in_file t × (is_mic (code_of t) ≡ false)

fine : (kind : Kind) (t : Tree) → Stands (Top kind) t → IsShort t → Fine t
fine kind t stands short = (record { shaped = shaped_tree t (whole kind) stands; fits = fits_tree t short }, no_mic kind t stands)

fine_raised : (k : ℕ) (t : Tree) → Stands (Top AddOn) t → IsShort t → Fine (raised k t)
fine_raised k t stands short = (
  record { shaped = raised_shaped k grammar.in_file t (shaped_tree t (whole AddOn) stands); fits = fits_tree (raised k t) (raised_short k t short) },
  raised_other k t (no_mic AddOn t stands),
)

all_fine : (kind : Kind) (ts : List Tree) → EachStands (Top kind) (row_of ts) → EachIsShort (row_of ts) → AllByRecursion Fine ts
all_fine kind [] stands short = tt
all_fine kind (t ∷ ts) stands short = (fine kind t stands.0 short.0, all_fine kind ts stands.1 short.1)

all_fine_raised : (k : ℕ) (ts : List Tree) → EachStands (Top AddOn) (row_of ts) → EachIsShort (row_of ts) → AllByRecursion Fine (map (raised k) ts)
all_fine_raised k [] stands short = tt
all_fine_raised k (t ∷ ts) stands short = (fine_raised k t stands.0 short.0, all_fine_raised k ts stands.1 short.1)

add_ons_fine : (least : ℕ) (adds : List (ℕ × List Tree)) → AllGood least adds → AllByRecursion Fine (all_raised adds)
add_ons_fine least [] good = tt
add_ons_fine least (a ∷ adds) good =
    all_join Fine (map (raised a.0) a.1) (all_raised adds) (all_fine_raised a.0 a.1 good.2.stand good.2.short) (add_ons_fine (a.0 + 1) adds good.3)

access_fine : (allowed : ℕ) → Fine (access allowed)
access_fine allowed = (record { shaped = (refl, refl); fits = lit≤ tt }, refl)

devices_fine : (cpes : ℕ) → Fine (devices cpes)
devices_fine cpes = (record { shaped = (refl, refl); fits = lit≤ tt }, refl)

upstream_fine : Fine (plain_flow 24 1)
upstream_fine = (record { shaped = (refl, refl, ((refl, refl), ((refl, refl), tt))); fits = (lit≤ tt, (lit≤ tt, (lit≤ tt, tt))) }, refl)

downstream_fine : Fine (plain_flow 25 2)
downstream_fine = (record { shaped = (refl, refl, ((refl, refl), ((refl, refl), tt))); fits = (lit≤ tt, (lit≤ tt, (lit≤ tt, tt))) }, refl)

profile_fine : (active : Bool) (cpes : ℕ) (class : List Tree) (adds : List (ℕ × List Tree)) → GoodSettings Class class → AllGood 0 adds → AllByRecursion Fine (profile_of active cpes class adds)
profile_fine true cpes class adds good all =
    (access_fine 1, all_join Fine class (devices cpes ∷ all_raised adds) (all_fine Class class good.stand good.short) (devices_fine cpes, add_ons_fine 0 adds all))
profile_fine false cpes class adds good all = (access_fine 0, (upstream_fine, (downstream_fine, (devices_fine cpes, tt))))

all_stand : (ts : List Tree) → AllByRecursion Fine ts → grammar.AllStand grammar.in_file ts
all_stand [] all = tt
all_stand (t ∷ ts) all = (all.0.0, all_stand ts all.1)

all_fit : (ts : List Tree) → AllByRecursion Fine ts → AllFit ts
all_fit [] all = tt
all_fit (t ∷ ts) all = (all.0.0.fits, all_fit ts all.1)

neither : (ts : List Tree) → AllByRecursion Fine ts → without_mics ts ≡ ts
neither [] all = refl
neither (t ∷ ts) all = ap (λ (b : Bool). cond (not b) (t ∷ without_mics ts) (without_mics ts)) all.0.1 ∙ ap (λ (x : List Tree). t ∷ x) (neither ts all.1)

pub profile_spells : (active : Bool) (cpes : ℕ) (class : List Tree) (adds : List (ℕ × List Tree)) → GoodSettings Class class → AllGood 0 adds → SpellsProfile (profile_of active cpes class adds)
profile_spells active cpes class adds good all =
    let f = profile_fine active cpes class adds good all in
    record {
      stands = all_stand (profile_of active cpes class adds) f;
      fits = all_fit (profile_of active cpes class adds) f;
      neither = neither (profile_of active cpes class adds) f;
    }
