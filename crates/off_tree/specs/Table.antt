-- The tables of settings, by the place of a list of settings: this project's profile of
-- CM-SP-MULPIv3.1, annex C. A line has a code, what stands under it, and how often. The tables of
-- the code are proved to be these.
use Rattle.std.specs.Prelude.{ℕ, ◌==◌, ◌||◌, Bool, true, false, List, [], ◌∷◌, Option, Some, None, if◌then◌else◌}
use Rattle.std.specs.List.{flat_map}
use Rattle.off_tree.specs.declared.tables.Level.{Level}
use Rattle.off_tree.specs.declared.tables.Level.TheVariants.{Top, Classifier, UpstreamFlow, DownstreamFlow, Ip, Extension}
use Rattle.off_tree.specs.declared.tables.Kind.TheVariants.{Class, AddOn}
use Rattle.off_tree.specs.declared.tables.Rule.{Rule}
use Rattle.off_tree.specs.declared.tables.Form.{Form}
use Rattle.off_tree.specs.declared.tables.Form.TheVariants.{Leaf, Group}
use Rattle.off_tree.specs.declared.tables.Range.TheVariants as range
use Rattle.off_tree.specs.declared.tables.Times.{Times}
use Rattle.off_tree.specs.declared.tables.Times.TheVariants.{Any, AtMostOnce, Once, AtLeastOnce}

-- a value of so many bytes, the same with a number in a range, a text of 2 to 16 bytes with its
-- zero, and a list of parts
abbrev pub leaf_of : ℕ → Form
leaf_of n = Leaf n n range.Any

abbrev pub within : ℕ → ℕ → ℕ → Form
within n least most = Leaf n n (range.Number least most)

abbrev pub name_form : Form
name_form = Leaf 2 16 range.Name

abbrev pub a_group : Form
a_group = Group

-- how often a setting stands in a place: not at all, at most once, exactly once, any number of
-- times, at least once
abbrev pub never : Option Times
never = None

abbrev pub once : Option Times
once = Some AtMostOnce

abbrev pub must : Option Times
must = Some Once

abbrev pub often : Option Times
often = Some Any

abbrev pub needed : Option Times
needed = Some AtLeastOnce

-- a line of a table for two places, with how often the setting stands in either
pub record Listed : Type 0 where
  pub code : ℕ
  pub form : Form
  pub first : Option Times
  pub second : Option Times

abbrev pub listed : ℕ → Form → Option Times → Option Times → Listed
listed code form first second = record { code = code; form = form; first = first; second = second }

-- the settings of a class, and of an add-on
abbrev pub top_settings : List Listed
top_settings =
    listed 1 (leaf_of 4) once never  -- downstream frequency
    ∷ listed 2 (leaf_of 1) once never  -- upstream channel
    ∷ listed 22 a_group often often  -- upstream classifier
    ∷ listed 23 a_group often often  -- downstream classifier
    ∷ listed 24 a_group needed often  -- upstream service flow
    ∷ listed 25 a_group needed often  -- downstream service flow
    ∷ listed 28 (leaf_of 2) once never  -- maximum classifiers
    ∷ listed 29 (within 1 0 1) once never  -- privacy enable
    ∷ listed 43 a_group often often  -- extension or vendor field
    ∷ []

-- the parts of an upstream service flow, setting 24, and of a downstream one, 25
abbrev pub flow_parts : List Listed
flow_parts =
    listed 1 (within 2 1 255) must must  -- reference
    ∷ listed 4 name_form once once  -- service class name
    ∷ listed 6 (within 1 1 7) must must  -- QoS set type: bit 0 provisioned, 1 admitted, 2 active
    ∷ listed 7 (within 1 0 7) once once  -- traffic priority
    ∷ listed 8 (leaf_of 4) once once  -- maximum sustained rate, bits per second
    ∷ listed 9 (leaf_of 4) once once  -- maximum burst, bytes
    ∷ listed 10 (leaf_of 4) once once  -- minimum reserved rate
    ∷ listed 11 (leaf_of 2) once once  -- packet size for the minimum rate
    ∷ listed 12 (leaf_of 2) once once  -- timeout for active parameters
    ∷ listed 13 (leaf_of 2) once once  -- timeout for admitted parameters
    ∷ listed 14 (leaf_of 4) never once  -- maximum latency
    ∷ listed 15 (within 1 1 7) once never  -- scheduling type: 2 best effort, 6 unsolicited grants
    ∷ listed 16 (leaf_of 4) once never  -- request policy
    ∷ listed 19 (leaf_of 2) once never  -- grant size
    ∷ listed 20 (leaf_of 4) once never  -- grant interval
    ∷ listed 21 (leaf_of 4) once never  -- grant jitter
    ∷ listed 22 (leaf_of 1) once never  -- grants per interval
    ∷ listed 27 (leaf_of 4) once once  -- peak rate
    ∷ []

-- the parts of a classifier, settings 22 and 23, in a class and in an add-on
abbrev pub classifier_parts : List Listed
classifier_parts =
    listed 1 (within 1 1 127) must never  -- reference, of a class
    ∷ listed 1 (within 1 0 15) never must  -- reference, of an add-on
    ∷ listed 3 (within 2 1 255) must must  -- service flow reference
    ∷ listed 5 (leaf_of 1) once once  -- priority
    ∷ listed 6 (within 1 0 1) once once  -- activation
    ∷ listed 9 a_group once once  -- IPv4 group
    ∷ []

-- a line of a table for one place
abbrev pub rule : ℕ → Form → Times → Rule
rule code form times = record { code = code; times = times; form = form }

-- the parts of a classifier's IPv4 group
abbrev pub ip_parts : List Rule
ip_parts =
    rule 1 (leaf_of 3) AtMostOnce  -- type of service: low, high and mask
    ∷ rule 2 (leaf_of 2) AtMostOnce  -- protocol
    ∷ rule 3 (leaf_of 4) AtMostOnce  -- source address
    ∷ rule 4 (leaf_of 4) AtMostOnce  -- source mask
    ∷ rule 5 (leaf_of 4) AtMostOnce  -- destination address
    ∷ rule 6 (leaf_of 4) AtMostOnce  -- destination mask
    ∷ rule 7 (leaf_of 2) AtMostOnce  -- first source port
    ∷ rule 8 (leaf_of 2) AtMostOnce  -- last source port
    ∷ rule 9 (leaf_of 2) AtMostOnce  -- first destination port
    ∷ rule 10 (leaf_of 2) AtMostOnce  -- last destination port
    ∷ []

-- the part of an extension field, setting 43, that has to stand there
abbrev pub extension_parts : List Rule
extension_parts =
    rule 8 (leaf_of 3) Once  -- vendor identifier
    ∷ []

-- every other part of an extension field
abbrev pub other_extension : Rule
other_extension = rule 0 (Leaf 0 254 range.Any) Any

-- the lines of one place
abbrev pub at_place : Listed → Option Times → List Rule
at_place l None = []
at_place l (Some times) = rule l.code l.form times ∷ []

abbrev pub in_first : List Listed → List Rule
in_first lines = flat_map (λ l. at_place l l.first) lines

abbrev pub in_second : List Listed → List Rule
in_second lines = flat_map (λ l. at_place l l.second) lines

unfoldable pub table_of : Level → List Rule
table_of (Top Class) = in_first top_settings
table_of (Top AddOn) = in_second top_settings
table_of UpstreamFlow = in_first flow_parts
table_of DownstreamFlow = in_second flow_parts
table_of (Classifier Class) = in_first classifier_parts
table_of (Classifier AddOn) = in_second classifier_parts
table_of Ip = ip_parts
table_of Extension = extension_parts

-- the line for a code
abbrev pub rule_with : ℕ → List Rule → Option Rule
rule_with code [] = None
rule_with code (first ∷ rules) = if first.code == code then Some first else rule_with code rules

-- an extension field may have any other part
abbrev pub others : Level → Option Rule
others (Top kind) = None
others (Classifier kind) = None
others UpstreamFlow = None
others DownstreamFlow = None
others Ip = None
others Extension = Some other_extension

abbrev pub or_other : Option Rule → Option Rule → Option Rule
or_other None other = other
or_other (Some found) other = Some found

abbrev pub rule_of : Level → ℕ → Option Rule
rule_of level code = or_other (rule_with code (table_of level)) (others level)

-- Where the parts of a group stand: of 22 to 25 and 43 at the top, and of 9 in a classifier. No
-- table has another group, so a group of another code or in another place is a fault (or isn't
-- good) by its line alone, and what stands here for it is of no effect.
abbrev pub level_inside : Level → ℕ → Level
level_inside (Top kind) code =
    if code == 22 || code == 23 then Classifier kind
    else if code == 24 then UpstreamFlow
    else if code == 25 then DownstreamFlow
    else Extension
level_inside (Classifier kind) code = Ip
level_inside UpstreamFlow code = Ip
level_inside DownstreamFlow code = Ip
level_inside Ip code = Ip
level_inside Extension code = Ip

abbrev pub is_single : Times → Bool
is_single Any = false
is_single AtMostOnce = true
is_single Once = true
is_single AtLeastOnce = false

abbrev pub is_needed : Times → Bool
is_needed Any = false
is_needed AtMostOnce = false
is_needed Once = true
is_needed AtLeastOnce = true
