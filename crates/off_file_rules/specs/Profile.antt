-- A modem's profile: the settings of its configuration file (CM-SP-MULPIv3.1, annex C) before those
-- that depend on the moment, on its address and on the secret. It is made of the rows of the
-- modem's subscriber, of its class, and of the subscriber's add-ons.
use Rattle.std.specs.Prelude.{ℕ, ◌+◌, ◌*◌, ◌/◌, ◌%◌, ◌==◌, ◌&&◌, ◌||◌, Bool, true, false, List, [], ◌∷◌, ◌++◌, map, Option, option_map, option_and_then, if◌then◌else◌}
use Rattle.std.specs.List.{flat_map, filter_map}
use Rattle.off_base.specs.Tree.{Tree, Row, leaf, group, no_more, followed}
use Rattle.off_base.specs.declared.macs.Mac.{Mac}
use Rattle.off_tree.specs.Fault.{is_classifier}
use Rattle.off_defs.specs.Bounds.{add_on_numbers}
use Rattle.off_defs.specs.State.{Tables}
use Rattle.off_account_rules.specs.Rows.{subscriber_in, class_in, modem_in, add_on_in}

-- Add-ons are written with references of their own, from 1 or from 0 on. In a profile those of
-- add-on k are raised, so that they differ from the class's and from another add-on's. The
-- reference of a flow has two bytes, the more significant first, that of a classifier one; a value
-- of another length isn't a reference, and stays.
abbrev pub two_bytes : ℕ → List ℕ
two_bytes n = (n / 256 % 256) ∷ (n % 256) ∷ []

abbrev pub raised_pair : ℕ → List ℕ → List ℕ
raised_pair by (a ∷ b ∷ []) = two_bytes (a * 256 + b + by)
raised_pair by value = value

abbrev pub raised_single : ℕ → List ℕ → List ℕ
raised_single by (a ∷ []) = ((a + by) % 256) ∷ []
raised_single by value = value

-- by how much in add-on k: flows are numbered from 256 * (k + 1) on, classifiers from 128 + 16 * k
-- on
abbrev pub flow_rise : ℕ → ℕ
flow_rise k = 256 * (k + 1)

abbrev pub classifier_rise : ℕ → ℕ
classifier_rise k = 128 + 16 * k

-- the settings of service flows (annex C.2.2), of which part 1 is the flow's reference, and those
-- of classifiers (annex C.2.1), of which part 1 is the classifier's reference and part 3 the one of
-- its flow
abbrev pub is_flow : ℕ → Bool
is_flow code = code == 24 || code == 25

abbrev pub has_flow : ℕ → ℕ → Bool
has_flow code part = (is_flow code && part == 1) || (is_classifier code && part == 3)

abbrev pub has_classifier : ℕ → ℕ → Bool
has_classifier code part = is_classifier code && part == 1

-- the value of a part of a setting, as it stands in a profile for add-on k
abbrev pub raised_value : ℕ → ℕ → ℕ → List ℕ → List ℕ
raised_value k code part value =
    if has_flow code part then raised_pair (flow_rise k) value
    else if has_classifier code part then raised_single (classifier_rise k) value
    else value

abbrev pub raised_part : ℕ → ℕ → Tree → Tree
raised_part k code (leaf part value) = leaf part (raised_value k code part value)
raised_part k code (group part parts) = group part parts

abbrev pub raised_parts : ℕ → ℕ → Row → Row
raised_parts k code no_more = no_more
raised_parts k code (followed part parts) =
    followed (raised_part k code part) (raised_parts k code parts)

abbrev pub raised : ℕ → Tree → Tree
raised k (leaf code value) = leaf code value
raised k (group code parts) = group code (raised_parts k code parts)

-- add-ons, each with its number, one after another
abbrev pub all_raised : List (ℕ × List Tree) → List Tree
all_raised add_ons = flat_map (λ add_on. map (raised add_on.0) add_on.1) add_ons

-- setting 3 tells whether devices behind the modem have access (annex C.1.1.3), setting 18 how many
-- there may be (annex C.1.1.9)
abbrev pub access : ℕ → Tree
access allowed = leaf 3 (allowed ∷ [])

abbrev pub devices : ℕ → Tree
devices cpes = leaf 18 (cpes ∷ [])

abbrev pub active_profile : ℕ → List Tree → List (ℕ × List Tree) → List Tree
active_profile cpes class add_ons = access 1 ∷ (class ++ devices cpes ∷ all_raised add_ons)

-- a flow of each direction with nothing but its reference and the bits that provision, admit and
-- activate it
abbrev pub plain_flow : ℕ → ℕ → Tree
plain_flow code reference =
    group code (followed (leaf 1 (0 ∷ reference ∷ [])) (followed (leaf 6 (7 ∷ [])) no_more))

abbrev pub suspended_profile : ℕ → List Tree
suspended_profile cpes = access 0 ∷ plain_flow 24 1 ∷ plain_flow 25 2 ∷ devices cpes ∷ []

-- the profile by the rows: whether the subscriber has service, how many devices it may have, its
-- class's settings, its add-ons
abbrev pub profile_of : Bool → ℕ → List Tree → List (ℕ × List Tree) → List Tree
profile_of true cpes class add_ons = active_profile cpes class add_ons
profile_of false cpes class add_ons = suspended_profile cpes

-- a subscriber's add-ons in the tables, in ascending number
abbrev pub numbered_add_on : Tables → ℕ → ℕ → Option (ℕ × List Tree)
numbered_add_on tables subscriber k =
    option_map (λ settings. (k, settings)) (add_on_in tables subscriber k)

abbrev pub add_ons_in : Tables → ℕ → List (ℕ × List Tree)
add_ons_in tables subscriber = filter_map (numbered_add_on tables subscriber) add_on_numbers

-- the profile by a subscriber and a class in the tables, where both are there
abbrev pub profile_at : Tables → ℕ → ℕ → Option (List Tree)
profile_at tables subscriber class =
    option_and_then (λ who.
    option_map (λ row. profile_of who.active who.cpes row.settings (add_ons_in tables subscriber))
    (class_in tables class))
    (subscriber_in tables subscriber)

-- the profile of a modem, where it, its subscriber and its class are there
unfoldable pub profile_in : Tables → Mac → Option (List Tree)
profile_in tables mac =
    option_and_then (λ modem. profile_at tables modem.subscriber modem.class) (modem_in tables mac)
