-- The fields of a body: a member of a JSON object (RFC 8259), read as a value of a kind and range.
-- What JSON is, is `serde_json`'s own definition: a whole number is an integer without fraction and
-- exponent, and of two members with one key the last counts.
use Rattle.std.specs.Prelude.{ℕ, zero, suc, ◌-◌, ◌*◌, ◌^◌, ◌==◌, Bool, not, List, [], ◌∷◌, length, codes, nat_le, ℤ, pos, negsuc, Option, Some, None, option_map, option_and_then, ok_or, Result, Ok, Err, if◌then◌else◌}
use Rattle.std.specs.Int.{is_in_range}
use Rattle.std.specs.Result.{result_ok}
use Rattle.hex.specs.Hex.{decode_of}
use Rattle.serde_json.specs.Data.{Data, Items, no_items, item}
use Rattle.serde_json.specs.Find.{get, as_str, as_number, as_array, as_u64, as_i64}
use Rattle.off_base.specs.Choices.{when}
use Rattle.off_base.specs.AddressText.{ip_of}
use Rattle.off_base.specs.Tree.{Tree, leaf, group, row_of}
use Rattle.off_base.specs.declared.addresses.Ip4.{Ip4}
use Rattle.off_clerk_rules.specs.Names.{name_text}
use Rattle.off_clerk_rules.specs.Paths.{ip_with}
use Rattle.off_clerk_rules.specs.declared.names.Name.{Name}
use Rattle.off_clerk_rules.specs.declared.faults.ClerkErr.{ClerkErr}
use Rattle.off_clerk_rules.specs.declared.faults.ClerkErr.TheVariants.{Field, Value}

-- what counts where a field is missing, or else its value: it can't be read, or is read
abbrev pub member_in : {A : Type 0} → Result A ClerkErr → Name → (Data → Option A) → Option Data →
    Result A ClerkErr
member_in missing which read None = missing
member_in missing which read (Some held) = ok_or (read held) (Value which)

-- a field that must be there
abbrev pub field_in : {A : Type 0} → Name → (Data → Option A) → Data → Result A ClerkErr
field_in which read body = member_in (Err (Field which)) which read (get (name_text which) body)

-- a field that may be missing: then it has this value
abbrev pub field_or : {A : Type 0} → A → Name → (Data → Option A) → Data → Result A ClerkErr
field_or default which read body =
    member_in (Ok default) which read (get (name_text which) body)

-- a whole number within bounds
abbrev pub number_in : ℕ → ℕ → Data → Option ℕ
number_in least most held =
    option_and_then (λ n. when (is_in_range least most n) n)
    (option_and_then as_u64 (as_number held))

abbrev pub is_word : ℤ → Bool
is_word (pos n) = nat_le n (2 ^ 31 - 1)
is_word (negsuc n) = nat_le n (2 ^ 31 - 1)

-- a whole number of 32 bits with a sign
abbrev pub offset_in : Data → Option ℤ
offset_in held =
    option_and_then (λ z. when (is_word z) z) (option_and_then as_i64 (as_number held))

-- a text of at most 64 bytes
abbrev pub text_in : Data → Option (List ℕ)
text_in held = option_and_then (λ text. when (nat_le (length text) 64) text) (as_str held)

-- an address in dotted decimal
abbrev pub address_in : Data → Option Ip4
address_in held = option_map ip_with (option_and_then ip_of (as_str held))

-- one that isn't 0.0.0.0
abbrev pub relay_in : Data → Option Ip4
relay_in held =
    option_and_then (λ address. when (not (address.0 == 0)) address) (address_in held)

-- the bytes of pairs of hexadecimal digits in either case
abbrev pub hex_of : ℕ → List ℕ → Option (List ℕ)
hex_of most text = if nat_le (length text) (2 * most) then result_ok (decode_of text) else None

abbrev pub hex_in : ℕ → Data → Option (List ℕ)
hex_in most held = option_and_then (hex_of most) (as_str held)

-- an array, all of whose elements are read
abbrev pub items_in : {A : Type 0} → (Data → Option A) → Items → Option (List A)
items_in read no_items = Some []
items_in read (item d ds) =
    option_and_then (λ x. option_map (λ xs. x ∷ xs) (items_in read ds)) (read d)

abbrev pub list_in : {A : Type 0} → (Data → Option A) → Data → Option (List A)
list_in read held = option_and_then (items_in read) (as_array held)

-- a setting of a code: a leaf has `hex` alone, and a group `parts` alone
abbrev pub setting_with : (Data → Option (List Tree)) → ℕ → Option Data → Option Data → Option Tree
setting_with read code (Some hex) None = option_map (leaf code) (hex_in 255 hex)
setting_with read code None (Some parts) =
    option_map (λ trees. group code (row_of trees)) (read parts)
setting_with read code None None = None
setting_with read code (Some hex) (Some parts) = None

-- a setting, with at most so many settings within one another, itself among them
unfoldable pub tree_in : ℕ → Data → Option Tree
tree_in zero held = None
tree_in (suc depth) held =
    option_and_then (λ code. setting_with (list_in (tree_in depth)) code (get (codes "hex") held)
    (get (codes "parts") held))
    (option_and_then (number_in 0 255) (get (codes "code") held))

abbrev pub settings_in : Data → Option (List Tree)
settings_in held = list_in (tree_in 3) held
