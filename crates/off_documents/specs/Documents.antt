-- What the tokens of a JSON text (RFC 8259) mean. The grammar is `json`'s, and the values are
-- `serde_json`'s, which has a value for a number only where a float is large enough.
use Rattle.std.specs.Prelude.{◌≡◌, ℕ, false, bytes_eq, ◌+◌, ◌-◌, List, [], ◌∷◌, length, nat_lt, is_some, Option, Some, None, option_and_then, unwrap_or, if◌then◌else◌}
use Rattle.json.specs.Token.{Token}
use Rattle.json.specs.Json as json
use Rattle.serde_json.specs.Data.{Data, null, Items, no_items}
use Rattle.serde_json.specs.Read.{number_of, of_json, of_items, max_depth}

-- the value with which the tokens begin
unfoldable pub value_at : List Token → Option Data
value_at ts = option_and_then (λ p. of_json p.0) (json.value (length ts) ts)

-- the elements of an array with which they begin, up to its closing bracket
unfoldable pub items_at : List Token → Option Items
items_at ts =
    option_and_then (λ p. of_items p.0) (json.items (json.value (length ts)) (length ts) ts)

-- the same where they are known to be there
abbrev pub data_of : List Token → Data
data_of ts = unwrap_or (value_at ts) null

abbrev pub elements_of : List Token → Items
elements_of ts = unwrap_or (items_at ts) no_items

-- how many arrays and objects are open behind a token, or None where it opens one too many or is a
-- number without a value
abbrev pub level_within : ℕ → Option ℕ
level_within level = if nat_lt level max_depth then Some (level + 1) else None

abbrev pub level_after : ℕ → Token → Option ℕ
level_after level Token.begin_object = level_within level
level_after level Token.end_object = Some (level - 1)
level_after level Token.begin_array = level_within level
level_after level Token.end_array = Some (level - 1)
level_after level (Token.key s) = Some level
level_after level (Token.string s) = Some level
level_after level (Token.number s) = if is_some (number_of s) then Some level else None
level_after level (Token.boolean b) = Some level
level_after level Token.null = Some level
level_after level Token.bad = Some level

-- and behind several
abbrev pub level_behind : ℕ → List Token → Option ℕ
level_behind level [] = Some level
level_behind level (t ∷ ts) = option_and_then (λ after. level_behind after ts) (level_after level t)

-- no two of three names are the same
abbrev pub AreThree : List ℕ → List ℕ → List ℕ → Type 0
AreThree one two three =
    (bytes_eq one two ≡ false) × (bytes_eq one three ≡ false) × (bytes_eq two three ≡ false)
