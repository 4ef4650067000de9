-- One HTTP/1.1 request on a connection (RFC 9112), as all the bytes that have come so far tell it.
use Rattle.std.specs.Prelude.{◌≡◌, ℕ, ◌+◌, ◌≤◌, ◌⊎◌, Bool, ◌||◌, List, [], ◌∷◌, length, take, drop, map, filter, codes, nat_le, nat_eq, Option, Some, None, MatchOption, if◌then◌else◌}
use Rattle.std.specs.List.{list_any, list_all}
use Rattle.std.specs.Option.{option_eq}
use Rattle.std.specs.Str.{str_eq_ignore_ascii_case}
use Rattle.memchr.specs.Find.{FindsNeedle}
use Rattle.httparse.specs.Grammar.{RequestHead, ReadsRequest}
use Rattle.httparse.specs.Spans.{name_and_value}
use Rattle.off_base.specs.Number.{number_read}
use Rattle.off_http.specs.declared.answers.HttpFault.{HttpFault}
use Rattle.off_http.specs.declared.answers.HttpFault.TheVariants.{Head, Body, TooLong}

-- what the bytes so far say: more are awaited, or they are no request, or they are one with this
-- method, target and body
pub data Meaning : Type 0 where
  Waits : Meaning
  Refused : HttpFault → Meaning
  Asked : List ℕ → List ℕ → List ℕ → Meaning

-- The limits are this office's own (RFC 9110, section 2.3, sets none). A head has at most so many
-- bytes, its blank line among them
unfoldable pub head_limit : ℕ
head_limit = 8192

-- a head has at most so many fields
abbrev pub field_limit : ℕ
field_limit = 64

-- a body has at most so many bytes
abbrev pub body_limit : ℕ
body_limit = 1048576

-- the end of a line and an empty line after it: CR LF CR LF (RFC 9112, section 2.1)
abbrev pub blank_line : List ℕ
blank_line = 13 ∷ 10 ∷ 13 ∷ 10 ∷ []

-- a field, as its name and its value without the white space around it
abbrev pub FieldText : Type 0
FieldText = List ℕ × List ℕ

-- the field has this name. Case doesn't count (RFC 9110, section 5.1)
abbrev pub is_named : List ℕ → FieldText → Bool
is_named name field = str_eq_ignore_ascii_case field.0 name

-- the values of all fields of this name
abbrev pub values_of : List ℕ → List FieldText → List (List ℕ)
values_of name fields = map (λ field. field.1) (filter (is_named name) fields)

-- the number that 1 to 10 decimal digits spell (RFC 9110, section 8.6)
abbrev pub length_read : List ℕ → Option ℕ
length_read value = if nat_le (length value) 10 then number_read 9999999999 value else None

-- the one number that all of these are, and 0 where there are none
abbrev pub common_number : List (Option ℕ) → Option ℕ
common_number [] = Some 0
common_number (None ∷ numbers) = None
common_number (Some n ∷ numbers) =
    if list_all (λ number. option_eq nat_eq number (Some n)) numbers then Some n else None

-- the length of the body that fields declare (RFC 9112, sections 6.1 to 6.3), 0 where none does.
-- None: the body is chunked or coded (RFC 9110, section 8.4), which this office doesn't take, or a
-- length is no number, or two of them differ
abbrev pub declared_length : List FieldText → Option ℕ
declared_length fields =
    if list_any (is_named (codes "transfer-encoding")) fields || list_any
    (is_named (codes "content-encoding")) fields
    then None
    else common_number (map length_read (values_of (codes "content-length") fields))

-- the bytes are one request head (RFC 9112, sections 3 and 5) and nothing else, and it has no more
-- fields than are taken
abbrev pub IsOneHead : List ℕ → RequestHead → Type 0
IsOneHead text head = ReadsRequest text head [] × (length head.fields ≤ field_limit)

-- what a head and the bytes behind it say, by the length that is declared
abbrev pub with_length : RequestHead → List ℕ → Option ℕ → Meaning
with_length head rest None = Refused Body
with_length head rest (Some n) =
    if nat_le n body_limit
    then (if nat_le n (length rest) then Asked head.method head.target (take n rest) else Waits)
    else Refused TooLong

-- what a head and the bytes behind it say. Bytes behind the body don't count
abbrev pub with_head : RequestHead → List ℕ → Meaning
with_head head rest = with_length head rest (declared_length (map name_and_value head.fields))

-- what the bytes up to the end of the blank line say, with those behind it
abbrev pub HeadSays : List ℕ → List ℕ → Meaning → Type 0
HeadSays text rest meaning =
    ((head : RequestHead) × IsOneHead text head × (meaning ≡ with_head head rest))
    ⊎ (((head : RequestHead) → ¬ (IsOneHead text head)) × (meaning ≡ Refused Head))

-- what bytes without a blank line say: as many as a head may have are too many
abbrev pub without_head : List ℕ → Meaning
without_head bytes = if nat_le head_limit (length bytes) then Refused TooLong else Waits

-- what all the bytes of a connection so far say
pub record RequestIs (bytes : List ℕ) (meaning : Meaning) : Type 0 where
  -- where the first blank line begins, if one ends within the first bytes that a head may have
  pub place : Option ℕ
  pub first : FindsNeedle (take head_limit bytes) blank_line 0 place
  pub says : MatchOption place (meaning ≡ without_head bytes)
      (λ at. HeadSays (take (at + 4) bytes) (drop (at + 4) bytes) meaning)
