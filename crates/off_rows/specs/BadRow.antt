-- Which byte of a row can't be read: the first byte of the first field that no value of the field
-- begins with. A row's fields are told by its key's kind alone, but for a lease's owners, which are
-- absent where the address was declined.
use Rattle.std.specs.Prelude.{◌≡◌, ◌≢◌, ℕ, ◌+◌, ◌≤◌, ◌==◌, List, [], ◌∷◌, ◌++◌, length, slice_index, Contains, if◌then◌else◌}
use Rattle.off_base.specs.Tree.{Tree}
use Rattle.off_tlv.specs.Grammar.{in_file, AllStand}
use Rattle.off_defs.specs.declared.keys.Key.{Key}
use Rattle.off_defs.specs.declared.keys.Key.TheVariants.{Site, Subscriber, AddOn, Modem, Class}
use Rattle.off_defs.specs.declared.keys.Key.TheVariants.{Pool, Lease, Held, Batch}
use Rattle.off_defs.specs.declared.keys.Key.TheVariants.{Hub, PoolHub, DevicePool, Device}
use Rattle.off_rows.specs.RowBytes.{counted, settings_bytes, IsText, IsShortSpelling}

-- a field: so many bytes, one byte of a few, a text, a secret, or settings
pub data Field : Type 0 where
  bytes_of : ℕ → Field
  one_of : List ℕ → Field
  text : Field
  secret : Field
  settings : Field

-- bytes that are a value of the field
abbrev pub IsField : Field → List ℕ → Type 0
IsField (bytes_of n) bytes = length bytes ≡ n
IsField (one_of marks) bytes = (mark : ℕ) × Contains marks mark × (bytes ≡ mark ∷ [])
IsField text bytes = (held : List ℕ) × IsText held × (bytes ≡ counted held)
IsField secret bytes = (held : List ℕ) × (length held ≤ 64) × (bytes ≡ counted held)
IsField settings bytes =
    (trees : List Tree) × AllStand in_file trees × IsShortSpelling trees
    × (bytes ≡ settings_bytes trees)

-- how an address is held: offered, bound or declined, and its owners, whom a declined address
-- hasn't
abbrev pub marked_fields : List Field → List ℕ → List Field
marked_fields owners bytes =
    if slice_index bytes 0 == 3 then one_of (1 ∷ 2 ∷ 3 ∷ []) ∷ []
    else one_of (1 ∷ 2 ∷ 3 ∷ []) ∷ owners

-- a modem's address has one owner
abbrev pub hold_fields : List ℕ → List Field
hold_fields bytes = marked_fields (bytes_of 6 ∷ []) bytes

-- a device's has two: the modem, and the device behind it
abbrev pub device_hold_fields : List ℕ → List Field
device_hold_fields bytes = marked_fields (bytes_of 6 ∷ bytes_of 6 ∷ []) bytes

-- the fields of each kind of rows, in their order
abbrev pub site_fields : List Field
site_fields = bytes_of 4 ∷ secret ∷ bytes_of 4 ∷ bytes_of 4 ∷ bytes_of 4 ∷ []

abbrev pub subscriber_fields : List Field
subscriber_fields = one_of (0 ∷ 1 ∷ []) ∷ bytes_of 1 ∷ text ∷ []

abbrev pub add_on_fields : List Field
add_on_fields = settings ∷ []

abbrev pub modem_fields : List Field
modem_fields = bytes_of 4 ∷ bytes_of 4 ∷ text ∷ []

abbrev pub class_fields : List Field
class_fields = text ∷ settings ∷ []

abbrev pub pool_fields : List Field
pool_fields = bytes_of 4 ∷ bytes_of 4 ∷ bytes_of 1 ∷ bytes_of 4 ∷ bytes_of 4 ∷ []

abbrev pub held_fields : List Field
held_fields = bytes_of 4 ∷ []

abbrev pub batch_fields : List Field
batch_fields = one_of (1 ∷ 2 ∷ []) ∷ bytes_of 16 ∷ bytes_of 4 ∷ []

abbrev pub pool_hub_fields : List Field
pool_hub_fields = bytes_of 4 ∷ []

-- the fields of a row that is to have these bytes
abbrev pub fields_of : Key → List ℕ → List Field
fields_of Site bytes = site_fields
fields_of (Subscriber number) bytes = subscriber_fields
fields_of (AddOn subscriber number) bytes = add_on_fields
fields_of (Modem mac) bytes = modem_fields
fields_of (Class number) bytes = class_fields
fields_of (Pool number) bytes = pool_fields
fields_of (Lease address) bytes = hold_fields bytes ++ bytes_of 8 ∷ []
fields_of (Held mac) bytes = held_fields
fields_of (Batch number) bytes = batch_fields
fields_of (Hub number) bytes = site_fields
fields_of (PoolHub pool) bytes = pool_hub_fields
fields_of (DevicePool number) bytes = pool_fields
fields_of (Device address) bytes = device_hold_fields bytes ++ bytes_of 8 ∷ []

-- no value of the field stands at the front of the bytes
abbrev pub CannotRead : Field → List ℕ → Type 0
CannotRead field bytes = (first rest : List ℕ) → IsField field first → bytes ≢ first ++ rest

-- From a place on, fields stand in the bytes up to the first that can't be read, which is at
-- `place`; or all of them stand there, and at `place` a byte is left over.
pub data BadFrom : List Field → List ℕ → ℕ → ℕ → Type 0 where
  unread : {field : Field} {fields : List Field} {bytes : List ℕ} {from place : ℕ}
      → CannotRead field bytes → place ≡ from
      → BadFrom (field ∷ fields) bytes from place
  behind : {field : Field} {fields : List Field} {bytes : List ℕ} {from place : ℕ}
      → (first rest : List ℕ) (next : ℕ) → IsField field first → bytes ≡ first ++ rest →
      next ≡ from + length first
      → BadFrom fields rest next place
      → BadFrom (field ∷ fields) bytes from place
  left_over : {bytes : List ℕ} {from place : ℕ} → bytes ≢ [] → place ≡ from →
      BadFrom [] bytes from place

-- the place of the first byte of a row of the key's kind that can't be read
abbrev pub IsBadAt : Key → List ℕ → ℕ → Type 0
IsBadAt key bytes place = BadFrom (fields_of key bytes) bytes 0 place
