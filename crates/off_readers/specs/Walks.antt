-- Walks over the entries of tables that a keeper gives one by one, and why each of them ends.
use Rattle.std.specs.Prelude.{◌≡◌, ℕ, zero, suc, ◌+◌, ◌-◌, ◌*◌, ◌^◌, ◌<◌, true, Option, Some, None, List, [], ◌∷◌, get_or}
use Rattle.off_defs.specs.declared.keys.Key.{Key}
use Rattle.off_defs.specs.declared.keys.Key.TheVariants.{Modem, Held}
use Rattle.off_defs.specs.declared.tables.Row.{Row}
use Rattle.off_defs.specs.Tables.{is_after}
use Rattle.off_rows.specs.KeyBytes.{key_bytes, IsRanged}

-- A list of at most k bytes as a number that rises with the order of such lists. Each byte is a
-- digit one greater than itself, so that a list which goes on is above one that ends.
unfoldable pub height : ℕ → List ℕ → ℕ
height zero bytes = 0
height (suc k) [] = 0
height (suc k) (byte ∷ bytes) = suc byte * 257 ^ k + height k bytes

-- A bound on how many keys lie behind a place. A key has at most 9 bytes.
unfoldable pub room : Option Key → ℕ
room None = 257 ^ 9
room (Some key) = 257 ^ 9 - 1 - height 9 (key_bytes key)

-- the bytes of a hardware address are bytes
abbrev pub HasBytes : Key → Type 0
HasBytes (Modem mac) = (i : ℕ) → get_or mac.0 i 0 < 256
HasBytes (Held mac) = (i : ℕ) → get_or mac.0 i 0 < 256
HasBytes key = Unit {0}

-- a key of the program: its numbers are in the ranges of their types
abbrev pub IsAKey : Key → Type 0
IsAKey key = IsRanged key × HasBytes key

-- the entry, if there is one, lies behind the place, and fewer keys lie behind it
pub record IsBehind (place : Option Key) (entry : Key × Row) : Type 0 where
  pub after : is_after place entry ≡ true
  pub less : room (Some entry.0) < room place

abbrev pub IfBehind : Option Key → Option (Key × Row) → Type 0
IfBehind place None = Unit {0}
IfBehind place (Some entry) = IsBehind place entry
