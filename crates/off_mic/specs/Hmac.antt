-- HMAC (RFC 2104) with MD5 (RFC 1321): the section numbers are RFC 2104's.
use Rattle.std.specs.Prelude.{◌≡◌, ℕ, ◌-◌, nat_lt, List, ◌++◌, length, map, replicate, bit_xor, if◌then◌else◌}
use Rattle.md5.specs.Md5.{md5, Holds}
use Rattle.off_mic.specs.declared.keyed.Hmac.{Hmac}

-- a key longer than a block of 64 bytes is digested first (2)
abbrev pub short_key : List ℕ → List ℕ
short_key key = if nat_lt 64 (length key) then md5 key else key

-- the key, filled with zeros to a block
abbrev pub padded_key : List ℕ → List ℕ
padded_key key = short_key key ++ replicate (64 - length (short_key key)) 0

-- the block with each byte taken with a constant by exclusive or
abbrev pub masked : ℕ → List ℕ → List ℕ
masked mask block = map (λ b. bit_xor b mask) block

abbrev pub inner_pad : List ℕ → List ℕ
inner_pad key = masked 0x36 (padded_key key)

abbrev pub outer_pad : List ℕ → List ℕ
outer_pad key = masked 0x5c (padded_key key)

-- the message authentication code (2)
unfoldable pub hmac : List ℕ → List ℕ → List ℕ
hmac key message = md5 (outer_pad key ++ md5 (inner_pad key ++ message))

-- the state has taken in the message under the key
unfoldable pub HoldsKeyed : Hmac → List ℕ → List ℕ → Type 0
HoldsKeyed s key message = Holds s.inner (inner_pad key ++ message) × (s.outer ≡ outer_pad key)
