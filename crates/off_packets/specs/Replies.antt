-- The bytes of packets that the office sends (RFC 1350 section 5; RFC 2347 section 2).
use Rattle.std.specs.Prelude.{ℕ, Bool, true, false, List, [], ◌∷◌, ◌++◌, codes, decimal, Option, Some, None}
use Rattle.std.specs.Int.{w16, to_be_bytes}
use Rattle.off_packets.specs.declared.packets.Options.{Options}

-- DATA (3): the block's number, and the block
abbrev pub data_packet : ℕ → List ℕ → List ℕ
data_packet number block = 0 ∷ 3 ∷ (to_be_bytes w16 number ++ block)

-- OACK (6): the options that were read, each by its name and a decimal number, which are ended by
-- a zero byte each: the size of blocks that was taken, the file's length, and the time between
-- resends as it was asked for (RFC 2347; RFC 2348; RFC 2349)
abbrev pub told : List ℕ → ℕ → List ℕ
told name number = name ++ 0 ∷ (decimal number ++ 0 ∷ [])

abbrev pub size_told : Option ℕ → ℕ → List ℕ
size_told None size = []
size_told (Some asked) size = told (codes "blksize") size

abbrev pub length_told : Bool → ℕ → List ℕ
length_told false len = []
length_told true len = told (codes "tsize") len

abbrev pub seconds_told : Option ℕ → List ℕ
seconds_told None = []
seconds_told (Some seconds) = told (codes "timeout") seconds

abbrev pub oack_packet : Options → ℕ → ℕ → List ℕ
oack_packet asked size len =
    0 ∷ 6 ∷ (size_told asked.blksize size
    ++ (length_told asked.tsize len ++ seconds_told asked.timeout))

-- ERROR (5): a code, and a text for people
abbrev pub error_packet : ℕ → List ℕ → List ℕ
error_packet code text = 0 ∷ 5 ∷ (to_be_bytes w16 code ++ (text ++ 0 ∷ []))
