-- The bytes of the file: a gate, and behind it records. A record is a payload's length in four
-- bytes, the most significant first, the payload, and the gate of the next record.
use Rattle.std.specs.Prelude.{◌≡◌, ◌≢◌, ℕ, ◌<◌, ◌^◌, List, [], ◌∷◌, ◌++◌, length}
use Rattle.std.specs.Int.{to_be_bytes, w32}

-- a record without the next gate
abbrev pub record_of : List ℕ → List ℕ
record_of payload = to_be_bytes w32 (length payload) ++ payload

-- records behind open gates, without the last gate
abbrev pub blocks : List (List ℕ) → List ℕ
blocks [] = []
blocks (payload ∷ payloads) = 1 ∷ (record_of payload ++ blocks payloads)

abbrev pub IsShort : List ℕ → Type 0
IsShort payload = length payload < 2 ^ 32

abbrev pub AreShort : List (List ℕ) → Type 0
AreShort [] = Unit {0}
AreShort (payload ∷ payloads) = IsShort payload × AreShort payloads

-- the bytes begin with an open gate: it is 1, and a whole record follows it
pub record IsOpen (bytes payload tail : List ℕ) : Type 0 where
  pub is : bytes ≡ 1 ∷ (record_of payload ++ tail)
  pub short : IsShort payload
  pub gate : 0 < length tail

-- the bytes stand for these payloads: those of the records behind open gates, up to the first gate
-- that isn't open
abbrev pub Stands : List ℕ → List (List ℕ) → Type 0
Stands bytes [] = (payload tail : List ℕ) → IsOpen bytes payload tail → ⊥
Stands bytes (payload ∷ payloads) =
    (tail : List ℕ) × (IsOpen bytes payload tail × Stands tail payloads)

-- Closed: these records stand behind open gates, and the last gate isn't 1.
pub record IsClosed (payloads : List (List ℕ)) (bytes : List ℕ) : Type 0 where
  pub gate : ℕ
  pub rest : List ℕ
  pub is : bytes ≡ blocks payloads ++ gate ∷ rest
  pub shut : gate ≢ 1

-- Doubtful: these records stand behind open gates, the last gate is any byte, and behind it the
-- whole record of one payload more stands, with a closed gate at its end.
pub record IsDoubtful (payloads : List (List ℕ)) (payload : List ℕ)
    (bytes : List ℕ) : Type 0 where
  pub gate : ℕ
  pub rest : List ℕ
  pub is : bytes ≡ blocks payloads ++ gate ∷ (record_of payload ++ 0 ∷ rest)

-- Broken: these records stand behind open gates; behind the last gate, which is any byte, no whole
-- record stands.
pub record IsBroken (payloads : List (List ℕ)) (bytes : List ℕ) : Type 0 where
  pub gate : ℕ
  pub rest : List ℕ
  pub is : bytes ≡ blocks payloads ++ gate ∷ rest
  pub none : (payload tail : List ℕ) → IsOpen (1 ∷ rest) payload tail → ⊥
