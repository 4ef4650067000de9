-- The texts of a request, as they are laid out (RFC 1350 section 5).
use Rattle.std.specs.Prelude.{◌≡◌, ◌↔◌, ℕ, ◌≤◌, Bool, false, List, [], ◌∷◌, ◌++◌, length, Some, Ok}
use Rattle.std.specs.List.{flat_map, list_any, AllByRecursion}
use Rattle.off_packets.specs.declared.packets.Options.{Options}
use Rattle.off_packets.specs.Packets.{is_zero, ended_texts, Reads, request_of, packet_of}

abbrev pub has_zero : List ℕ → Bool
has_zero text = list_any is_zero text

abbrev pub with_zero : List ℕ → List ℕ
with_zero text = text ++ 0 ∷ []

-- one text behind another, each ended by a zero byte, and no zero behind the last
pub record IsEnded (bytes : List ℕ) (texts : List (List ℕ)) : Type 0 where
  pub rest : List ℕ
  pub whole : bytes ≡ flat_map with_zero texts ++ rest
  pub texts_free : AllByRecursion (λ text. has_zero text ≡ false) texts
  pub rest_free : has_zero rest ≡ false

-- bytes have these texts and no others
abbrev pub TextsAreThese : Type 0
TextsAreThese =
    (bytes : List ℕ) (texts : List (List ℕ)) → (ended_texts bytes ≡ texts) ↔ IsEnded bytes texts

-- a read request of no more than 1,500 bytes says what its texts say
abbrev pub RequestsAreRead : Type 0
RequestsAreRead =
    (bytes : List ℕ) (texts : List (List ℕ)) → IsEnded bytes texts → length bytes ≤ 1498
    → packet_of (0 ∷ 1 ∷ bytes) ≡ request_of texts

-- a size that is read lies in the range of the option
abbrev pub SizesFit : Type 0
SizesFit =
    (bytes name : List ℕ) (asked : Options) (size : ℕ) → packet_of bytes ≡ Ok (Reads name asked)
    → asked.blksize ≡ Some size → (8 ≤ size) × (size ≤ 65464)

-- and so do seconds that are read
abbrev pub SecondsFit : Type 0
SecondsFit =
    (bytes name : List ℕ) (asked : Options) (seconds : ℕ)
    → packet_of bytes ≡ Ok (Reads name asked) → asked.timeout ≡ Some seconds
    → (1 ≤ seconds) × (seconds ≤ 255)
