-- What a cable modem says of itself in DHCP (CableLabs CANN-DHCP-Reg: options 43 and 60), and what
-- a relay says of the way to it (RFC 3046: option 82).
use Rattle.std.specs.Prelude.{◌≡◌, ℕ, ◌+◌, ◌≤◌, ◌==◌, Bool, true, false, ◌&&◌, List, ◌∷◌, ◌++◌, length, take, drop, nat_le, find, slice_index, Option, Some, None, Result, Ok, Err, codes}
use Rattle.std.specs.Char.{IsAsciiDigit, is_ascii_digit}
use Rattle.off_base.specs.Parts.{Part, IsReading, parts_in}
use Rattle.off_docsis.specs.declared.vendor.DeviceParts.{DeviceParts}
use Rattle.off_docsis.specs.declared.agent.RelayParts.{RelayParts}
use Rattle.off_docsis.specs.declared.spans.PartCut.{PartCut}
use Rattle.off_docsis.specs.declared.spans.Span.{Span}

-- the one reading of an option's value in parts is what the grammar says of it
abbrev pub ReadsParts : Bool → List ℕ → Type 0
ReadsParts marked value = IsReading marked value (parts_in marked value)

-- where a part's value stands
abbrev pub span_at : Option Part → Span
span_at (Some part) = record { there = true; at = part.place + 2; len = length part.value }
span_at None = record { there = false; at = 0; len = 0 }

-- the first part with this code
abbrev pub first_of : ℕ → List Part → Option Part
first_of code parts = find (λ part. part.code == code) parts

-- where its value stands
abbrev pub span_of : ℕ → List Part → Span
span_of code parts = span_at (first_of code parts)

-- the parts that the office reads of option 43: 2 the device type, 4 the serial number, 6 the
-- software version
unfoldable pub device_of : Result (List Part) ℕ → Result DeviceParts PartCut
device_of (Ok parts) =
    Ok (record { kind = span_of 2 parts; serial = span_of 4 parts; software = span_of 6 parts })
device_of (Err place) = Err (record { place = place })

-- the parts that the office reads of option 82: 1 the circuit identifier, 2 the remote identifier
unfoldable pub relay_of : Result (List Part) ℕ → Result RelayParts PartCut
relay_of (Ok parts) = Ok (record { circuit = span_of 1 parts; remote = span_of 2 parts })
relay_of (Err place) = Err (record { place = place })

-- the span lies in the option's value, and the bytes there are the value of the part, where there
-- is one
abbrev pub Shows : List ℕ → Span → Option Part → Type 0
Shows value span (Some part) =
    (span.there ≡ true) × (span.at + span.len ≤ length value)
    × (take span.len (drop span.at value) ≡ part.value)
Shows value span None = span.there ≡ false

abbrev pub ShowsDevice : List ℕ → DeviceParts → Result (List Part) ℕ → Type 0
ShowsDevice value device (Ok parts) =
    Shows value device.kind (first_of 2 parts) × Shows value device.serial (first_of 4 parts)
    × Shows value device.software (first_of 6 parts)
ShowsDevice value device (Err place) = ⊥

abbrev pub ShowsRelay : List ℕ → RelayParts → Result (List Part) ℕ → Type 0
ShowsRelay value relay (Ok parts) =
    Shows value relay.circuit (first_of 1 parts) × Shows value relay.remote (first_of 2 parts)
ShowsRelay value relay (Err place) = ⊥

-- option 60 of a modem: `docsis`, the two digits of its version with a dot between them, a colon,
-- and what follows
pub record BeginsAsModem (value : List ℕ) : Type 0 where
  pub major : ℕ
  pub minor : ℕ
  pub rest : List ℕ
  pub digits : IsAsciiDigit major × IsAsciiDigit minor
  pub whole : value ≡ codes "docsis" ++ (major ∷ 46 ∷ minor ∷ 58 ∷ rest)

-- the same as a test; `is_modem` promises that it is
abbrev pub spells_docsis : List ℕ → Bool
spells_docsis v =
    (slice_index v 0 == 100) && (slice_index v 1 == 111) && (slice_index v 2 == 99)
    && (slice_index v 3 == 115) && (slice_index v 4 == 105) && (slice_index v 5 == 115)

abbrev pub has_version : List ℕ → Bool
has_version v =
    is_ascii_digit (slice_index v 6) && (slice_index v 7 == 46) && is_ascii_digit (slice_index v 8)
    && (slice_index v 9 == 58)

unfoldable pub begins_as_modem : List ℕ → Bool
begins_as_modem v = nat_le 10 (length v) && (spells_docsis v && has_version v)
