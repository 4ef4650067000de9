-- The columns of an import: their names, and what a field of each may hold.
use Rattle.std.specs.Prelude.{ℕ, ◌-◌, ◌^◌, Bool, true, false, ◌&&◌, List, [], ◌∷◌, length, codes, nat_le, bytes_eq, Option, Some, None, option_map, option_and_then, if◌then◌else◌}
use Rattle.std.specs.Str.{is_utf8}
use Rattle.off_base.specs.AddressText.{mac_of}
use Rattle.off_base.specs.Number.{number_read}
use Rattle.off_base.specs.declared.macs.Mac.{Mac}
use Rattle.off_defs.specs.Bounds.{most_devices}
use Rattle.off_defs.specs.declared.tables.ImportKind.{ImportKind}
use Rattle.off_defs.specs.declared.tables.ImportKind.TheVariants.{Subscribers, Modems}

-- the names, in the order of the columns
abbrev pub columns : ImportKind → List (List ℕ)
columns Subscribers = codes "subscriber" ∷ codes "active" ∷ codes "cpes" ∷ codes "name" ∷ []
columns Modems = codes "mac" ∷ codes "subscriber" ∷ codes "class" ∷ codes "serial" ∷ []

-- the number of a subscriber or of a class
abbrev pub number_cell : List ℕ → Option ℕ
number_cell text = number_read (2 ^ 32 - 1) text

abbrev pub flag_cell : List ℕ → Option Bool
flag_cell text =
    if bytes_eq text (codes "yes") then Some true
    else if bytes_eq text (codes "no") then Some false
    else None

-- how many devices there are behind a modem: 1 to 254
abbrev pub devices_cell : List ℕ → Option ℕ
devices_cell text =
    option_and_then (λ count. if nat_le 1 count then Some count else None)
    (number_read most_devices text)

-- UTF-8 (RFC 3629) of at most 64 bytes
abbrev pub text_cell : List ℕ → Option (List ℕ)
text_cell text = if nat_le (length text) 64 && is_utf8 text then Some text else None

-- a hardware address
abbrev pub mac_cell : List ℕ → Option Mac
mac_cell text = option_map (λ bytes. record { 0 = bytes }) (mac_of text)
