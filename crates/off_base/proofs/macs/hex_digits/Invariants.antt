use Rattle.std.proofs.Common.{◌≡◌, ◌≤◌, length, take}
use Rattle.off_base.specs.AddressText.{digits_in}
use Rattle.off_base.proofs.macs.hex_digits.Given as goal

abbrev pub invariant-loop-byte : goal.invariant-loop-byte
invariant-loop-byte l = (l.digits.items ≡ digits_in (take l.byte-index l.text)) × (length l.digits.items ≤ l.byte-index)
