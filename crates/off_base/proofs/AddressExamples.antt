-- Worked examples of the texts of addresses.
use Rattle.std.proofs.Common.{◌≡◌, [], ◌∷◌, Some, None, refl, codes}
use Rattle.std.specs.Fmt.{digits}
use Rattle.hex.proofs.OnLiterals.{hex_on_literals}
use Rattle.off_base.specs.AddressText.{ip_text_of, ip_of, mac_of, mac_text_of}

ip_text_is : ip_text_of 0x0a40000a ≡ codes "10.64.0.10"
unfolding ip_text_of digits
ip_text_is = refl

ip_is_read : ip_of (codes "255.0.100.9") ≡ Some 0xff006409
unfolding ip_of ip_text_of digits
ip_is_read = refl

leading_zero_is_none : ip_of (codes "010.0.0.1") ≡ None
unfolding ip_of ip_text_of digits
leading_zero_is_none = refl

mac_text_is : mac_text_of (2 ∷ 170 ∷ 187 ∷ 204 ∷ 221 ∷ 238 ∷ []) ≡ codes "02aabbccddee"
unfolding hex_on_literals
mac_text_is = refl

mac_is_read : mac_of (codes "02aA.bbcC.dDee") ≡ Some (2 ∷ 170 ∷ 187 ∷ 204 ∷ 221 ∷ 238 ∷ [])
unfolding mac_of hex_on_literals
mac_is_read = refl

mixed_separators_are_none : mac_of (codes "02-aa:bb-cc-dd-ee") ≡ None
unfolding mac_of hex_on_literals
mixed_separators_are_none = refl
