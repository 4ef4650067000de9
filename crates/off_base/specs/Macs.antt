-- When two hardware addresses are the same: byte by byte; and the code by which a proof tells two
-- values apart that hold them.
use Rattle.std.specs.Prelude.{ℕ, Bool, List, refl}
use Rattle.std.specs.Str.{bytes_eq}
use Rattle.std.specs.Coded.{Coded, code_by, coded_ℕ, coded_list}
use Rattle.off_base.specs.declared.macs.Mac.{Mac}

abbrev pub is_same_mac : Mac → Mac → Bool
is_same_mac a b = bytes_eq a.0 b.0

abbrev pub mac_code : Coded Mac
mac_code =
    code_by (List ℕ) (coded_list coded_ℕ) (λ mac. mac.0) (λ bytes. record { 0 = bytes })
    (λ _. refl)
