-- The code of what is kept, by which a proof tells two such values apart. Nothing here says what
-- the office does.
use Rattle.std.specs.Prelude.{ℕ, List, refl}
use Rattle.std.specs.Coded.{Coded, code_by, coded×, coded_ℕ, coded_list}
use Rattle.off_base.specs.declared.macs.Mac.{Mac}
use Rattle.off_base.specs.Macs.{mac_code}
use Rattle.off_users.specs.declared.named.Named.{Named}
use Rattle.off_users.specs.Users.{UsersHeld}
use Rattle.off_users.specs.Kept.{NamedMap}
use Rattle.std.specs.FinMap as map

abbrev named_code : Coded Named
named_code =
    code_by (ℕ × ℕ) (coded× coded_ℕ coded_ℕ) (λ named. (named.subscriber, named.class))
    (λ p. record { subscriber = p.0; class = p.1 }) (λ _. refl)

abbrev pub users_code : Coded UsersHeld
users_code =
    code_by (List (Mac × Named) × ℕ) (coded× (coded_list (coded× mac_code named_code)) coded_ℕ)
    (λ h. (h.modems, h.room)) (λ p. record { modems = p.0; room = p.1 }) (λ _. refl)

abbrev pub named_map_code : Coded NamedMap
named_map_code = map.code mac_code named_code
