-- Worked examples of options, their parts and their joined values.
use Rattle.std.proofs.Common.{◌≡◌, true, false, [], ◌∷◌, Some, None, Ok, Err, refl}
use Rattle.off_base.specs.Parts.{parts_in, joined}

-- a pad, option 53, option 43 twice with a pad between, the end, and a byte that is ignored
options_read : joined 43 (parts_in true (0 ∷ 53 ∷ 1 ∷ 1 ∷ 43 ∷ 2 ∷ 9 ∷ 8 ∷ 0 ∷ 43 ∷ 1 ∷ 7 ∷ 255 ∷ 43 ∷ [])) ≡ Some (9 ∷ 8 ∷ 7 ∷ [])
unfolding parts_in
options_read = refl

option_missing : joined 82 (parts_in true (53 ∷ 1 ∷ 1 ∷ [])) ≡ None
unfolding parts_in
option_missing = refl

option_cut : parts_in true (53 ∷ 1 ∷ 1 ∷ 0 ∷ 43 ∷ 3 ∷ 9 ∷ 8 ∷ []) ≡ Err 4
unfolding parts_in
option_cut = refl

-- in option 82 the codes 0 and 255 have a length
parts_read : parts_in false (0 ∷ 0 ∷ 255 ∷ 1 ∷ 7 ∷ []) ≡ Ok (record { code = 0; place = 0; value = [] } ∷ record { code = 255; place = 2; value = 7 ∷ [] } ∷ [])
unfolding parts_in
parts_read = refl
