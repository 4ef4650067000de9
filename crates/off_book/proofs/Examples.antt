-- Worked examples, evaluated: the definitions say what was meant.
use Rattle.std.proofs.Common.{◌≡◌, [], ◌∷◌, refl, codes, Some, None}
use Rattle.off_base.specs.Number.{number_read}
use Rattle.off_defs.specs.Clock.{time_bytes}
use Rattle.hex.proofs.OnLiterals.{hex_on_literals}
use Rattle.off_defs.specs.declared.tables.ImportKind.TheVariants.{Modems}
use Rattle.off_book.specs.Words.{serve_of, import_of, drill_of, secret_of, job_of, to_import, to_drill, to_seal}

-- 1 January 1970: 2,208,988,800 seconds
time_at_zero : time_bytes 0 ≡ 0x83 ∷ 0xaa ∷ 0x7e ∷ 0x80 ∷ []
time_at_zero = refl

-- the sum stops at the greatest moment
time_stops : time_bytes 18446744073709551615 ≡ 0xff ∷ 0xff ∷ 0xff ∷ 0xff ∷ []
time_stops = refl

-- 7 February 2036, 06:28:16 UTC: the number begins again
time_wraps : time_bytes 2085978496 ≡ 0 ∷ 0 ∷ 0 ∷ 0 ∷ []
time_wraps = refl

time_in_2023 : time_bytes 1700000000 ≡ 0xe8 ∷ 0xfe ∷ 0x6f ∷ 0x80 ∷ []
time_in_2023 = refl

serve_words : serve_of (codes "serve" ∷ codes "--store" ∷ codes "memory" ∷ codes "--ports" ∷ codes "67,37,69,8080" ∷ codes "--turns" ∷ codes "5" ∷ [])
    ≡ Some (record { store = codes "memory"; ports = 67 ∷ 37 ∷ 69 ∷ 8080 ∷ []; turns = 5 })
unfolding serve_of number_read
serve_words = refl

no_port_zero : serve_of (codes "serve" ∷ codes "--store" ∷ codes "memory" ∷ codes "--ports" ∷ codes "67,0,69,8080" ∷ codes "--turns" ∷ codes "5" ∷ []) ≡ None
unfolding serve_of number_read
no_port_zero = refl

import_words : job_of (codes "import" ∷ codes "--store" ∷ codes "memory" ∷ codes "modems" ∷ codes "7" ∷ [])
    ≡ Some (to_import (record { store = codes "memory"; kind = Modems; batch = 7 }))
unfolding serve_of import_of number_read
import_words = refl

drill_words : job_of (codes "drill" ∷ codes "4000" ∷ []) ≡ Some (to_drill 4000)
unfolding serve_of import_of drill_of number_read
drill_words = refl

no_drill_of_none : job_of (codes "drill" ∷ codes "0" ∷ []) ≡ None
unfolding serve_of import_of drill_of number_read
no_drill_of_none = refl

no_drill_of_more : job_of (codes "drill" ∷ codes "4001" ∷ []) ≡ None
unfolding serve_of import_of drill_of number_read
no_drill_of_more = refl

seal_words : job_of (codes "seal" ∷ codes "73aBFf" ∷ []) ≡ Some (to_seal (0x73 ∷ 0xab ∷ 0xff ∷ []))
unfolding serve_of import_of drill_of secret_of hex_on_literals
seal_words = refl

odd_secret : job_of (codes "check" ∷ codes "73a" ∷ []) ≡ None
unfolding serve_of import_of drill_of secret_of hex_on_literals
odd_secret = refl
