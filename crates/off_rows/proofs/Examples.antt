-- Worked examples, evaluated: the definitions say what was meant.
use Rattle.std.proofs.Common.{◌≡◌, [], ◌∷◌, refl, codes, negsuc}
use Rattle.std.specs.Fmt.{digits}
use Rattle.off_base.specs.Tree.{leaf}
use Rattle.off_defs.specs.declared.keys.Key.TheVariants as key
use Rattle.off_defs.specs.declared.tables.Row.TheVariants as row
use Rattle.off_defs.specs.declared.tables.Hold.TheVariants.{Declined}
use Rattle.off_rows.specs.KeyBytes.{key_bytes}
use Rattle.off_rows.specs.KeyText.{key_text_of}
use Rattle.off_rows.specs.RowBytes.{row_bytes}

-- the modem 02:aa:bb:cc:dd:ee holds 10.64.0.10
held_key : key_bytes (key.Held (record { 0 = 2 ∷ 0xaa ∷ 0xbb ∷ 0xcc ∷ 0xdd ∷ 0xee ∷ [] })) ≡ 8 ∷ 2 ∷ 0xaa ∷ 0xbb ∷ 0xcc ∷ 0xdd ∷ 0xee ∷ []
held_key = refl

held_row : row_bytes (row.Held (record { 0 = 0x0a40000a })) ≡ 0x0a ∷ 0x40 ∷ 0x00 ∷ 0x0a ∷ []
held_row = refl

-- five hours west of Greenwich: -18,000 seconds
site_row : row_bytes (row.Site (record { server = record { 0 = 0x0a000002 }; secret = codes "s"; offset = negsuc 17999; lease = 86400; log = record { 0 = 0 } }))
    ≡ 10 ∷ 0 ∷ 0 ∷ 2 ∷ 1 ∷ 115 ∷ 0xff ∷ 0xff ∷ 0xb9 ∷ 0xb0 ∷ 0 ∷ 1 ∷ 0x51 ∷ 0x80 ∷ 0 ∷ 0 ∷ 0 ∷ 0 ∷ []
site_row = refl

declined_row : row_bytes (row.Lease (record { hold = Declined; expiry = record { 0 = 0x6553f178 } })) ≡ 3 ∷ 0 ∷ 0 ∷ 0 ∷ 0 ∷ 0x65 ∷ 0x53 ∷ 0xf1 ∷ 0x78 ∷ []
declined_row = refl

add_on_row : row_bytes (row.AddOn (leaf 3 (1 ∷ []) ∷ [])) ≡ 0 ∷ 3 ∷ 3 ∷ 1 ∷ 1 ∷ []
add_on_row = refl

add_on_text : key_text_of (key.AddOn 7 0) ≡ codes "add-on 7 0"
unfolding digits
add_on_text = refl
