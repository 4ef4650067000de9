-- Worked examples of the definitions. The digests are those of Python's hashlib.
use lib.Utf8.{encode}
use Rattle.std.proofs.Common.{◌≡◌, [], ◌∷◌, ◌++◌, refl, codes, true, Ok, Err}
use Rattle.std.specs.Str.{is_utf8, chars}
use Rattle.hex.specs.Hex.{decode_pairs}
use Rattle.csv.specs.Machine.{next_record}
use Rattle.csv.specs.Reading.{records_from, strip_bom}
use Rattle.md5.specs.Md5.{block_words, rounds, compress, hash_after, digest_bytes, md5}
use Rattle.off_base.specs.AddressText.{mac_of}
use Rattle.off_base.specs.Number.{number_read}
use Rattle.off_defs.specs.declared.tables.ImportKind.TheVariants.{Subscribers, Modems}
use Rattle.off_orders.specs.declared.orders.ImportRow.TheVariants as imported
use Rattle.off_orders.specs.declared.orders.Command.TheVariants.{Import}
use Rattle.off_import_rules.specs.Reading.{import_in}
use Rattle.off_import_rules.specs.declared.faults.ImportFault.TheVariants.{Header, Width, Field}

two_modems : import_in Modems 9 (codes "mac,subscriber,class,serial\n02:aa:bb:cc:dd:f0,7,1,\n02:aa:bb:cc:dd:f1,7,1,SN02\n")
    ≡ Ok (Import Modems 9 (0x22 ∷ 0x84 ∷ 0x27 ∷ 0x06 ∷ 0x98 ∷ 0x84 ∷ 0x5b ∷ 0xfe ∷ 0x3a ∷ 0x38 ∷ 0x2b ∷ 0x33 ∷ 0x63 ∷ 0x5b ∷ 0xad ∷ 0xc1 ∷ [])
    (imported.Modem (record { 0 = 0x02 ∷ 0xaa ∷ 0xbb ∷ 0xcc ∷ 0xdd ∷ 0xf0 ∷ [] }) (record { subscriber = 7; class = 1; serial = [] })
    ∷ imported.Modem (record { 0 = 0x02 ∷ 0xaa ∷ 0xbb ∷ 0xcc ∷ 0xdd ∷ 0xf1 ∷ [] }) (record { subscriber = 7; class = 1; serial = codes "SN02" })
    ∷ []))
unfolding next_record records_from strip_bom block_words rounds compress hash_after digest_bytes md5 mac_of number_read is_utf8 chars encode decode_pairs
two_modems = refl

a_quoted_comma : import_in Subscribers 1 (codes "subscriber,active,cpes,name\r\n7,yes,2,\"Ann, \"\"A\"\"\"\r\n")
    ≡ Ok (Import Subscribers 1 (0x58 ∷ 0xf7 ∷ 0x84 ∷ 0xbf ∷ 0x0d ∷ 0x8c ∷ 0xf8 ∷ 0x7f ∷ 0xb7 ∷ 0x7d ∷ 0x80 ∷ 0x43 ∷ 0xb9 ∷ 0x22 ∷ 0x35 ∷ 0x60 ∷ [])
    (imported.Subscriber 7 (record { active = true; cpes = 2; name = codes "Ann, \"A\"" }) ∷ []))
unfolding next_record records_from strip_bom block_words rounds compress hash_after digest_bytes md5 number_read is_utf8 chars encode
a_quoted_comma = refl

nothing : import_in Subscribers 1 [] ≡ Err Header
unfolding next_record records_from strip_bom
nothing = refl

a_second_mark : import_in Modems 1 (0xEF ∷ 0xBB ∷ 0xBF ∷ 0xEF ∷ 0xBB ∷ 0xBF ∷ codes "mac,subscriber,class,serial\n") ≡ Err Header
unfolding next_record records_from strip_bom
a_second_mark = refl

-- the row behind it is wrong too, and has the later number
the_first_fault : import_in Subscribers 1 (codes "subscriber,active,cpes,name\n\n7,yes,2,Ann\n8,no,255,Bob\n9,no\n") ≡ Err (Field 2 3)
unfolding next_record records_from strip_bom number_read is_utf8 chars encode
the_first_fault = refl

a_row_of_one_field : import_in Subscribers 1 (codes "subscriber,active,cpes,name\n\"\"\n") ≡ Err (Width 1)
unfolding next_record records_from strip_bom
a_row_of_one_field = refl
