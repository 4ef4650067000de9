-- Worked examples of the definitions.
use Rattle.std.proofs.Common.{◌≡◌, [], ◌∷◌, true, refl, codes, Ok, Err}
use Rattle.std.specs.Prelude.{neg_ℤ, pos}
use Rattle.std.specs.Str.{is_utf8, chars}
use Rattle.std.specs.Fmt.{digits}
use Rattle.hex.specs.Hex.{encode_with, decode_pairs}
use Rattle.csv.specs.Machine.{next_record}
use Rattle.csv.specs.Reading.{records_from, strip_bom}
use Rattle.md5.specs.Md5.{block_words, rounds, compress, hash_after, digest_bytes, md5}
use Rattle.serde_json.proofs.OnLiterals.{serde_json_on_literals}
use Rattle.off_base.specs.AddressText.{ip_of, ip_text_of, mac_of}
use Rattle.off_base.specs.Number.{number_read}
use Rattle.off_base.specs.Tree.{leaf, group, followed, no_more}
use Rattle.off_defs.specs.declared.keys.Key.TheVariants as key
use Rattle.off_defs.specs.declared.tables.Pool.{Pool}
use Rattle.off_defs.specs.declared.tables.ImportKind.TheVariants.{Subscribers}
use Rattle.off_orders.specs.declared.shown.ShownRow.TheVariants as row
use Rattle.off_orders.specs.declared.orders.Command.TheVariants.{PutHub, PutSubscriber, PutAddOn, PutPool, PutDevicePool, Remove, Show, Import}
use Rattle.off_orders.specs.declared.orders.Reply.TheVariants.{Shown, ShownPool}
use Rattle.off_orders.specs.declared.rules.Rule.TheVariants as rule
use Rattle.off_import_rules.specs.declared.faults.ImportFault.TheVariants as import
use Rattle.off_clerk_rules.specs.declared.names.Name.TheVariants as field
use Rattle.off_clerk_rules.specs.declared.faults.ClerkErr.TheVariants.{NoPath, NoMethod, Value}
use Rattle.off_clerk_rules.specs.declared.faults.ClerkErr.TheVariants as clerk
use Rattle.off_clerk_rules.specs.declared.faults.Fault.TheVariants as fault
use Rattle.off_clerk_rules.specs.Fields.{tree_in}
use Rattle.off_clerk_rules.specs.Commands.{command_read}
use Rattle.off_clerk_rules.specs.Faults.{fault_text}
use Rattle.off_clerk_rules.specs.Replies.{reply_text}

a_fault : fault_text (fault.Clerk (Value field.Cpes)) ≡ codes "{\"at\":\"cpes\",\"fault\":\"value\"}"
a_fault = refl

a_fault_at_a_row : fault_text (fault.Rule 12 (rule.PoolOverlap 3)) ≡ codes "{\"at\":\"12\",\"fault\":\"pool-overlap\"}"
unfolding digits
a_fault_at_a_row = refl

an_add_on_is_shown : reply_text (Shown (key.AddOn 7 0) (row.AddOn (group 24 (followed (leaf 1 (0 ∷ 171 ∷ [])) no_more) ∷ leaf 255 [] ∷ [])))
    ≡ codes "{\"settings\":[{\"code\":24,\"parts\":[{\"code\":1,\"hex\":\"00ab\"}]},{\"code\":255,\"hex\":\"\"}]}"
unfolding encode_with digits
an_add_on_is_shown = refl

an_add_on_is_removed : command_read (codes "DELETE") (codes "/subscribers/007/addons/1?now") (codes "{") ≡ Ok (Remove (key.AddOn 7 1))
unfolding number_read
an_add_on_is_removed = refl

a_hub_in_use : fault_text (fault.Rule 0 (rule.HubInUse 2)) ≡ codes "{\"at\":\"2\",\"fault\":\"hub-in-use\"}"
unfolding digits
a_hub_in_use = refl

a_hub_that_is_not_there : fault_text (fault.Rule 0 rule.NoHub) ≡ codes "{\"fault\":\"no-hub\"}"
a_hub_that_is_not_there = refl

abbrev second_pool : Pool
second_pool = record { first = record { 0 = 172032010 }; last = record { 0 = 172032099 }; prefix = 24; router = record { 0 = 172032001 }; relay = record { 0 = 172032001 } }

a_pool_is_shown_with_its_hub : reply_text (ShownPool 2 second_pool 1)
    ≡ codes "{\"first\":\"10.65.0.10\",\"hub\":1,\"last\":\"10.65.0.99\",\"prefix\":24,\"relay\":\"10.65.0.1\",\"router\":\"10.65.0.1\"}"
unfolding digits ip_text_of
a_pool_is_shown_with_its_hub = refl

the_site_is_the_hub_0 : command_read (codes "GET") (codes "/site") [] ≡ Ok (Show (key.Hub 0))
the_site_is_the_hub_0 = refl

a_hub_is_removed : command_read (codes "DELETE") (codes "/hubs/0") [] ≡ Ok (Remove (key.Hub 0))
unfolding number_read
a_hub_is_removed = refl

a_site_is_not_removed : command_read (codes "DELETE") (codes "/site") [] ≡ Err NoMethod
a_site_is_not_removed = refl

no_ninth_add_on : command_read (codes "POST") (codes "/subscribers/7/addons/8") [] ≡ Err NoPath
unfolding number_read mac_of ip_of
no_ninth_add_on = refl

a_subscriber_is_put : command_read (codes "PUT") (codes "/subscribers/7") (codes "{\"name\":\"Ann\",\"cpes\":2,\"active\":true}")
    ≡ Ok (PutSubscriber 7 (record { active = true; cpes = 2; name = codes "Ann" }))
unfolding number_read is_utf8 chars serde_json_on_literals
a_subscriber_is_put = refl

the_site_is_put_as_the_hub_0 : command_read (codes "PUT") (codes "/site") (codes "{\"server\":\"10.0.0.3\",\"secret\":\"6f74\",\"offset\":-3600,\"lease\":86400,\"log\":\"0.0.0.0\"}")
    ≡ Ok (PutHub 0 (record { server = record { 0 = 167772163 }; secret = codes "ot"; offset = neg_ℤ (pos 3600); lease = 86400; log = record { 0 = 0 } }))
unfolding number_read is_utf8 chars decode_pairs ip_of digits serde_json_on_literals
the_site_is_put_as_the_hub_0 = refl

a_pool_names_its_hub : command_read (codes "PUT") (codes "/pools/2") (codes "{\"first\":\"10.65.0.10\",\"last\":\"10.65.0.99\",\"prefix\":24,\"router\":\"10.65.0.1\",\"relay\":\"10.65.0.1\",\"hub\":1}") ≡ Ok (PutPool 2 second_pool 1)
unfolding number_read is_utf8 chars ip_of digits serde_json_on_literals
a_pool_names_its_hub = refl

a_pool_that_names_none : command_read (codes "PUT") (codes "/pools/2") (codes "{\"first\":\"10.65.0.10\",\"last\":\"10.65.0.99\",\"prefix\":24,\"router\":\"10.65.0.1\",\"relay\":\"10.65.0.1\"}") ≡ Ok (PutPool 2 second_pool 0)
unfolding number_read is_utf8 chars ip_of digits serde_json_on_literals
a_pool_that_names_none = refl

-- a pool for devices has no hub: a field of that name is passed over like any other
a_pool_for_devices_is_put : command_read (codes "PUT") (codes "/device-pools/2") (codes "{\"first\":\"10.65.0.10\",\"last\":\"10.65.0.99\",\"prefix\":24,\"router\":\"10.65.0.1\",\"relay\":\"10.65.0.1\",\"hub\":-1}") ≡ Ok (PutDevicePool 2 second_pool)
unfolding number_read is_utf8 chars ip_of digits serde_json_on_literals
a_pool_for_devices_is_put = refl

a_pool_for_devices_is_removed : command_read (codes "DELETE") (codes "/device-pools/2") [] ≡ Ok (Remove (key.DevicePool 2))
unfolding number_read mac_of
a_pool_for_devices_is_removed = refl

a_pool_for_devices_is_shown : reply_text (Shown (key.DevicePool 2) (row.Pool second_pool))
    ≡ codes "{\"first\":\"10.65.0.10\",\"last\":\"10.65.0.99\",\"prefix\":24,\"relay\":\"10.65.0.1\",\"router\":\"10.65.0.1\"}"
unfolding digits ip_text_of
a_pool_for_devices_is_shown = refl

a_pool_that_has_a_device_pool's_address : fault_text (fault.Rule 0 (rule.DeviceOverlap 2)) ≡ codes "{\"at\":\"2\",\"fault\":\"device-overlap\"}"
unfolding digits
a_pool_that_has_a_device_pool's_address = refl

no_hub_below_zero : command_read (codes "PUT") (codes "/pools/2") (codes "{\"first\":\"10.65.0.10\",\"last\":\"10.65.0.99\",\"prefix\":24,\"router\":\"10.65.0.1\",\"relay\":\"10.65.0.1\",\"hub\":-1}") ≡ Err (Value field.Hub)
unfolding number_read is_utf8 chars ip_of digits serde_json_on_literals
no_hub_below_zero = refl

no_devices : command_read (codes "PUT") (codes "/subscribers/8") (codes "{\"active\":true,\"cpes\":0,\"name\":\"\"}") ≡ Err (Value field.Cpes)
unfolding number_read is_utf8 chars serde_json_on_literals
no_devices = refl

an_add_on_is_put : command_read (codes "PUT") (codes "/subscribers/7/addons/0") (codes "{\"settings\":[{\"code\":24,\"parts\":[{\"code\":1,\"hex\":\"00aB\"}]}]}")
    ≡ Ok (PutAddOn 7 0 (group 24 (followed (leaf 1 (0 ∷ 171 ∷ [])) no_more) ∷ []))
unfolding number_read is_utf8 chars tree_in decode_pairs serde_json_on_literals
an_add_on_is_put = refl

a_fault_of_an_import : fault_text (fault.Clerk (clerk.Import (import.Field 12 3))) ≡ codes "{\"at\":\"12,3\",\"fault\":\"import-field\"}"
unfolding digits
a_fault_of_an_import = refl

an_import_without_columns : command_read (codes "PUT") (codes "/imports/modems/18446744073709551615") (codes "{}") ≡ Err (clerk.Import import.Header)
unfolding number_read ip_of mac_of next_record records_from strip_bom
an_import_without_columns = refl

an_import_is_not_shown : command_read (codes "GET") (codes "/imports/subscribers/9") [] ≡ Err NoMethod
unfolding number_read ip_of mac_of
an_import_is_not_shown = refl

no_number_of_65_bits : command_read (codes "PUT") (codes "/imports/modems/18446744073709551616") (codes "{}") ≡ Err NoPath
unfolding number_read ip_of mac_of
no_number_of_65_bits = refl

-- the digest is that of Python's hashlib
an_import_of_no_rows : command_read (codes "PUT") (codes "/imports/subscribers/09") (codes "subscriber,active,cpes,name\n")
    ≡ Ok (Import Subscribers 9 (0x86 ∷ 0xfb ∷ 0x62 ∷ 0x6b ∷ 0x1b ∷ 0x1e ∷ 0x88 ∷ 0x5a ∷ 0x20 ∷ 0x9e ∷ 0x12 ∷ 0x5b ∷ 0xcb ∷ 0x5b ∷ 0x33 ∷ 0x2d ∷ []) [])
unfolding number_read ip_of mac_of next_record records_from strip_bom block_words rounds compress hash_after digest_bytes md5
an_import_of_no_rows = refl
