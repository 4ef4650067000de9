-- A worked example: a modem's DISCOVER that came through a relay, and what is wrong with parts of it.
use Rattle.std.proofs.Common.{◌≡◌, ℕ, List, [], ◌∷◌, ◌++◌, take, replicate, Some, Ok, refl, codes}
use Rattle.off_base.specs.Parts.{parts_in}
use Rattle.off_dhcp.specs.declared.faults.DhcpFault.TheVariants.{Short, OptionCut, NoType}
use Rattle.off_dhcp.specs.Datagram.{message_fault, message_of, option_in}
use Rattle.off_dhcp.specs.Reply.{mask, relay_options}

abbrev options : List ℕ
options =
    (53 ∷ 1 ∷ 1 ∷ 60 ∷ 10 ∷ []) ++ (codes "docsis3.1:" ++ ((43 ∷ 5 ∷ 2 ∷ 3 ∷ []) ++ (codes "ECM" ++ ((0 ∷ 43 ∷ 6 ∷ 4 ∷ 4 ∷ []) ++ (codes "SN01" ++ (82 ∷ 3 ∷ 1 ∷ 1 ∷ 7 ∷ 255 ∷ []))))))

abbrev hardware : List ℕ
hardware = (2 ∷ 170 ∷ 187 ∷ 204 ∷ 221 ∷ 238 ∷ []) ++ replicate 10 0

abbrev discover : List ℕ
discover =
    (1 ∷ 1 ∷ 6 ∷ 0 ∷ 17 ∷ 34 ∷ 51 ∷ 68 ∷ []) ++ (replicate 16 0 ++ ((10 ∷ 64 ∷ 0 ∷ 1 ∷ []) ++ (hardware ++ (replicate 192 0 ++ ((99 ∷ 130 ∷ 83 ∷ 99 ∷ []) ++ options)))))

discover_is_read : message_of discover ≡ Ok (record { kind = 1; xid = 0x11223344; flags = 0; ciaddr = 0; giaddr = 0x0a400001; hardware = hardware; options = options })
unfolding message_fault parts_in
discover_is_read = refl

vendor_parts_are_joined : option_in 43 options ≡ Some ((2 ∷ 3 ∷ []) ++ (codes "ECM" ++ ((4 ∷ 4 ∷ []) ++ codes "SN01")))
unfolding parts_in
vendor_parts_are_joined = refl

short_is_told : message_fault (take 239 discover) ≡ Some Short
unfolding message_fault parts_in
short_is_told = refl

no_type_is_told : message_fault (take 240 discover) ≡ Some NoType
unfolding message_fault parts_in
no_type_is_told = refl

cut_is_told : message_fault (take 254 discover) ≡ Some (OptionCut 243)
unfolding message_fault parts_in
cut_is_told = refl

mask_of_24 : mask 24 ≡ 0xffffff00
mask_of_24 = refl

empty_option_82_is_sent_back : relay_options (Some []) ≡ 82 ∷ 0 ∷ []
unfolding relay_options
empty_option_82_is_sent_back = refl
