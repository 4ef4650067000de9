-- When a message is refused. Its rules are tested in this order, and the first that is broken gives
-- the word (RFC 2131 section 4.3; the order, and what a modem must say of itself, are this
-- project's profile).
use Rattle.std.specs.Prelude.{◌==◌, Bool, not, ◌&&◌, ◌||◌, List, [], ◌∷◌, ◌++◌, length, Option, is_none, is_err}
use Rattle.std.specs.Str.{bytes_eq}
use Rattle.off_base.specs.declared.addresses.Ip4.{Ip4}
use Rattle.off_base.specs.Parts.{bytes_of}
use Rattle.off_defs.specs.declared.tables.Modem.{Modem}
use Rattle.off_dhcp.specs.Datagram.{Received, mac_of_client, option_in}
use Rattle.off_docsis.specs.Cable.{begins_as_modem}
use Rattle.off_account_rules.specs.Rows.{passes}
use Rattle.off_asking.specs.Asking.{is_discover, is_request, asks, gives_back, is_selecting, form_of, vendor_parts, relay_parts, serial_number, remote_identifier}
use Rattle.off_asking.specs.Claims.{is_served, has_no_form, names_another_server, lacks_record, claims_wrongly}
use Rattle.off_lease_rules.specs.declared.cases.Case.{Case}
use Rattle.off_lease_rules.specs.declared.words.DhcpWord.{DhcpWord}
use Rattle.off_lease_rules.specs.declared.words.DhcpWord.TheVariants as word

-- ---- each condition by itself, whatever the other rules say

abbrev pub has_cut_part : Received → Bool
has_cut_part m = (asks m && is_err (vendor_parts m)) || is_err (relay_parts m)

-- a remote identifier of six bytes is the hardware address of the client
abbrev pub relays_another : Received → Bool
relays_another m =
    passes (λ remote. (length remote == 6) && not (bytes_eq remote (mac_of_client m)))
    (remote_identifier m)

-- a client that asks says in option 60 that it's a modem; one that has an address already may leave
-- option 60 out
abbrev pub is_no_modem : Received → Bool
is_no_modem m =
    (is_discover m && not (begins_as_modem (bytes_of (option_in 60 m.options))))
    || (is_request m && passes (λ class. not (begins_as_modem class)) (option_in 60 m.options))

-- a modem may say another serial number than its row, where both have one
abbrev pub has_other_serial : Received → Modem → Bool
has_other_serial m modem =
    not (length modem.serial == 0)
    && passes (λ serial. not (bytes_eq serial modem.serial)) (serial_number m)

-- a message that names a server is for that one alone (RFC 2131 sections 3.1 and 4.3); a REQUEST
-- does in one of its forms
abbrev pub is_for_a_server : Received → Bool
is_for_a_server m = (is_request m && is_selecting (form_of m)) || gives_back m

-- ---- the rules. Those that come late are tested when an address is chosen.

abbrev pub early : Received → Case → List (DhcpWord × Bool)
early m c =
    (word.NotServed, not (is_served m))
    ∷ (word.RequestForm, has_no_form m)
    ∷ (word.PartCut, has_cut_part m)
    ∷ (word.RelayMismatch, relays_another m)
    ∷ (word.NotAModem, is_no_modem m)
    ∷ (word.NoRelayPool, asks m && is_none c.pool)
    ∷ (word.NoSite, asks m && is_none c.site)
    ∷ (word.UnknownModem, asks m && is_none c.modem)
    ∷ (word.SerialMismatch, asks m && passes (has_other_serial m) c.modem)
    ∷ (word.OtherServer, is_for_a_server m && passes (names_another_server m) c.site)
    ∷ []

abbrev pub late : Received → Case → Option Ip4 → List (DhcpWord × Bool)
late m c chosen =
    (word.PoolFull, is_discover m && is_none chosen)
    ∷ (word.NoRecord, lacks_record m c.held)
    ∷ (word.NotYourAddress, claims_wrongly m c.held c.pool)
    ∷ []

abbrev pub rules_for : Received → Case → Option Ip4 → List (DhcpWord × Bool)
rules_for m c chosen = early m c ++ late m c chosen
