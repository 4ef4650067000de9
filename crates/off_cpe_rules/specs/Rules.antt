-- When a device's message is refused. Its rules are tested in this order, and the first that is
-- broken gives the word (RFC 2131 section 4.3; the order, and what a device must have, are this
-- project's profile).
use Rattle.std.specs.Prelude.{Bool, not, ◌&&◌, ◌||◌, nat_le, List, [], ◌∷◌, ◌++◌, Option, is_none}
use Rattle.off_base.specs.declared.addresses.Ip4.{Ip4}
use Rattle.off_dhcp.specs.Datagram.{Received}
use Rattle.off_account_rules.specs.Rows.{passes}
use Rattle.off_asking.specs.Asking.{is_discover, is_request, asks, gives_back}
use Rattle.off_asking.specs.Claims.{is_served, has_no_form, names_another_server, lacks_record, claims_wrongly}
use Rattle.off_cpe_rules.specs.declared.cases.DeviceCase.{DeviceCase}
use Rattle.off_cpe_rules.specs.declared.words.DeviceWord.{DeviceWord}
use Rattle.off_cpe_rules.specs.declared.words.DeviceWord.TheVariants as word

-- the modem's subscriber has service; other devices have as many addresses as the subscriber may
abbrev pub has_service : DeviceCase → Bool
has_service c = passes (λ subscriber. subscriber.active) c.subscriber

abbrev pub is_full : DeviceCase → Bool
is_full c = passes (λ subscriber. nat_le subscriber.cpes c.others) c.subscriber

-- a message that names a server is for that one alone (RFC 2131 sections 3.1 and 4.3)
abbrev pub is_for_another : Received → DeviceCase → Bool
is_for_another m c = (is_request m || gives_back m) && passes (names_another_server m) c.site

-- ---- the rules. Those that come late are tested when an address is chosen.

abbrev pub early : Received → DeviceCase → List (DeviceWord × Bool)
early m c =
    (word.NotServed, not (is_served m))
    ∷ (word.Form, has_no_form m)
    ∷ (word.NoPool, asks m && is_none c.pool)
    ∷ (word.Suspended, asks m && not (has_service c))
    ∷ (word.Offline, not c.is_online)
    ∷ (word.OtherServer, is_for_another m c)
    ∷ (word.Limit, asks m && is_full c)
    ∷ []

abbrev pub late : Received → DeviceCase → Option Ip4 → List (DeviceWord × Bool)
late m c chosen =
    (word.PoolFull, is_discover m && is_none chosen)
    ∷ (word.NoRecord, lacks_record m c.own)
    ∷ (word.NotYours, claims_wrongly m c.own c.pool)
    ∷ []

abbrev pub rules_for : Received → DeviceCase → Option Ip4 → List (DeviceWord × Bool)
rules_for m c chosen = early m c ++ late m c chosen
