-- Which modem a device is behind (RFC 3046 section 3.2: the remote identifier of option 82), and
-- the leases of devices. All rows are read by kind: an impossible one is one that isn't there.
use Rattle.std.specs.Prelude.{ℕ, Bool, true, not, ◌&&◌, ◌||◌, nat_le, nat_lt, List, Option, Some, None, is_some, is_err, option_map, option_and_then, if◌then◌else◌}
use Rattle.std.specs.List.{find, count_by}
use Rattle.std.specs.Str.{bytes_eq}
use Rattle.off_base.specs.declared.addresses.Ip4.{Ip4}
use Rattle.off_base.specs.declared.macs.Mac.{Mac}
use Rattle.off_defs.specs.declared.tables.Pool.{Pool}
use Rattle.off_defs.specs.declared.tables.DeviceLease.{DeviceLease}
use Rattle.off_defs.specs.State.{Tables}
use Rattle.off_dhcp.specs.Datagram.{Received, mac_of_client}
use Rattle.off_account_rules.specs.Rows.{passes, site_of, subscriber_in, modem_in, lease_in, held_in, device_in, device_pools, devices, has_address}
use Rattle.off_account_rules.specs.Good.{is_mac, device_owner, is_same_owner, is_live_bound}
use Rattle.off_asking.specs.Asking.{ip, client, is_request, is_release, relay_parts, relayed}
use Rattle.off_asking.specs.Choice.{provided, pool_among, chosen_by}
use Rattle.off_cpe_rules.specs.declared.cases.DeviceCase.{DeviceCase}

-- ---- the modem

-- the relay names a modem on record, and not the client itself
abbrev pub is_another : Received → Mac → Bool
is_another m remote = not (bytes_eq remote.0 (mac_of_client m))

abbrev pub named_modem : Tables → Received → Mac → Option Mac
named_modem tables m remote =
    if is_another m remote && is_some (modem_in tables remote) then Some remote else None

-- without a relay's word a REQUEST or a RELEASE for an address whose lease names the client (RFC
-- 2131 sections 4.3.2 and 4.3.4: ciaddr)
abbrev pub modem_for : Mac → DeviceLease → Option Mac
modem_for device lease =
    option_map (λ owner. owner.0)
    (provided (λ owner. is_mac device owner.1) (device_owner lease.hold))

abbrev pub recorded_modem : Tables → Received → Option Mac
recorded_modem tables m =
    if is_request m || is_release m
    then option_and_then (modem_for (client m)) (device_in tables (ip m.ciaddr)) else None

abbrev pub modem_by : Tables → Received → Option Mac → Option Mac
modem_by tables m (Some remote) = named_modem tables m remote
modem_by tables m None = recorded_modem tables m

-- The modem that the client of a message is behind, where it's a device: a remote identifier of six
-- bytes decides, where there is one. What the relay says is read whole, or not at all.
unfoldable pub modem_behind : Tables → Received → Option Mac
modem_behind tables m =
    if is_err (relay_parts m) then None else modem_by tables m (relayed m)

-- ---- leases of devices

abbrev pub has_ended : ℕ → Option DeviceLease → Bool
has_ended now None = true
has_ended now (Some lease) = nat_le lease.expiry.0 now

abbrev pub is_free : Tables → ℕ → Pool → Ip4 → Bool
is_free tables now pool address =
    has_address pool address && has_ended now (device_in tables address)

abbrev pub is_live : ℕ → DeviceLease → Bool
is_live now lease = nat_lt now lease.expiry.0

-- the lease is of this device behind this modem, or of any behind it
abbrev pub is_owned : Mac → Mac → DeviceLease → Bool
is_owned modem device lease = passes (is_same_owner (modem, device)) (device_owner lease.hold)

abbrev pub is_behind : Mac → DeviceLease → Bool
is_behind modem lease = passes (λ owner. is_mac modem owner.0) (device_owner lease.hold)

-- a live one behind the modem that is of another device
abbrev pub is_other : ℕ → Mac → Mac → DeviceLease → Bool
is_other now modem device lease =
    is_behind modem lease && (not (is_owned modem device lease) && is_live now lease)

-- the address of the device's own lease behind the modem, and how many live ones others have there
abbrev pub own_among : Mac → Mac → List (Ip4 × DeviceLease) → Option Ip4
own_among modem device leases =
    option_map (λ entry. entry.0) (find (λ entry. is_owned modem device entry.1) leases)

abbrev pub others_among : ℕ → Mac → Mac → List (Ip4 × DeviceLease) → ℕ
others_among now modem device leases =
    count_by (λ entry. is_other now modem device entry.1) leases

-- all live leases behind a modem
abbrev pub behind_among : ℕ → Mac → List (Ip4 × DeviceLease) → ℕ
behind_among now modem leases =
    count_by (λ entry. is_behind modem entry.1 && is_live now entry.1) leases

-- ---- the modem's own lease: a modem is online while it's bound to an address

abbrev pub is_online : Tables → ℕ → Mac → Bool
is_online tables now modem =
    passes (is_live_bound now) (option_and_then (lease_in tables) (held_in tables modem))

-- ---- the rows by which a message is judged; the site is that of the hub of the modem's address

unfoldable pub device_case : Tables → ℕ → Received → Mac → DeviceCase
device_case tables now m modem =
    record {
      pool = pool_among (device_pools tables) m;
      subscriber = option_and_then (λ row. subscriber_in tables row.subscriber)
          (modem_in tables modem);
      is_online = is_online tables now modem;
      site = option_and_then (site_of tables) (held_in tables modem);
      own = own_among modem (client m) (devices tables);
      others = others_among now modem (client m) (devices tables);
    }

abbrev pub chosen_in : Tables → ℕ → Received → DeviceCase → Option Ip4
chosen_in tables now m c = chosen_by (is_free tables now) m c.pool c.own
