-- The rows by which a message is judged, and the addresses of a pool that are free. All rows are
-- read by kind: an impossible one is one that isn't there.
use Rattle.std.specs.Prelude.{ℕ, Bool, true, ◌&&◌, nat_le, Option, Some, None, option_map, option_and_then, if◌then◌else◌}
use Rattle.off_base.specs.declared.addresses.Ip4.{Ip4}
use Rattle.off_defs.specs.declared.tables.Site.{Site}
use Rattle.off_defs.specs.declared.tables.Pool.{Pool}
use Rattle.off_defs.specs.declared.tables.Lease.{Lease}
use Rattle.off_defs.specs.State.{Tables}
use Rattle.off_dhcp.specs.Datagram.{Received}
use Rattle.off_account_rules.specs.Rows.{hub_in, pool_hub_in, hub_of, modem_in, lease_in, held_in, pools, has_address}
use Rattle.off_asking.specs.Asking.{client, asks, claimed}
use Rattle.off_asking.specs.Choice.{numbered_among, pool_among, least_of, choice_by, chosen_by}
use Rattle.off_lease_rules.specs.declared.cases.Case.{Case}

-- the pool of a message, and its number
abbrev pub numbered_pool_for : Tables → Received → Option (ℕ × Pool)
numbered_pool_for tables m = numbered_among (pools tables) m

abbrev pub pool_for : Tables → Received → Option Pool
pool_for tables m = pool_among (pools tables) m

-- The hub of a message is that of its pool; for an address that is given back, that of the address.
abbrev pub hub_for : Tables → Received → Option ℕ
hub_for tables m =
    if asks m then option_map (λ entry. pool_hub_in tables entry.0) (numbered_pool_for tables m)
    else option_and_then (hub_of tables) (claimed m)

abbrev pub site_for : Tables → Received → Option Site
site_for tables m = option_and_then (hub_in tables) (hub_for tables m)

unfoldable pub case_of : Tables → Received → Case
case_of tables m =
    record {
      site = site_for tables m;
      pool = pool_for tables m;
      modem = modem_in tables (client m);
      held = held_in tables (client m);
    }

-- Free is an address that has no lease, or one that has ended. The set of a pool's free addresses
-- at a moment, as its test:
abbrev pub has_ended : ℕ → Option Lease → Bool
has_ended now None = true
has_ended now (Some lease) = nat_le lease.expiry.0 now

abbrev pub is_free : Tables → ℕ → Pool → Ip4 → Bool
is_free tables now pool address =
    has_address pool address && has_ended now (lease_in tables address)

-- its least member, or None where it has none
abbrev pub least_free : Tables → ℕ → Pool → Option Ip4
least_free tables now pool = least_of (is_free tables now pool) pool

-- The address for a client of the pool: its own is the one that it holds.
abbrev pub choice : Tables → ℕ → Pool → Option Ip4 → Option Ip4 → Option Ip4
choice tables now pool held asked = choice_by (is_free tables now pool) pool held asked

-- the address that a message is about
abbrev pub chosen_in : Tables → ℕ → Received → Case → Option Ip4
chosen_in tables now m c = chosen_by (is_free tables now) m c.pool c.held
