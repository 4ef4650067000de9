-- A message is judged first by itself, and then by its rows.
use Rattle.std.specs.Prelude.{◌≡◌, Bool, not, ◌==◌, ◌&&◌, List, [], ◌∷◌, Option, Some, None, is_none, option_map, if◌then◌else◌, IfSome, IsTrue}
use Rattle.std.specs.List.{find}
use Rattle.off_base.specs.declared.addresses.Ip4.{Ip4}
use Rattle.off_defs.specs.declared.tables.Site.{Site}
use Rattle.off_defs.specs.declared.tables.Pool.{Pool}
use Rattle.off_defs.specs.State.{Tables}
use Rattle.off_dhcp.specs.Datagram.{Received}
use Rattle.off_account_rules.specs.Rows.{passes, pool_fits, pools, held_in}
use Rattle.off_runs.specs.Held.{PoolHeld, KeepsPools}
use Rattle.off_runs.specs.Leases.{ground}
use Rattle.off_asking.specs.Asking.{client, asks}
use Rattle.off_lease_rules.specs.Free.{case_of, site_for}
use Rattle.off_asking.specs.Claims.{is_served, has_no_form, names_another_server}
use Rattle.off_lease_rules.specs.Rules.{has_cut_part, relays_another, is_no_modem, has_other_serial, is_for_a_server}
use Rattle.off_lease_rules.specs.declared.cases.Case.{Case}
use Rattle.off_lease_rules.specs.declared.words.DhcpWord.{DhcpWord}
use Rattle.off_lease_rules.specs.declared.words.DhcpWord.TheVariants as word

-- the rules that need no row, and those that need the rows of the client
abbrev pub own_rules : Received → List (DhcpWord × Bool)
own_rules m =
    (word.NotServed, not (is_served m))
    ∷ (word.RequestForm, has_no_form m)
    ∷ (word.PartCut, has_cut_part m)
    ∷ (word.RelayMismatch, relays_another m)
    ∷ (word.NotAModem, is_no_modem m)
    ∷ []

abbrev pub row_rules : Received → Case → List (DhcpWord × Bool)
row_rules m c =
    (word.NoRelayPool, asks m && is_none c.pool)
    ∷ (word.NoSite, asks m && is_none c.site)
    ∷ (word.UnknownModem, asks m && is_none c.modem)
    ∷ (word.SerialMismatch, asks m && passes (has_other_serial m) c.modem)
    ∷ (word.OtherServer, is_for_a_server m && passes (names_another_server m) c.site)
    ∷ []

-- the site alone is known
abbrev pub knowing : Option Site → Case
knowing site = record { site = site; pool = None; modem = None; held = None }

-- What is read for a message: a client that gives an address back needs neither a pool nor its own
-- row.
abbrev pub seen_case : Tables → Received → Case
seen_case t m =
    if asks m then case_of t m
    else record { site = site_for t m; pool = None; modem = None; held = held_in t (client m) }

-- what is kept is kept for the tables, and the pool is the one behind the relay
pub record IsBehind (kept : List PoolHeld) (relay : Ip4) (pool : Pool) (t : Tables) : Type 0 where
  pub keeps : KeepsPools kept (ground t)
  pub found : option_map (λ e. e.1) (find (λ e. e.1.relay.0 == relay.0) (pools t)) ≡ Some pool

-- the pool has its values in their ranges
abbrev pub HasGoodPool : Case → Type 0
HasGoodPool c = IfSome c.pool (λ pool. IsTrue (pool_fits pool))
