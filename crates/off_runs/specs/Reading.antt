-- The rows of pools, of leases and of pools' hubs, as writes that would put them.
use Rattle.std.specs.Prelude.{ℕ, ◌+◌, ◌*◌, List, [], Option, Some, None}
use Rattle.std.specs.List.{filter_map}
use Rattle.std.specs.FinMap as map
use Rattle.off_defs.specs.declared.keys.Key.{Key}
use Rattle.off_defs.specs.declared.keys.Key.TheVariants as key
use Rattle.off_defs.specs.declared.tables.Row.{Row}
use Rattle.off_defs.specs.declared.writes.Write.{Write}
use Rattle.off_defs.specs.declared.writes.Write.TheVariants.{Put}
use Rattle.off_defs.specs.State.{Tables}
use Rattle.off_account_rules.specs.Rows.{pools}
use Rattle.off_outside.specs.KeeperSeen.{KeeperSeen}
use Rattle.off_outside.specs.KeeperCalls.{Spent}
use Rattle.off_runs.specs.Held.{Ground}
use Rattle.off_runs.specs.Leases.{expiry_in}

abbrev pub pool_put : Key × Row → Option Write
pool_put (key.Pool n, held) = Some (Put (key.Pool n) held)
pool_put entry = None

abbrev pub lease_put : Key × Row → Option Write
lease_put (key.Lease a, held) = Some (Put (key.Lease a) held)
lease_put entry = None

abbrev pub hub_put : Key × Row → Option Write
hub_put (key.PoolHub n, held) = Some (Put (key.PoolHub n) held)
hub_put entry = None

abbrev pub pools_put : Tables → List Write
pools_put t = filter_map pool_put (map.entries t)

abbrev pub leases_put : Tables → List Write
leases_put t = filter_map lease_put (map.entries t)

abbrev pub hubs_put : Tables → List Write
hubs_put t = filter_map hub_put (map.entries t)

-- so many walks over all rows: for each a call for each row at most, and one more that finds the
-- end
abbrev pub Walks : ℕ → KeeperSeen → KeeperSeen → Type 0
Walks n old new = (t : Tables) → old.tables t → Spent (n * (map.len t + 1)) old new

-- no pools; the pools of tables, whose addresses have no leases and which have the hub 0; and these
-- pools with the leases
abbrev pub no_ground : Ground
no_ground = record { pools = []; expiry = λ a. 0; hub = λ n. 0 }

abbrev pub bare_ground : Tables → Ground
bare_ground t = record { pools = pools t; expiry = λ a. 0; hub = λ n. 0 }

abbrev pub leased_ground : Tables → Ground
leased_ground t = record { pools = pools t; expiry = expiry_in t; hub = λ n. 0 }
