-- Tables that open, by what is kept of each row.
use Rattle.std.specs.Prelude.{◌≡◌, ℕ, ◌==◌, Bool, true, false, not, ◌&&◌, nat_lt, Option, Some, None}
use Rattle.std.specs.BTreeSet.{BTreeSet}
use Rattle.off_base.specs.declared.addresses.Ip4.{Ip4}
use Rattle.off_base.specs.declared.macs.Mac.{Mac}
use Rattle.off_defs.specs.declared.keys.Key.{Key}
use Rattle.off_defs.specs.declared.keys.Key.TheVariants as key
use Rattle.off_defs.specs.State.{Tables}
use Rattle.off_account_rules.specs.Rows.{passes, counts_of}
use Rattle.off_account_rules.specs.Good.{raw_pools, raw_device_pools, names_hubs, is_there, is_hub_there, pool_hub_stands, stored_hub_of, pools_around, device_pools_around, pool_stands, device_pool_stands, owner_holds, owns, Opens, IsLeastBad}
use Rattle.off_users.specs.Users.{StandsFor}
use Rattle.off_opening.specs.declared.marks.Mark.{Mark}
use Rattle.off_opening.specs.declared.marks.Tie.{Tie}
use Rattle.off_opening.specs.declared.marks.Tie.TheVariants as tie
use Rattle.off_opening.specs.declared.standing.Compared.{Compared}
use Rattle.off_opening.specs.Owners.{has_owner, count_owner}
use Rattle.off_opening.specs.declared.opening.Opening.{Opening}
use Rattle.off_opening.specs.declared.opening.Opening.TheVariants as opening

-- a modem has its subscriber and its class
abbrev pub modem_tied : Tables → ℕ → ℕ → Bool
modem_tied tables subscriber class =
    is_there tables (key.Subscriber subscriber) && is_there tables (key.Class class)

-- a lease has its one pool and that pool's hub, and its owner holds its address
abbrev pub lease_tied : Tables → Ip4 → Option Mac → Bool
lease_tied tables address owner =
    (pools_around tables address == 1)
    && (passes (is_hub_there tables) (stored_hub_of tables address)
    && owner_holds tables address owner)

-- a device has several leases, or one
abbrev pub SeveralIn : Tables → BTreeSet (Mac × Mac) → Type 0
SeveralIn tables several =
    (q : Mac × Mac) → has_owner several q ≡ nat_lt 1 (count_owner q tables)

abbrev pub is_sole : Tables → Option (Mac × Mac) → Bool
is_sole tables None = true
is_sole tables (Some owner) = not (nat_lt 1 (count_owner owner tables))

-- a device's lease has its one pool for devices, and the device has no other lease
abbrev pub device_tied : Tables → Ip4 → Option (Mac × Mac) → Bool
device_tied tables address owner =
    (device_pools_around tables address == 1) && is_sole tables owner

-- what all rows are compared with is of these tables
pub record IsCompared (compared : Compared) (tables : Tables) : Type 0 where
  pub pools : compared.pools.items ≡ raw_pools tables
  pub device_pools : compared.device_pools.items ≡ raw_device_pools tables
  pub several : SeveralIn tables compared.several

-- a row stands in the right relations to the other rows, by what is compared with them
abbrev pub tie_stands : Tables → Key → Tie → Bool
tie_stands tables key.Site held = not (names_hubs tables)
tie_stands tables (key.Subscriber n) held = true
tie_stands tables (key.AddOn n number) held = is_there tables (key.Subscriber n)
tie_stands tables (key.Modem mac) (tie.Modem subscriber class) = modem_tied tables subscriber class
tie_stands tables (key.Modem mac) held = false
tie_stands tables (key.Class n) held = true
tie_stands tables (key.Pool n) (tie.Pool pool) = pool_stands tables n pool
tie_stands tables (key.Pool n) held = false
tie_stands tables (key.Lease address) (tie.Lease owner) = lease_tied tables address owner
tie_stands tables (key.Lease address) held = false
tie_stands tables (key.Held mac) (tie.Held address) = owns tables mac address
tie_stands tables (key.Held mac) held = false
tie_stands tables (key.Batch n) held = true
tie_stands tables (key.Hub n) held = true
tie_stands tables (key.PoolHub n) (tie.PoolHub hub) = pool_hub_stands tables n hub
tie_stands tables (key.PoolHub n) held = false
tie_stands tables (key.DevicePool n) (tie.Pool pool) = device_pool_stands tables n pool
tie_stands tables (key.DevicePool n) held = false
tie_stands tables (key.Device address) (tie.Device owner) = device_tied tables address owner
tie_stands tables (key.Device address) held = false

-- the row of a mark keeps its line
abbrev pub is_kept : Tables → Mark → Bool
is_kept tables mark = mark.fits && tie_stands tables mark.key mark.tie

-- what an opening says of the tables: this is their least bad key; or they open, these are their
-- counts, and this is what their modems name
abbrev pub OpensAs : Tables → Opening → Type 0
OpensAs tables (opening.Bad key) = IsLeastBad tables key
OpensAs tables (opening.Open counts users) =
    Opens tables × (counts ≡ counts_of tables) × StandsFor users tables
