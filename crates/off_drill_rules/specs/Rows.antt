-- The rows of a drill with so many modems, which are numbered from 1: an office with one class and
-- one pool, and for each modem its subscriber, and the address that it is to have.
use Rattle.std.specs.Prelude.{ℕ, zero, suc, ◌+◌, ◌/◌, ◌%◌, ◌==◌, pos, Bool, not, List, [], ◌∷◌, codes}
use Rattle.std.specs.FinMap as map
use Rattle.off_base.specs.Tree.{Tree, leaf, group, no_more, followed}
use Rattle.off_base.specs.declared.addresses.Ip4.{Ip4}
use Rattle.off_base.specs.declared.macs.Mac.{Mac}
use Rattle.off_defs.specs.declared.keys.Key.TheVariants as key
use Rattle.off_defs.specs.declared.tables.Row.TheVariants as row
use Rattle.off_defs.specs.declared.tables.Site.{Site}
use Rattle.off_defs.specs.declared.tables.Subscriber.{Subscriber}
use Rattle.off_defs.specs.declared.tables.Modem.{Modem}
use Rattle.off_defs.specs.declared.tables.Class.{Class}
use Rattle.off_defs.specs.declared.tables.Pool.{Pool}
use Rattle.off_defs.specs.declared.tables.Hold.TheVariants.{Bound}
use Rattle.off_defs.specs.declared.tables.Lease.{Lease}
use Rattle.off_defs.specs.State.{Tables}
use Rattle.off_defs.specs.Tables.{with_row}

abbrev pub ip : ℕ → Ip4
ip number = record { 0 = number }

-- the greatest number of modems: the pool has one address for each, and 96 more
abbrev pub most_modems : ℕ
most_modems = 4000

-- the moment before the first modem's; modem i does all that it does i seconds later
abbrev pub begins_at : ℕ
begins_at = 1700000000

abbrev pub moment : ℕ → ℕ
moment i = begins_at + i

-- how many seconds a lease lasts
abbrev pub lease_seconds : ℕ
lease_seconds = 86400

abbrev pub site : Site
site = record {
  server = ip 0x0a000002;
  secret = codes "drill";
  offset = pos 0;
  lease = lease_seconds;
  log = ip 0;
}

-- a flow with its reference, the bits that provision, admit and activate it, and its greatest rate
abbrev pub flow : ℕ → ℕ → List ℕ → Tree
flow code reference rate =
    group code
    (followed (leaf 1 (0 ∷ reference ∷ []))
    (followed (leaf 6 (7 ∷ [])) (followed (leaf 8 rate) no_more)))

-- 10,000,000 bits a second up, and 100,000,000 down
abbrev pub class : Class
class = record {
  name = codes "gold";
  settings =
      flow 24 1 (0x00 ∷ 0x98 ∷ 0x96 ∷ 0x80 ∷ []) ∷ flow 25 2 (0x05 ∷ 0xf5 ∷ 0xe1 ∷ 0x00 ∷ []) ∷ [];
}

-- 10.64.16.0 to 10.64.31.255, behind the relay 10.64.0.1
abbrev pub relay : Ip4
relay = ip 0x0a400001

abbrev pub pool : Pool
pool = record {
  first = ip 0x0a401000;
  last = ip 0x0a401fff;
  prefix = 20;
  router = relay;
  relay = relay;
}

-- every tenth subscriber is suspended
abbrev pub is_active : ℕ → Bool
is_active i = not (i % 10 == 0)

abbrev pub subscriber : ℕ → Subscriber
subscriber i = record { active = is_active i; cpes = 2; name = codes "drill" }

abbrev pub modem : ℕ → Modem
modem i = record { subscriber = i; class = 1; serial = [] }

-- the hardware address ends in the modem's number, in three bytes
abbrev pub mac : ℕ → Mac
mac i = record { 0 = 2 ∷ 0 ∷ 0 ∷ (i / 65536 % 256) ∷ (i / 256 % 256) ∷ (i % 256) ∷ [] }

-- the pool's addresses in order, the first for modem 1
abbrev pub address : ℕ → Ip4
address i = ip (0x0a400fff + i)

abbrev pub lease : ℕ → Lease
lease i = record { hold = Bound (mac i); expiry = record { 0 = moment i + lease_seconds } }

-- an office without modems, as it is founded row by row, and with so many
abbrev pub with_site : Tables
with_site = with_row map.empty (key.Hub 0) (row.Site site)

abbrev pub with_class : Tables
with_class = with_row with_site (key.Class 1) (row.Class class)

abbrev pub founded : Tables
founded = with_row with_class (key.Pool 1) (row.Pool pool)

abbrev pub peopled : ℕ → Tables
peopled zero = founded
peopled (suc k) =
    with_row (with_row (peopled k) (key.Subscriber (suc k)) (row.Subscriber (subscriber (suc k))))
    (key.Modem (mac (suc k))) (row.Modem (modem (suc k)))

-- the first so many modems have their addresses
abbrev pub leased : Tables → ℕ → Tables
leased tables zero = tables
leased tables (suc k) =
    with_row
    (with_row (leased tables k) (key.Lease (address (suc k))) (row.Lease (lease (suc k))))
    (key.Held (mac (suc k))) (row.Held (address (suc k)))

-- the tables of a drill with n modems, of which the first k have been served
unfoldable pub drill_tables : ℕ → ℕ → Tables
drill_tables n k = leased (peopled n) k
