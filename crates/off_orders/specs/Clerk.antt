-- What a clerk's command does. Its rules are tested in order, and the first that is broken is the
-- answer; then nothing changes. Else the command's writes are done, all of them.
use Rattle.std.specs.Prelude.{ℕ, ◌+◌, ◌==◌, Bool, true, false, not, ◌&&◌, nat_le, nat_lt, List, [], ◌∷◌, ◌++◌, length, map, Option, Some, None, is_none, option_map, option_and_then, Result, Ok, Err, if◌then◌else◌}
use Rattle.std.specs.List.{find, filter, flat_map, list_any}
use Rattle.std.specs.Ordering.{eq_by_cmp, nat_cmp}
use Rattle.std.specs.Cmp.Lexicographic.{slice_cmp}
use Rattle.off_base.specs.Choices.{when, first_there}
use Rattle.off_base.specs.declared.addresses.Ip4.{Ip4}
use Rattle.off_tree.specs.declared.tables.Kind.TheVariants as tree
use Rattle.off_tree.specs.Fault.{first_fault}
use Rattle.off_defs.specs.declared.keys.Key.{Key}
use Rattle.off_defs.specs.declared.keys.Key.TheVariants as key
use Rattle.off_defs.specs.declared.tables.Row.{Row}
use Rattle.off_defs.specs.declared.tables.Row.TheVariants as row
use Rattle.off_defs.specs.declared.tables.Pool.{Pool}
use Rattle.off_defs.specs.declared.tables.Lease.{Lease}
use Rattle.off_defs.specs.declared.tables.Batch.{Batch}
use Rattle.off_defs.specs.declared.tables.DeviceLease.{DeviceLease}
use Rattle.off_defs.specs.declared.tables.ImportKind.{ImportKind}
use Rattle.off_defs.specs.declared.tables.ImportKind.TheVariants as import
use Rattle.off_defs.specs.declared.kinds.Kind.{Kind}
use Rattle.off_defs.specs.declared.kinds.Kind.TheVariants.{Subscribers, AddOns, Modems, Classes, Pools, Batches, Hubs, DevicePools}
use Rattle.off_orders.specs.declared.orders.Command.{Command}
use Rattle.off_orders.specs.declared.orders.Command.TheVariants.{PutHub, PutSubscriber, PutAddOn, PutModem, PutClass, PutPool, PutDevicePool, Remove, Show, Import}
use Rattle.off_orders.specs.declared.orders.ImportRow.{ImportRow}
use Rattle.off_orders.specs.declared.orders.ImportRow.TheVariants as imported
use Rattle.off_orders.specs.declared.orders.Reply.{Reply}
use Rattle.off_orders.specs.declared.orders.Reply.TheVariants.{Done, Shown, ShownPool, Rows}
use Rattle.off_defs.specs.declared.writes.Write.{Write}
use Rattle.off_defs.specs.declared.writes.Write.TheVariants.{Put, Drop}
use Rattle.off_orders.specs.declared.rules.Rule.{Rule}
use Rattle.off_orders.specs.declared.rules.Rule.TheVariants as rule
use Rattle.off_orders.specs.Shown.{shown_row}
use Rattle.off_defs.specs.State.{Tables}
use Rattle.off_defs.specs.Tables.{write_all}
use Rattle.off_account_rules.specs.Rows.{is_offset, is_lease_time, has_pool_size, seen_at, hub_in, subscriber_in, class_in, pool_in, pool_hub_in, batch_in, as_pool, modems, pools, device_pool_in, device_pools, leases, devices, overlaps, count_of}
use Rattle.off_account_rules.specs.Changes.{gives_up, held_drop, add_on_keys}
use Rattle.off_account_rules.specs.Good.{owner_of}

-- there may be only so many rows of a kind
abbrev pub limit_of : Kind → ℕ
limit_of Subscribers = 200000
limit_of AddOns = 100000
limit_of Modems = 200000
limit_of Classes = 1000
limit_of Pools = 64
limit_of Batches = 100000
limit_of Hubs = 64
limit_of DevicePools = 64

-- the limit is broken by a key that is new, where there are as many rows as there may be
abbrev pub limit : Tables → Key → Kind → Option Rule
limit tables key kind =
    when (is_none (seen_at tables key) && nat_le (limit_of kind) (count_of kind tables))
    (rule.Limit kind (limit_of kind))

abbrev pub no_subscriber : Tables → ℕ → Option Rule
no_subscriber tables n = when (is_none (subscriber_in tables n)) rule.NoSubscriber

abbrev pub no_class : Tables → ℕ → Option Rule
no_class tables n = when (is_none (class_in tables n)) rule.NoClass

abbrev pub no_hub : Tables → ℕ → Option Rule
no_hub tables n = when (is_none (hub_in tables n)) rule.NoHub

abbrev pub no_row : Tables → Key → Option Rule
no_row tables key = when (is_none (seen_at tables key)) rule.NoRow

-- the least other pool that has an address of this one, or its relay
abbrev pub is_other_overlapping : ℕ → Pool → ℕ × Pool → Bool
is_other_overlapping n pool other = not (other.0 == n) && overlaps pool other.1

abbrev pub is_other_with_relay : ℕ → Pool → ℕ × Pool → Bool
is_other_with_relay n pool other = not (other.0 == n) && (other.1.relay.0 == pool.relay.0)

abbrev pub pool_overlap : Tables → ℕ → Pool → Option Rule
pool_overlap tables n pool =
    option_map (λ other. rule.PoolOverlap other.0)
    (find (is_other_overlapping n pool) (pools tables))

abbrev pub relay_taken : Tables → ℕ → Pool → Option Rule
relay_taken tables n pool =
    option_map (λ other. rule.RelayTaken other.0) (find (is_other_with_relay n pool) (pools tables))

-- Pools for devices have numbers of their own. The least that has an address of a pool of modems,
-- or of another pool for devices; the least that has its relay; and the least pool of modems that
-- has an address of a pool for devices
abbrev pub device_overlap : Tables → Pool → Option Rule
device_overlap tables pool =
    option_map (λ other. rule.DeviceOverlap other.0)
    (find (λ other. overlaps pool other.1) (device_pools tables))

abbrev pub other_device_overlap : Tables → ℕ → Pool → Option Rule
other_device_overlap tables n pool =
    option_map (λ other. rule.DeviceOverlap other.0)
    (find (is_other_overlapping n pool) (device_pools tables))

abbrev pub device_relay_taken : Tables → ℕ → Pool → Option Rule
device_relay_taken tables n pool =
    option_map (λ other. rule.RelayTaken other.0)
    (find (is_other_with_relay n pool) (device_pools tables))

abbrev pub modems_overlap : Tables → Pool → Option Rule
modems_overlap tables pool =
    option_map (λ other. rule.PoolOverlap other.0)
    (find (λ other. overlaps pool other.1) (pools tables))

-- the least pool whose hub it is
abbrev pub hub_in_use : Tables → ℕ → Option Rule
hub_in_use tables hub =
    option_map (λ entry. rule.HubInUse entry.0)
    (find (λ entry. pool_hub_in tables entry.0 == hub) (pools tables))

-- the leases that are lost by what a pool gives up

abbrev pub lost_leases : Tables → ℕ → Option Pool → List (Ip4 × Lease)
lost_leases tables n new = filter (λ entry. gives_up (pool_in tables n) new entry.0) (leases tables)

-- the least address whose lease would be lost before it has expired
abbrev pub is_live : ℕ → Ip4 × Lease → Bool
is_live now entry = nat_lt now entry.1.expiry.0

abbrev pub pool_has_leases : Tables → ℕ → ℕ → Option Pool → Option Rule
pool_has_leases tables now n new =
    option_map (λ entry. rule.PoolHasLeases entry.0) (find (is_live now) (lost_leases tables n new))

-- the same of a pool for devices and the leases of devices
abbrev pub lost_devices : Tables → ℕ → Option Pool → List (Ip4 × DeviceLease)
lost_devices tables n new =
    filter (λ entry. gives_up (device_pool_in tables n) new entry.0) (devices tables)

abbrev pub is_live_device : ℕ → Ip4 × DeviceLease → Bool
is_live_device now entry = nat_lt now entry.1.expiry.0

abbrev pub pool_has_devices : Tables → ℕ → ℕ → Option Pool → Option Rule
pool_has_devices tables now n new =
    option_map (λ entry. rule.PoolHasLeases entry.0)
    (find (is_live_device now) (lost_devices tables n new))

-- some modem belongs to the subscriber, or has the class
abbrev pub has_modems : Tables → ℕ → Option Rule
has_modems tables n =
    when (list_any (λ entry. entry.1.subscriber == n) (modems tables)) rule.HasModems

abbrev pub class_in_use : Tables → ℕ → Option Rule
class_in_use tables n =
    when (list_any (λ entry. entry.1.class == n) (modems tables)) rule.ClassInUse

abbrev pub removal_rules : Tables → ℕ → Key → List (Option Rule)
removal_rules tables now (key.Subscriber n) =
    no_row tables (key.Subscriber n) ∷ has_modems tables n ∷ []
removal_rules tables now (key.Class n) = no_row tables (key.Class n) ∷ class_in_use tables n ∷ []
removal_rules tables now (key.Pool n) =
    no_row tables (key.Pool n) ∷ pool_has_leases tables now n None ∷ []
removal_rules tables now (key.AddOn n number) = no_row tables (key.AddOn n number) ∷ []
removal_rules tables now (key.Modem mac) = no_row tables (key.Modem mac) ∷ []
removal_rules tables now key.Site = no_row tables key.Site ∷ []
removal_rules tables now (key.Lease address) = no_row tables (key.Lease address) ∷ []
removal_rules tables now (key.Held mac) = no_row tables (key.Held mac) ∷ []
removal_rules tables now (key.Batch n) = no_row tables (key.Batch n) ∷ []
removal_rules tables now (key.Hub n) = no_row tables (key.Hub n) ∷ hub_in_use tables n ∷ []
removal_rules tables now (key.PoolHub n) = no_row tables (key.PoolHub n) ∷ []
removal_rules tables now (key.DevicePool n) =
    no_row tables (key.DevicePool n) ∷ pool_has_devices tables now n None ∷ []
removal_rules tables now (key.Device address) = no_row tables (key.Device address) ∷ []

-- the rules of a command in their order. An import has rules for each of its rows, below
abbrev pub rules_of : Tables → ℕ → Command → List (Option Rule)
rules_of tables now (PutHub n site) =
    when (site.server.0 == 0) (rule.Site 1)
    ∷ when (length site.secret == 0) (rule.Site 2)
    ∷ when (not (is_lease_time site.lease)) (rule.Site 3)
    ∷ when (not (is_offset site.offset)) (rule.Site 4)
    ∷ limit tables (key.Hub n) Hubs
    ∷ []
rules_of tables now (PutSubscriber n subscriber) = limit tables (key.Subscriber n) Subscribers ∷ []
rules_of tables now (PutAddOn n number settings) =
    no_subscriber tables n ∷ option_map rule.Tree (first_fault tree.AddOn settings)
    ∷ limit tables (key.AddOn n number) AddOns ∷ []
rules_of tables now (PutModem mac modem) =
    no_subscriber tables modem.subscriber ∷ no_class tables modem.class
    ∷ limit tables (key.Modem mac) Modems ∷ []
rules_of tables now (PutClass n class) =
    option_map rule.Tree (first_fault tree.Class class.settings)
    ∷ limit tables (key.Class n) Classes ∷ []
rules_of tables now (PutPool n pool hub) =
    when (not (has_pool_size pool)) rule.PoolSize
    ∷ pool_overlap tables n pool
    ∷ device_overlap tables pool
    ∷ relay_taken tables n pool
    ∷ no_hub tables hub
    ∷ pool_has_leases tables now n (Some pool)
    ∷ limit tables (key.Pool n) Pools
    ∷ []
rules_of tables now (PutDevicePool n pool) =
    when (not (has_pool_size pool)) rule.PoolSize
    ∷ modems_overlap tables pool
    ∷ other_device_overlap tables n pool
    ∷ device_relay_taken tables n pool
    ∷ pool_has_devices tables now n (Some pool)
    ∷ limit tables (key.DevicePool n) DevicePools
    ∷ []
rules_of tables now (Remove removed) = removal_rules tables now removed
rules_of tables now (Show shown) = no_row tables shown ∷ []
rules_of tables now (Import kind batch digest rows) = []

-- leases and the rows of who holds them are dropped
abbrev pub lease_drops : Ip4 × Lease → List Write
lease_drops entry = Drop (key.Lease entry.0) ∷ held_drop (owner_of entry.1.hold)

abbrev pub device_drop : Ip4 × DeviceLease → Write
device_drop entry = Drop (key.Device entry.0)

-- a pool's hub has a row where it isn't the hub 0
abbrev pub pool_hub_write : ℕ → ℕ → Write
pool_hub_write n hub =
    if hub == 0 then Drop (key.PoolHub n) else Put (key.PoolHub n) (row.PoolHub hub)

abbrev pub removal_writes : Tables → Key → List Write
removal_writes tables (key.Subscriber n) = Drop (key.Subscriber n) ∷ map Drop (add_on_keys n)
removal_writes tables (key.Pool n) =
    Drop (key.Pool n) ∷ Drop (key.PoolHub n) ∷ flat_map lease_drops (lost_leases tables n None)
removal_writes tables (key.AddOn n number) = Drop (key.AddOn n number) ∷ []
removal_writes tables (key.Modem mac) = Drop (key.Modem mac) ∷ []
removal_writes tables (key.Class n) = Drop (key.Class n) ∷ []
removal_writes tables key.Site = Drop key.Site ∷ []
removal_writes tables (key.Lease address) = Drop (key.Lease address) ∷ []
removal_writes tables (key.Held mac) = Drop (key.Held mac) ∷ []
removal_writes tables (key.Batch n) = Drop (key.Batch n) ∷ []
removal_writes tables (key.Hub n) = Drop (key.Hub n) ∷ []
removal_writes tables (key.PoolHub n) = Drop (key.PoolHub n) ∷ []
removal_writes tables (key.DevicePool n) =
    Drop (key.DevicePool n) ∷ map device_drop (lost_devices tables n None)
removal_writes tables (key.Device address) = Drop (key.Device address) ∷ []

-- what a command writes that no rule refuses
abbrev pub writes_of : Tables → Command → List Write
writes_of tables (PutHub n site) = Put (key.Hub n) (row.Site site) ∷ []
writes_of tables (PutSubscriber n subscriber) =
    Put (key.Subscriber n) (row.Subscriber subscriber) ∷ []
writes_of tables (PutAddOn n number settings) = Put (key.AddOn n number) (row.AddOn settings) ∷ []
writes_of tables (PutModem mac modem) = Put (key.Modem mac) (row.Modem modem) ∷ []
writes_of tables (PutClass n class) = Put (key.Class n) (row.Class class) ∷ []
writes_of tables (PutPool n pool hub) =
    Put (key.Pool n) (row.Pool pool) ∷ pool_hub_write n hub
    ∷ flat_map lease_drops (lost_leases tables n (Some pool))
writes_of tables (PutDevicePool n pool) =
    Put (key.DevicePool n) (row.Pool pool) ∷ map device_drop (lost_devices tables n (Some pool))
writes_of tables (Remove removed) = removal_writes tables removed
writes_of tables (Show shown) = []
writes_of tables (Import kind batch digest rows) = []

-- A command is refused by a rule, and where it's an import, at one of its rows, which count from 1;
-- else the row is 0.
pub record Refusal : Type 0 where
  pub row : ℕ
  pub broken : Rule

abbrev pub refusal : ℕ → Rule → Refusal
refusal at broken = record { row = at; broken = broken }

-- or it is accepted: what is written, and what is answered
pub record Accepted : Type 0 where
  pub writes : List Write
  pub reply : Reply

abbrev pub accepted : List Write → Reply → Accepted
accepted writes reply = record { writes = writes; reply = reply }

abbrev pub Decision : Type 0
Decision = Result Accepted Refusal

abbrev pub by_rule : ℕ → Accepted → Option Rule → Decision
by_rule at wanted None = Ok wanted
by_rule at wanted (Some broken) = Err (refusal at broken)

-- A pool is shown with its hub. A row that clerks aren't shown is none to them
abbrev pub shown_as : Tables → Key → Row → Option Reply
shown_as tables (key.Pool n) held =
    option_map (λ pool. ShownPool n pool (pool_hub_in tables n)) (as_pool held)
shown_as tables key held = option_map (Shown key) (shown_row held)

abbrev pub shown : Option Reply → Decision
shown None = Err (refusal 0 rule.NoRow)
shown (Some reply) = Ok (accepted [] reply)

-- An import stands for the commands that put its rows, in order, each over the tables that those
-- before it left; all are done, or none.
abbrev pub command_of : ImportRow → Command
command_of (imported.Subscriber n subscriber) = PutSubscriber n subscriber
command_of (imported.Modem mac modem) = PutModem mac modem

abbrev pub then_writes : List Write → Result (List Write) Refusal → Result (List Write) Refusal
then_writes writes (Ok more) = Ok (writes ++ more)
then_writes writes (Err refused) = Err refused

abbrev pub unless_broken : ℕ → Option Rule → Result (List Write) Refusal →
    Result (List Write) Refusal
unless_broken at None rest = rest
unless_broken at (Some broken) rest = Err (refusal at broken)

-- what a row writes, and which rule it breaks first
abbrev pub row_writes : Tables → ImportRow → List Write
row_writes tables first = writes_of tables (command_of first)

abbrev pub row_breaks : Tables → ℕ → ImportRow → Option Rule
row_breaks tables now first = first_there (rules_of tables now (command_of first))

-- the rows from row number `at` on
abbrev pub rows_written : Tables → ℕ → ℕ → List ImportRow → Result (List Write) Refusal
rows_written tables now at [] = Ok []
rows_written tables now at (first ∷ rest) =
    unless_broken at (row_breaks tables now first)
    (then_writes (row_writes tables first)
    (rows_written (write_all tables (row_writes tables first)) now (at + 1) rest))

abbrev pub is_kind : ImportKind → ImportKind → Bool
is_kind import.Subscribers import.Subscribers = true
is_kind import.Modems import.Modems = true
is_kind kind other = false

-- an import that was done before is answered as then, if it has the same kind and digest
abbrev pub repeated : ImportKind → ℕ → List ℕ → Batch → Decision
repeated kind batch digest old =
    by_rule 0 (accepted [] (Rows old.rows))
    (when (not (is_kind kind old.kind && eq_by_cmp (slice_cmp nat_cmp) digest old.digest))
    (rule.BatchDiffers batch))

abbrev pub batch_row : ImportKind → List ℕ → List ImportRow → Row
batch_row kind digest rows = row.Batch (record { kind = kind; digest = digest; rows = length rows })

abbrev pub imported_as : Tables → ImportKind → ℕ → List ℕ → List ImportRow →
    Result (List Write) Refusal → Decision
imported_as tables kind batch digest rows (Err refused) = Err refused
imported_as tables kind batch digest rows (Ok writes) =
    by_rule 0 (accepted (writes ++ Put (key.Batch batch) (batch_row kind digest rows) ∷ [])
    (Rows (length rows))) (limit tables (key.Batch batch) Batches)

abbrev pub import_decided : Tables → ℕ → ImportKind → ℕ → List ℕ → List ImportRow → Option Batch →
    Decision
import_decided tables now kind batch digest rows (Some old) = repeated kind batch digest old
import_decided tables now kind batch digest rows None =
    imported_as tables kind batch digest rows (rows_written tables now 1 rows)

-- what becomes of a command
abbrev pub decided : Tables → ℕ → Command → Decision
decided tables now (Show key) = shown (option_and_then (shown_as tables key) (seen_at tables key))
decided tables now (Import kind batch digest rows) =
    import_decided tables now kind batch digest rows (batch_in tables batch)
decided tables now command =
    by_rule 0 (accepted (writes_of tables command) Done)
    (first_there (rules_of tables now command))

-- The step of a command at a moment: what is written, the tables after it, and the answer. Where it
-- was refused, nothing is written, and the tables are as before
pub record Stepped : Type 0 where
  pub writes : List Write
  pub tables : Tables
  pub answer : Result Reply Refusal

abbrev pub stepped_by : Tables → Decision → Stepped
stepped_by tables (Ok done) =
    record { writes = done.writes; tables = write_all tables done.writes; answer = Ok done.reply }
stepped_by tables (Err refused) = record { writes = []; tables = tables; answer = Err refused }

unfoldable pub clerk_step : Tables → ℕ → Command → Stepped
clerk_step tables now command = stepped_by tables (decided tables now command)

-- what becomes of tables in a step that was done with these writes and this answer, and in one that
-- a rule refused
abbrev pub step_done : Tables → List Write → Reply → Stepped
step_done tables writes reply =
    record { writes = writes; tables = write_all tables writes; answer = Ok reply }

abbrev pub step_refused : Tables → ℕ → Rule → Stepped
step_refused tables at broken =
    record { writes = []; tables = tables; answer = Err (refusal at broken) }
