-- What writes no batch: messages of modems and of devices, and each command of a clerk but an import.
use Rattle.std.proofs.Common.{◌≡◌, ℕ, Bool, true, false, cond, ◌&&◌, eqb, Option, None, Some, List, [], ◌∷◌, ◌++◌, map, Result, Ok, Err, refl, ap, ◌∙◌, arith}
use Rattle.std.proofs.lemmas.Bool.{and_parts}
use Rattle.std.specs.List.{list_all, flat_map}
use Rattle.off_base.specs.declared.addresses.Ip4.{Ip4}
use Rattle.off_base.specs.declared.macs.Mac.{Mac}
use Rattle.off_defs.specs.declared.keys.Key.{Key}
use Rattle.off_defs.specs.declared.keys.Key.TheVariants as key
use Rattle.off_defs.specs.declared.tables.Row.TheVariants as row
use Rattle.off_defs.specs.declared.tables.Lease.{Lease}
use Rattle.off_defs.specs.declared.tables.DeviceLease.{DeviceLease}
use Rattle.off_orders.specs.declared.orders.Command.{Command}
use Rattle.off_orders.specs.declared.orders.Command.TheVariants.{PutHub, PutSubscriber, PutAddOn, PutModem, PutClass, PutPool, PutDevicePool, Remove, Show, Import}
use Rattle.off_orders.specs.declared.orders.ImportRow.{ImportRow}
use Rattle.off_orders.specs.declared.orders.ImportRow.TheVariants as imported
use Rattle.off_defs.specs.declared.writes.Write.{Write}
use Rattle.off_defs.specs.declared.writes.Write.TheVariants.{Put, Drop}
use Rattle.off_defs.specs.State.{Tables}
use Rattle.off_dhcp.specs.declared.faults.DhcpFault.{DhcpFault}
use Rattle.off_dhcp.specs.Datagram.{Received, message_of}
use Rattle.off_orders.specs.Sound.{is_sound, is_removable}
use Rattle.off_account_rules.specs.Good.{owner_of}
use Rattle.off_account_rules.specs.Changes.{held_drop}
use Rattle.off_orders.specs.Clerk.{lease_drops, device_drop, lost_leases, lost_devices, pool_hub_write, removal_writes, writes_of, row_writes}
use Rattle.off_table_laws.proofs.Rows.{Rows, row_written, rows_after}
use Rattle.off_lease_rules.specs.Steps.{step_of, dhcp_step}
use Rattle.off_lease_laws.proofs.KindLemmas.{is_lease_write, kinds}
use Rattle.off_account_rules.specs.Rows.{devices}
use Rattle.off_asking.specs.Asking.{client}
use Rattle.off_cpe_rules.specs.Behind.{own_among}
use Rattle.off_cpe_rules.specs.Steps.{own_elsewhere, step_behind}
use Rattle.off_cpe_rules.specs.Steps.{own_drop}
use Rattle.off_cpe_laws.proofs.WriteLemmas.{nothing, gives, rests, frees, wrote}
use Rattle.off_import_runs.specs.Puts.{puts_of, puts_in}

pub is_aside : Write → Bool
is_aside (Put (key.Batch n) held) = false
is_aside (Drop (key.Batch n)) = false
is_aside write = true

abbrev pub AreAside : List Write → Type 0
AreAside writes = list_all is_aside writes ≡ true

-- the batch's row stays, and isn't put
one_stays : (all : Rows) (n : ℕ) (write : Write) → is_aside write ≡ true → row_written all write (key.Batch n) ≡ all (key.Batch n)
unfolding is_aside
one_stays all n (Put key.Site held) aside = refl
one_stays all n (Put (key.Subscriber m) held) aside = refl
one_stays all n (Put (key.AddOn m k) held) aside = refl
one_stays all n (Put (key.Modem mac) held) aside = refl
one_stays all n (Put (key.Class m) held) aside = refl
one_stays all n (Put (key.Pool m) held) aside = refl
one_stays all n (Put (key.Lease address) held) aside = refl
one_stays all n (Put (key.Held mac) held) aside = refl
one_stays all n (Put (key.Batch m) held) aside = cc
one_stays all n (Put (key.Hub m) held) aside = refl
one_stays all n (Put (key.PoolHub m) held) aside = refl
one_stays all n (Put (key.DevicePool m) held) aside = refl
one_stays all n (Put (key.Device address) held) aside = refl
one_stays all n (Drop key.Site) aside = refl
one_stays all n (Drop (key.Subscriber m)) aside = refl
one_stays all n (Drop (key.AddOn m k)) aside = refl
one_stays all n (Drop (key.Modem mac)) aside = refl
one_stays all n (Drop (key.Class m)) aside = refl
one_stays all n (Drop (key.Pool m)) aside = refl
one_stays all n (Drop (key.Lease address)) aside = refl
one_stays all n (Drop (key.Held mac)) aside = refl
one_stays all n (Drop (key.Batch m)) aside = cc
one_stays all n (Drop (key.Hub m)) aside = refl
one_stays all n (Drop (key.PoolHub m)) aside = refl
one_stays all n (Drop (key.DevicePool m)) aside = refl
one_stays all n (Drop (key.Device address)) aside = refl

one_unput : (n : ℕ) (write : Write) → is_aside write ≡ true → puts_of n write ≡ 0
unfolding is_aside
one_unput n (Put (key.Batch m) held) aside = cc
one_unput n write aside = refl

pub row_stays : (n : ℕ) (writes : List Write) (all : Rows) → AreAside writes → rows_after all writes (key.Batch n) ≡ all (key.Batch n)
row_stays n [] all aside = refl
row_stays n (write ∷ writes) all aside =
    let parts = and_parts (is_aside write) (list_all is_aside writes) aside in
    row_stays n writes (row_written all write) parts.1 ∙ one_stays all n write parts.0

pub unput : (n : ℕ) (writes : List Write) → AreAside writes → puts_in n writes ≡ 0
unput n [] aside = refl
unput n (write ∷ writes) aside =
    let parts = and_parts (is_aside write) (list_all is_aside writes) aside in
    omega (arith, one_unput n write parts.0, unput n writes parts.1)

pub aside_both : (one other : List Write) → AreAside one → AreAside other → AreAside (one ++ other)
aside_both [] other first second = second
aside_both (write ∷ one) other first second =
    let parts = and_parts (is_aside write) (list_all is_aside one) first in
    ap (λ (b : Bool). b && list_all is_aside (one ++ other)) parts.0 ∙ aside_both one other parts.1 second

-- a message writes leases and their holders alone
lease_aside : (write : Write) → is_lease_write write ≡ true → is_aside write ≡ true
unfolding is_lease_write is_aside
lease_aside (Put (key.Batch n) held) lease = cc
lease_aside (Drop (key.Batch n)) lease = cc
lease_aside write lease = refl

leases_aside : (writes : List Write) → list_all is_lease_write writes ≡ true → AreAside writes
leases_aside [] lease = refl
leases_aside (write ∷ writes) lease =
    let parts = and_parts (is_lease_write write) (list_all is_lease_write writes) lease in
    ap (λ (b : Bool). b && list_all is_aside writes) (lease_aside write parts.0) ∙ leases_aside writes parts.1

read_aside : (t : Tables) (now : ℕ) (read : Result Received DhcpFault) → AreAside (step_of t now read).writes
read_aside t now (Ok m) = leases_aside _ (kinds t now m)
read_aside t now (Err fault) = refl

pub message_aside : (t : Tables) (now : ℕ) (bytes : List ℕ) → AreAside (dhcp_step t now bytes).writes
unfolding dhcp_step
message_aside t now bytes = read_aside t now (message_of bytes)

-- so are those of a device's message
given_aside : (o : Option Ip4) (address : Ip4) (lease : DeviceLease) → AreAside (own_drop o ++ Put (key.Device address) (row.Device lease) ∷ [])
unfolding is_aside
given_aside None address lease = refl
given_aside (Some other) address lease = refl

pub device_aside : (t : Tables) (now : ℕ) (m : Received) (modem : Mac) → AreAside (step_behind t now m modem).writes
unfolding is_aside
device_aside t now m modem =
    elim (wrote t now m modem) as (λ w. AreAside (step_behind t now m modem).writes) [
      | nothing e ↦ ap (list_all is_aside) e
      | gives a lease is within e ↦ ap (list_all is_aside) e ∙ given_aside (own_elsewhere a (own_among modem (client m) (devices t))) a lease
      | rests a lease is own e ↦ ap (list_all is_aside) e
      | frees a e ↦ ap (list_all is_aside) e
    ]

-- so do the drops of lost leases
drop_aside : (address : Ip4) (owner : Option Mac) → AreAside (Drop (key.Lease address) ∷ held_drop owner)
unfolding is_aside
drop_aside address None = refl
drop_aside address (Some mac) = refl

drops_aside : (es : List (Ip4 × Lease)) → AreAside (flat_map lease_drops es)
drops_aside [] = refl
drops_aside (e ∷ es) = aside_both (lease_drops e) (flat_map lease_drops es) (drop_aside e.0 (owner_of e.1.hold)) (drops_aside es)

devices_aside : (es : List (Ip4 × DeviceLease)) → AreAside (map device_drop es)
unfolding is_aside
devices_aside [] = refl
devices_aside (e ∷ es) = devices_aside es

-- so does a pool with its hub, put or dropped
pool_aside : (n hub : ℕ) (writes : List Write) → AreAside writes → AreAside (pool_hub_write n hub ∷ writes)
unfolding is_aside
pool_aside n hub writes aside =
    elim (eqb hub 0) as (λ b. AreAside (cond b (Drop (key.PoolHub n)) (Put (key.PoolHub n) (row.PoolHub hub)) ∷ writes)) [
      | true ↦ aside
      | false ↦ aside
    ]

removal_aside : (t : Tables) (removed : Key) → is_removable removed ≡ true → AreAside (removal_writes t removed)
unfolding is_aside
removal_aside t (key.Subscriber n) sound = refl
removal_aside t (key.AddOn n k) sound = refl
removal_aside t (key.Modem mac) sound = refl
removal_aside t (key.Class n) sound = refl
removal_aside t (key.Pool n) sound = drops_aside (lost_leases t n None)
removal_aside t (key.Hub n) sound = refl
removal_aside t (key.DevicePool n) sound = devices_aside (lost_devices t n None)
removal_aside t removed sound = cc

pub command_aside : (t : Tables) (command : Command) → is_sound command ≡ true → AreAside (writes_of t command)
unfolding is_aside
command_aside t (PutHub n site) sound = refl
command_aside t (PutSubscriber n subscriber) sound = refl
command_aside t (PutAddOn n number settings) sound = refl
command_aside t (PutModem mac modem) sound = refl
command_aside t (PutClass n class) sound = refl
command_aside t (PutPool n pool hub) sound = pool_aside n hub (flat_map lease_drops (lost_leases t n (Some pool))) (drops_aside (lost_leases t n (Some pool)))
command_aside t (PutDevicePool n pool) sound = devices_aside (lost_devices t n (Some pool))
command_aside t (Remove removed) sound = removal_aside t removed sound
command_aside t (Show shown) sound = refl
command_aside t (Import kind batch digest rows) sound = refl

-- each row of an import, too
pub row_aside : (t : Tables) (first : ImportRow) → AreAside (row_writes t first)
unfolding is_aside
row_aside t (imported.Subscriber n subscriber) = refl
row_aside t (imported.Modem mac modem) = refl
