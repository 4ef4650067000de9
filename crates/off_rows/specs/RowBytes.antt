-- The bytes of a row of the tables: its fields in order, without gaps. Numbers have their most
-- significant byte first.
use Rattle.std.specs.Prelude.{◌≡◌, ℕ, ◌<◌, ◌≤◌, ◌^◌, Bool, true, false, List, [], ◌∷◌, ◌++◌, length, IsUtf8, FitsSigned}
use Rattle.std.specs.Int.{to_be_bytes, cast_unsigned, w16, w32, w64}
use Rattle.off_base.specs.Tree.{Tree, spelling, AllFit}
use Rattle.off_tlv.specs.Grammar.{in_file, AllStand}
use Rattle.off_defs.specs.declared.keys.Key.{Key}
use Rattle.off_defs.specs.declared.keys.Key.TheVariants as key
use Rattle.off_defs.specs.declared.tables.ImportKind.{ImportKind}
use Rattle.off_defs.specs.declared.tables.ImportKind.TheVariants.{Subscribers, Modems}
use Rattle.off_defs.specs.declared.tables.Hold.{Hold}
use Rattle.off_defs.specs.declared.tables.Hold.TheVariants.{Offered, Bound, Declined}
use Rattle.off_defs.specs.declared.tables.DeviceHold.{DeviceHold}
use Rattle.off_defs.specs.declared.tables.DeviceHold.TheVariants as device
use Rattle.off_defs.specs.declared.tables.Row.{Row}
use Rattle.off_defs.specs.declared.tables.Row.TheVariants.{Site, Subscriber, AddOn, Modem, Class}
use Rattle.off_defs.specs.declared.tables.Row.TheVariants.{Pool, Lease, Held, Batch}
use Rattle.off_defs.specs.declared.tables.Row.TheVariants.{PoolHub, Device}

-- a text or a secret: its length in one byte, and its bytes
abbrev pub counted : List ℕ → List ℕ
counted bytes = length bytes ∷ bytes

-- settings: the length of their spelling in two bytes, and the spelling (CM-SP-MULPIv3.1, annex
-- D.1) without end marker and pads
abbrev pub settings_bytes : List Tree → List ℕ
settings_bytes settings = to_be_bytes w16 (length (spelling settings)) ++ spelling settings

abbrev pub flag_bytes : Bool → List ℕ
flag_bytes false = 0 ∷ []
flag_bytes true = 1 ∷ []

-- whether an address is offered, bound or declined, and its owner, whom a declined address hasn't
abbrev pub hold_bytes : Hold → List ℕ
hold_bytes (Offered owner) = 1 ∷ owner.0
hold_bytes (Bound owner) = 2 ∷ owner.0
hold_bytes Declined = 3 ∷ []

-- the same of a device's address, whose owner is a modem and the device behind it
abbrev pub device_hold_bytes : DeviceHold → List ℕ
device_hold_bytes (device.Offered modem owner) = 1 ∷ (modem.0 ++ owner.0)
device_hold_bytes (device.Bound modem owner) = 2 ∷ (modem.0 ++ owner.0)
device_hold_bytes device.Declined = 3 ∷ []

abbrev pub import_kind_bytes : ImportKind → List ℕ
import_kind_bytes Subscribers = 1 ∷ []
import_kind_bytes Modems = 2 ∷ []

abbrev pub row_bytes : Row → List ℕ
-- the offset in two's complement
row_bytes (Site site) =
    to_be_bytes w32 site.server.0 ++ counted site.secret
    ++ to_be_bytes w32 (cast_unsigned w32 site.offset) ++ to_be_bytes w32 site.lease
    ++ to_be_bytes w32 site.log.0
row_bytes (Subscriber subscriber) =
    flag_bytes subscriber.active ++ subscriber.cpes ∷ [] ++ counted subscriber.name
row_bytes (AddOn settings) = settings_bytes settings
row_bytes (Modem modem) =
    to_be_bytes w32 modem.subscriber ++ to_be_bytes w32 modem.class ++ counted modem.serial
row_bytes (Class class) = counted class.name ++ settings_bytes class.settings
row_bytes (Pool pool) =
    to_be_bytes w32 pool.first.0 ++ to_be_bytes w32 pool.last.0 ++ pool.prefix ∷ []
    ++ to_be_bytes w32 pool.router.0 ++ to_be_bytes w32 pool.relay.0
row_bytes (Lease lease) = hold_bytes lease.hold ++ to_be_bytes w64 lease.expiry.0
row_bytes (Held address) = to_be_bytes w32 address.0
row_bytes (Batch batch) = import_kind_bytes batch.kind ++ batch.digest ++ to_be_bytes w32 batch.rows
row_bytes (PoolHub hub) = to_be_bytes w32 hub
row_bytes (Device lease) = device_hold_bytes lease.hold ++ to_be_bytes w64 lease.expiry.0

-- a row of the key's kind; a hub has a site's row, and a pool for devices a pool's
abbrev pub IsOfKind : Key → Row → Type 0
IsOfKind key.Site (Site site) = Unit {0}
IsOfKind (key.Subscriber number) (Subscriber subscriber) = Unit {0}
IsOfKind (key.AddOn subscriber number) (AddOn settings) = Unit {0}
IsOfKind (key.Modem mac) (Modem modem) = Unit {0}
IsOfKind (key.Class number) (Class class) = Unit {0}
IsOfKind (key.Pool number) (Pool pool) = Unit {0}
IsOfKind (key.Lease address) (Lease lease) = Unit {0}
IsOfKind (key.Held mac) (Held address) = Unit {0}
IsOfKind (key.Batch number) (Batch batch) = Unit {0}
IsOfKind (key.Hub number) (Site site) = Unit {0}
IsOfKind (key.PoolHub pool) (PoolHub hub) = Unit {0}
IsOfKind (key.DevicePool number) (Pool pool) = Unit {0}
IsOfKind (key.Device address) (Device lease) = Unit {0}
IsOfKind key row = ⊥

-- a text of at most 64 bytes (UTF-8, RFC 3629)
abbrev pub IsText : List ℕ → Type 0
IsText bytes = (length bytes ≤ 64) × IsUtf8 bytes

abbrev pub OwnerIsMac : Hold → Type 0
OwnerIsMac (Offered owner) = length owner.0 ≡ 6
OwnerIsMac (Bound owner) = length owner.0 ≡ 6
OwnerIsMac Declined = Unit {0}

abbrev pub OwnersAreMacs : DeviceHold → Type 0
OwnersAreMacs (device.Offered modem owner) = (length modem.0 ≡ 6) × (length owner.0 ≡ 6)
OwnersAreMacs (device.Bound modem owner) = (length modem.0 ≡ 6) × (length owner.0 ≡ 6)
OwnersAreMacs device.Declined = Unit {0}

-- The row's numbers and texts are in the ranges of their types. Each row of the program is so.
abbrev pub RowRanged : Row → Type 0
RowRanged (Site site) =
    (site.server.0 < 2 ^ 32) × (length site.secret ≤ 64) × FitsSigned w32 site.offset
    × (site.lease < 2 ^ 32) × (site.log.0 < 2 ^ 32)
RowRanged (Subscriber subscriber) = (subscriber.cpes < 256) × IsText subscriber.name
RowRanged (AddOn settings) = Unit {0}
RowRanged (Modem modem) = (modem.subscriber < 2 ^ 32) × (modem.class < 2 ^ 32) × IsText modem.serial
RowRanged (Class class) = IsText class.name
RowRanged (Pool pool) =
    (pool.first.0 < 2 ^ 32) × (pool.last.0 < 2 ^ 32) × (pool.prefix < 256)
    × (pool.router.0 < 2 ^ 32) × (pool.relay.0 < 2 ^ 32)
RowRanged (Lease lease) = OwnerIsMac lease.hold × (lease.expiry.0 < 2 ^ 64)
RowRanged (Held address) = address.0 < 2 ^ 32
RowRanged (Batch batch) = (length batch.digest ≡ 16) × (batch.rows < 2 ^ 32)
RowRanged (PoolHub hub) = hub < 2 ^ 32
RowRanged (Device lease) = OwnersAreMacs lease.hold × (lease.expiry.0 < 2 ^ 64)

-- two bytes can say the length of the spelling
abbrev pub IsShortSpelling : List Tree → Type 0
IsShortSpelling settings = length (spelling settings) ≤ 65535

-- the row's settings have a spelling, whose length two bytes can say
abbrev pub CanSpell : Row → Type 0
CanSpell (Site site) = Unit {0}
CanSpell (Subscriber subscriber) = Unit {0}
CanSpell (AddOn settings) = AllFit settings × IsShortSpelling settings
CanSpell (Modem modem) = Unit {0}
CanSpell (Class class) = AllFit class.settings × IsShortSpelling class.settings
CanSpell (Pool pool) = Unit {0}
CanSpell (Lease lease) = Unit {0}
CanSpell (Held address) = Unit {0}
CanSpell (Batch batch) = Unit {0}
CanSpell (PoolHub hub) = Unit {0}
CanSpell (Device lease) = Unit {0}

-- the row's settings are as the grammar of a configuration file wants them, and two bytes can say
-- the length of their spelling
abbrev pub SettingsStand : Row → Type 0
SettingsStand (Site site) = Unit {0}
SettingsStand (Subscriber subscriber) = Unit {0}
SettingsStand (AddOn settings) = AllStand in_file settings × IsShortSpelling settings
SettingsStand (Modem modem) = Unit {0}
SettingsStand (Class class) = AllStand in_file class.settings × IsShortSpelling class.settings
SettingsStand (Pool pool) = Unit {0}
SettingsStand (Lease lease) = Unit {0}
SettingsStand (Held address) = Unit {0}
SettingsStand (Batch batch) = Unit {0}
SettingsStand (PoolHub hub) = Unit {0}
SettingsStand (Device lease) = Unit {0}

-- a row of the key's kind, whose values are in range and whose settings stand
pub record IsRowOf (key : Key) (row : Row) : Type 0 where
  pub kind : IsOfKind key row
  pub ranged : RowRanged row
  pub stand : SettingsStand row
