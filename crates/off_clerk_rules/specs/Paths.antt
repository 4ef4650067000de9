-- What a request is about, a row or an import: the path of its target (RFC 9112, section 3.2), and
-- which methods it has.
use Rattle.std.specs.Prelude.{ℕ, ◌-◌, ◌^◌, ◌==◌, true, false, List, [], ◌∷◌, length, take, drop, codes, nat_eq, bytes_eq, Option, Some, None, option_map, option_and_then, IsTrue, if◌then◌else◌}
use Rattle.std.specs.List.{starts_with, position_or_len, fold}
use Rattle.std.specs.Option.{option_or}
use Rattle.off_base.specs.AddressText.{ip_of, mac_of}
use Rattle.off_base.specs.Number.{number_read, greatest_u64}
use Rattle.off_base.specs.declared.addresses.Ip4.{Ip4}
use Rattle.off_base.specs.declared.macs.Mac.{Mac}
use Rattle.off_defs.specs.Bounds.{last_add_on}
use Rattle.off_defs.specs.declared.keys.Key.{Key}
use Rattle.off_defs.specs.declared.keys.Key.TheVariants as key
use Rattle.off_defs.specs.declared.tables.ImportKind.{ImportKind}
use Rattle.off_defs.specs.declared.tables.ImportKind.TheVariants.{Subscribers, Modems}
use Rattle.off_orders.specs.Sound.{is_shown, is_removable}
use Rattle.off_clerk_rules.specs.declared.places.Place.{Place}
use Rattle.off_clerk_rules.specs.declared.places.Place.TheVariants as at

-- the number of bytes before the first mark, or of all
abbrev pub length_before : ℕ → List ℕ → ℕ
length_before mark text = position_or_len (λ c. c == mark) text

-- the path of a target: what stands before its first `?`
abbrev pub path_of : List ℕ → List ℕ
path_of target = take (length_before 63 target) target

-- what is read behind a front, where the text begins so
abbrev pub read_behind : {A : Type 0} → List ℕ → (List ℕ → Option A) → List ℕ → Option A
read_behind front read text =
    if starts_with nat_eq text front then read (drop (length front) text) else None

-- the greatest number of a hub, a subscriber, a class, a pool or a pool for devices
abbrev pub last_number : ℕ
last_number = 2 ^ 32 - 1

-- The methods of a path go by the path, not by its key. A row is only shown there (GET, RFC 9110,
-- section 9.3.1), or also put (PUT, section 9.3.4), or also removed (DELETE, section 9.3.5).
abbrev pub only_shown : Key → Place
only_shown row = at.Row row false false

abbrev pub kept : Key → Place
kept row = at.Row row true false

abbrev pub removable : Key → Place
removable row = at.Row row true true

abbrev pub numbered : (ℕ → Key) → List ℕ → Option Place
numbered named text = option_map (λ number. removable (named number)) (number_read last_number text)

abbrev pub mac_with : List ℕ → Mac
mac_with bytes = record { 0 = bytes }

abbrev pub ip_with : ℕ → Ip4
ip_with number = record { 0 = number }

-- a subscriber's number, `/addons/`, and the number of an add-on
abbrev pub add_on_named : List ℕ → Option Place
add_on_named text =
    let cut = length_before 47 text in
    option_and_then (λ subscriber. option_map (λ number. removable (key.AddOn subscriber number))
    (read_behind (codes "/addons/") (number_read last_add_on) (drop cut text)))
    (number_read last_number (take cut text))

-- The paths, and what each names. A lease is only shown. The office's one site of earlier days is
-- the hub 0, and isn't removed by the path that it had
abbrev pub site_at : List ℕ → Option Place
site_at path = if bytes_eq path (codes "/site") then Some (kept (key.Hub 0)) else None

abbrev pub hub_at : List ℕ → Option Place
hub_at path = read_behind (codes "/hubs/") (numbered key.Hub) path

abbrev pub subscriber_at : List ℕ → Option Place
subscriber_at path = read_behind (codes "/subscribers/") (numbered key.Subscriber) path

abbrev pub add_on_at : List ℕ → Option Place
add_on_at path = read_behind (codes "/subscribers/") add_on_named path

abbrev pub modem_at : List ℕ → Option Place
modem_at path =
    read_behind (codes "/modems/")
    (λ text. option_map (λ bytes. removable (key.Modem (mac_with bytes))) (mac_of text)) path

abbrev pub class_at : List ℕ → Option Place
class_at path = read_behind (codes "/classes/") (numbered key.Class) path

abbrev pub pool_at : List ℕ → Option Place
pool_at path = read_behind (codes "/pools/") (numbered key.Pool) path

abbrev pub device_pool_at : List ℕ → Option Place
device_pool_at path = read_behind (codes "/device-pools/") (numbered key.DevicePool) path

abbrev pub lease_at : List ℕ → Option Place
lease_at path =
    read_behind (codes "/leases/")
    (λ text. option_map (λ number. only_shown (key.Lease (ip_with number))) (ip_of text)) path

abbrev pub import_named : ImportKind → List ℕ → Option Place
import_named kind text = option_map (λ batch. at.Import kind batch) (number_read greatest_u64 text)

abbrev pub subscribers_at : List ℕ → Option Place
subscribers_at path = read_behind (codes "/imports/subscribers/") (import_named Subscribers) path

abbrev pub modems_at : List ℕ → Option Place
modems_at path = read_behind (codes "/imports/modems/") (import_named Modems) path

-- the one that the path is of
abbrev pub place_at : List ℕ → Option Place
place_at path =
    fold option_or (site_at path)
    (hub_at path ∷ subscriber_at path ∷ add_on_at path ∷ modem_at path ∷ class_at path
    ∷ pool_at path ∷ device_pool_at path ∷ lease_at path ∷ subscribers_at path ∷ modems_at path
    ∷ [])

-- a clerk may be shown the row, and remove it where its path has DELETE
abbrev pub IsNamed : Place → Type 0
IsNamed (at.Row row puts deletes) =
    IsTrue (is_shown row) × (IsTrue deletes → IsTrue (is_removable row))
IsNamed (at.Import kind batch) = Unit {0}
