-- What is kept: for each modem that asked for its file the body that was built, the modem that
-- asked last first, and so many modems at most.
use Rattle.std.specs.Prelude.{ℕ, ◌==◌, Bool, true, false, not, List, ◌∷◌, take, Option, refl}
use Rattle.std.specs.List.{filter, list_any}
use Rattle.std.specs.Map.{lookup}
use Rattle.std.specs.Coded.{Coded, code_by, coded×, coded_ℕ, coded_list}
use Rattle.off_base.specs.declared.macs.Mac.{Mac}
use Rattle.off_defs.specs.declared.keys.Key.{Key}
use Rattle.off_defs.specs.declared.keys.Key.TheVariants.{Site, Subscriber, AddOn, Modem, Class}
use Rattle.off_defs.specs.declared.keys.Key.TheVariants.{Pool, Lease, Held, Batch}
use Rattle.off_defs.specs.declared.keys.Key.TheVariants.{Hub, PoolHub, DevicePool, Device}
use Rattle.off_defs.specs.declared.writes.Write.{Write}
use Rattle.off_defs.specs.Tables.{key_written}
use Rattle.off_kept.specs.declared.bodies.KeptBody.{KeptBody}
use Rattle.off_base.specs.Macs.{is_same_mac, mac_code}

-- a modem and what is kept of it
abbrev pub Entry : Type 0
Entry = Mac × KeptBody

abbrev pub Entries : Type 0
Entries = List Entry

abbrev pub most_entries : ℕ
most_entries = 512

-- what is kept of a modem
abbrev pub kept_of : Mac → Entries → Option KeptBody
kept_of modem entries = lookup (is_same_mac modem) entries

-- the modem's entry first, in place of the one it had, and no more than may be
abbrev pub with_first : Mac → KeptBody → Entries → Entries
with_first modem kept entries =
    take most_entries
    ((modem, kept) ∷ filter (λ entry. not (is_same_mac modem entry.0)) entries)

-- a row of this key stands in the entry's file: the modem's, its subscriber's, an add-on of that
-- subscriber, or its class
abbrev pub stands_in : Key → Entry → Bool
stands_in (Modem mac) entry = is_same_mac mac entry.0
stands_in (Subscriber number) entry = number == entry.1.subscriber
stands_in (AddOn subscriber number) entry = subscriber == entry.1.subscriber
stands_in (Class number) entry = number == entry.1.class
stands_in Site entry = false
stands_in (Pool number) entry = false
stands_in (Lease address) entry = false
stands_in (Held mac) entry = false
stands_in (Batch number) entry = false
stands_in (Hub number) entry = false
stands_in (PoolHub pool) entry = false
stands_in (DevicePool number) entry = false
stands_in (Device address) entry = false

-- rows of this key stand in some files
abbrev pub is_of_files : Key → Bool
is_of_files (Modem mac) = true
is_of_files (Subscriber number) = true
is_of_files (AddOn subscriber number) = true
is_of_files (Class number) = true
is_of_files Site = false
is_of_files (Pool number) = false
is_of_files (Lease address) = false
is_of_files (Held mac) = false
is_of_files (Batch number) = false
is_of_files (Hub number) = false
is_of_files (PoolHub pool) = false
is_of_files (DevicePool number) = false
is_of_files (Device address) = false

-- one of the writes changes a row of some files
abbrev pub changes_files : List Write → Bool
changes_files writes = list_any (λ write. is_of_files (key_written write)) writes

-- one of the writes changes a row of the entry's file
abbrev pub is_written : List Write → Entry → Bool
is_written writes entry = list_any (λ write. stands_in (key_written write) entry) writes

-- the entries of which no row is written
abbrev pub without_written : List Write → Entries → Entries
without_written writes entries = filter (λ entry. not (is_written writes entry)) entries

-- the code of entries, by which a proof tells two such lists apart
abbrev kept_body_code : Coded KeptBody
kept_body_code =
    code_by (ℕ × (ℕ × List ℕ)) (coded× coded_ℕ (coded× coded_ℕ (coded_list coded_ℕ)))
    (λ k. (k.subscriber, (k.class, k.body)))
    (λ p. record { subscriber = p.0; class = p.1.0; body = p.1.1 }) (λ _. refl)

abbrev pub kept_code : Coded Entries
kept_code = coded_list (coded× mac_code kept_body_code)
