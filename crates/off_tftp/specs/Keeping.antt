-- Bodies that were built, as they are kept: what a request finds, and what it leaves.
use Rattle.std.specs.Prelude.{◌≡◌, ℕ, Bool, true, false, List, Option, Some, None, is_some, IfSome, option_map, option_and_then}
use Rattle.std.specs.FinMap as map
use Rattle.off_base.specs.Tree.{Tree, spelling}
use Rattle.off_base.specs.declared.addresses.Ip4.{Ip4}
use Rattle.off_base.specs.declared.addresses.Peer.{Peer}
use Rattle.off_base.specs.declared.macs.Mac.{Mac}
use Rattle.off_defs.specs.declared.tables.Modem.{Modem}
use Rattle.off_defs.specs.State.{Tables, Transfer}
use Rattle.off_account_rules.specs.Rows.{lease_in}
use Rattle.off_kept.specs.Entries.{Entries, kept_of, with_first}
use Rattle.off_kept.specs.declared.bodies.KeptBody.{KeptBody}
use Rattle.off_outside.specs.KeeperSeen.{KeeperSeen}
use Rattle.off_outside.specs.KeeperCalls.{Spent}
use Rattle.off_transfer_rules.specs.Requests.{Datagram}
use Rattle.off_transfer_rules.specs.Transfers.{Transfers}
use Rattle.off_transfer_rules.specs.View.{View, view, owner_by}
use Rattle.off_transfer_rules.specs.Steps.{Way, Accepts, way, is_repeated}

-- whether the entry of a modem is kept
abbrev pub is_kept : Option Mac → Entries → Bool
is_kept None entries = false
is_kept (Some mac) entries = is_some (kept_of mac entries)

-- Where the entry is kept of the modem that owns the address in the tables, its file is read from
-- there: the site, the lease of the address and the modem are all that is asked for.
abbrev pub FewWhereKept : Ip4 → Entries → KeeperSeen → KeeperSeen → Type 0
FewWhereKept ip entries old new =
    (t : Tables) → old.tables t → is_kept (owner_by (lease_in t ip)) entries ≡ true →
    Spent 3 old new

-- the peer's transfer, where it began with this request, is of the modem that holds its address
abbrev pub BeginsFor : Option Mac → List ℕ → Option Transfer → Type 0
BeginsFor holder bytes live = IfSome live (λ x. is_repeated bytes x ≡ true → holder ≡ Some x.modem)

-- A request with which a transfer begins asks no more either, where its modem's entry was kept.
-- That needs no tables that are told.
abbrev pub FewWhereBegun : Peer → List ℕ → Transfers → Entries → KeeperSeen → KeeperSeen → Type 0
FewWhereBegun from bytes transfers entries old new =
    IfSome (map.get transfers from) (λ x.
    is_repeated bytes x ≡ true → is_kept (Some x.modem) entries ≡ true → Spent 3 old new)

-- the entry of a modem: the numbers of its row, and the spelling of its profile
abbrev pub entry_of : Modem → List Tree → KeptBody
entry_of modem profile =
    record { subscriber = modem.subscriber; class = modem.class; body = spelling profile }

abbrev pub entry_for : Option Modem → Option (List Tree) → Option KeptBody
entry_for modem profile = option_and_then (λ modem. option_map (entry_of modem) profile) modem

-- a modem's entry is put first, where it has one
abbrev pub kept_with : Mac → Option KeptBody → Entries → Entries
kept_with mac None entries = entries
kept_with mac (Some entry) entries = with_first mac entry entries

-- where a transfer begins, its modem's entry is put first; nothing else changes what is kept
abbrev pub kept_by : View → Way → Entries → Entries
kept_by v (Accepts request owner) entries =
    kept_with owner.modem (entry_for v.modem v.profile) entries
kept_by v other entries = entries

-- what is kept after a datagram
abbrev pub kept_after : Tables → Transfers → Datagram → Entries → Entries
kept_after tables transfers datagram entries =
    let v = view tables datagram.from.ip in
    kept_by v (way v transfers datagram) entries
