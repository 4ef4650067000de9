-- How many calls the walks over pools, leases and hubs make.
use Rattle.std.proofs.Common.{◌≡◌, suc, ◌+◌, ◌≤◌, Bool, true, false, cond, List, [], ◌∷◌, length, filter, Some, ap, arith}
use Rattle.std.specs.List.{filter_map}
use Rattle.std.specs.FinMap as map
use Rattle.off_defs.specs.declared.keys.Key.{Key}
use Rattle.off_defs.specs.declared.tables.Row.{Row}
use Rattle.off_defs.specs.State.{Tables}
use Rattle.off_defs.specs.Tables.{is_after, next_entry}
use Rattle.off_outside.specs.KeeperSeen.{KeeperSeen}
use Rattle.off_outside.specs.KeeperCalls.{Reads, WasCounted, WalksOnce}
use Rattle.off_outside.proofs.KeeperLemmas.{spent_one, spent_then, spent_within}
use Rattle.off_readers.proofs.WalkLemmas.{left_of, left_next}
use Rattle.off_runs.specs.Reading.{Walks}

-- so many calls were made that with one for each row behind the place there are no more than rows
abbrev pub Walked : Key → KeeperSeen → KeeperSeen → Type 0
Walked place a b = (t : Tables) → a.tables t → (a.calls ≤ b.calls) × (b.calls + length (left_of Some (Some place) t) ≤ a.calls + map.len t)

no_more : (test : Key × Row → Bool) (es : List (Key × Row)) → length (filter_map Some (filter test es)) ≤ length es
no_more test [] = omega arith
no_more test (e ∷ es) =
    elim (test e) as (λ b. length (filter_map Some (cond b (e ∷ filter test es) (filter test es))) ≤ length (e ∷ es)) [
      | true ↦ let rest = no_more test es in omega (arith, rest)
      | false ↦ let rest = no_more test es in omega (arith, rest)
    ]

pub walk_begins : (place : Key) (a : KeeperSeen) → Walked place a a
walk_begins place a t told =
    (omega arith, let few = no_more (is_after (Some place)) (map.entries t) in omega (arith, few, map.len-entries t))

pub walk_goes_on : (place : Key) (entry : Key × Row) {P : Tables → Type 0} {a b c : KeeperSeen} → Walked place a b → Reads P a b → Reads (λ t. Some entry ≡ next_entry (Some place) t) b c
    → WasCounted b c → Walked entry.0 a c
walk_goes_on place entry so_far reads next counted t told =
    let before = so_far t told in
    let one = spent_one counted in
    let here = (next.tables t (reads.tables t told).0).1 in
    let left : length (left_of Some (Some place) t) ≡ suc (length (left_of Some (Some entry.0) t)) = ap (λ (v : List (Key × Row)). length v) (left_next Some (Some place) entry t here) in
    (omega (arith, before.0, one.later), omega (arith, before.1, one.most, left))

pub walk_ends : (place : Key) {a b c : KeeperSeen} → Walked place a b → WasCounted b c → WalksOnce a c
walk_ends place so_far counted t told =
    let before = so_far t told in
    let one = spent_one counted in
    record { later = omega (arith, before.0, one.later); most = omega (arith, before.1, one.most) }

pub walks_twice : {P : Tables → Type 0} {a b c : KeeperSeen} → WalksOnce a b → Reads P a b → WalksOnce b c → Walks 2 a c
walks_twice first reads second t told = spent_within (spent_then (first t told) (second t (reads.tables t told).0)) (omega arith)

pub walks_once : {a b : KeeperSeen} → WalksOnce a b → Walks 2 a b
walks_once first t told = spent_within (first t told) (omega arith)

pub walks_thrice : {P : Tables → Type 0} {a b c : KeeperSeen} → WalksOnce a b → Reads P a b → Walks 2 b c → Walks 3 a c
walks_thrice first reads second t told = spent_within (spent_then (first t told) (second t (reads.tables t told).0)) (omega arith)

pub walks_first : {a b : KeeperSeen} → WalksOnce a b → Walks 3 a b
walks_first first t told = spent_within (first t told) (omega arith)
