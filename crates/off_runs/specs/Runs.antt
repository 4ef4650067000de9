-- Runs of free addresses: a set of addresses as a list of runs, each a first and a last address.
use Rattle.std.specs.Prelude.{◌≡◌, ℕ, ◌+◌, ◌-◌, ◌≤◌, Bool, ◌&&◌, nat_le, nat_lt, List, [], ◌∷◌, ◌++◌, get_or, if◌then◌else◌}
use Rattle.std.specs.List.{list_any}
use Rattle.off_base.specs.declared.addresses.Ip4.{Ip4}
use Rattle.off_defs.specs.declared.tables.Pool.{Pool}
use Rattle.off_runs.specs.declared.runs.Run.{Run}

abbrev pub in_run : ℕ → Run → Bool
in_run a run = nat_le run.first.0 a && nat_le a run.last.0

abbrev pub covers : List Run → ℕ → Bool
covers runs a = list_any (in_run a) runs

-- runs ascend between two bounds, are disjoint and don't touch
abbrev pub Apart : ℕ → List Run → ℕ → Type 0
Apart low [] high = low ≤ high
Apart low (run ∷ runs) high =
    (low ≤ run.first.0) × (run.first.0 ≤ run.last.0) × Apart (run.last.0 + 2) runs high

-- they are the runs of those addresses of a pool that pass the test
pub record AreRuns (pool : Pool) (free : ℕ → Bool) (runs : List Run) : Type 0 where
  pub apart : Apart pool.first.0 runs (pool.last.0 + 2)
  pub exact : (a : ℕ) → covers runs a ≡ free a

-- the addresses of a pool; an address is free at a moment where its lease has ended, and one
-- without a lease has expiry 0
abbrev pub in_pool : Pool → ℕ → Bool
in_pool pool a = nat_le pool.first.0 a && nat_le a pool.last.0

abbrev pub is_open : (ℕ → ℕ) → ℕ → Pool → ℕ → Bool
is_open expiry now pool a = in_pool pool a && nat_le (expiry a) now

-- the expiry of an address in a list that begins at the first one
abbrev pub listed : ℕ → List ℕ → ℕ → ℕ
listed first expiries a = get_or expiries (a - first) 0

-- the run from a start up to an end, where it has an address
abbrev pub address : ℕ → Ip4
address a = record { 0 = a }

abbrev pub run_of : ℕ → ℕ → Run
run_of start end = record { first = address start; last = address (end - 1) }

abbrev pub with_run : List Run → ℕ → ℕ → List Run
with_run runs start end = if nat_lt start end then runs ++ run_of start end ∷ [] else runs
