-- How many calls tests in their order make.
use Rattle.std.proofs.Common.{◌≡◌, ◌+◌, ◌≤◌, List, ◌∷◌, ap, arith}
use Rattle.off_defs.specs.State.{Tables}
use Rattle.off_outside.specs.KeeperSeen.{KeeperSeen}
use Rattle.off_outside.specs.KeeperCalls.{Reads, Spent}
use Rattle.off_accounts.specs.declared.testing.Test.{Test}
use Rattle.off_accounts.specs.Walking.{test_calls, tests_calls}

abbrev pub Asked : List Test → List Test → KeeperSeen → KeeperSeen → Type 0
Asked all left a b = (t : Tables) → a.tables t → (a.calls ≤ b.calls) × (b.calls + tests_calls t left ≤ a.calls + tests_calls t all)

pub none_asked : (all : List Test) (a : KeeperSeen) → Asked all all a a
none_asked all a t told = (omega arith, omega arith)

pub one_asked : (all left rest : List Test) (test : Test) {P : Tables → Type 0} {a b c : KeeperSeen} → left ≡ test ∷ rest → Asked all left a b → Reads P a b
    → ((t : Tables) → b.tables t → Spent (test_calls t test) b c) → Asked all rest a c
one_asked all left rest test is so_far reads one t told =
    let before = so_far t told in
    let more = one t (reads.tables t told).0 in
    let size : tests_calls t left ≡ test_calls t test + tests_calls t rest = ap (tests_calls t) is in
    (omega (arith, before.0, more.later), omega (arith, before.1, more.most, size))

pub all_asked : (all left : List Test) {a b : KeeperSeen} → Asked all left a b → (t : Tables) → a.tables t → Spent (tests_calls t all) a b
all_asked all left so_far t told = let all_so = so_far t told in record { later = all_so.0; most = omega (arith, all_so.1) }
