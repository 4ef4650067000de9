-- How many calls the walks over pools and over leases make.
use Rattle.std.proofs.Common.{◌≡◌, ℕ, ◌+◌, ◌≤◌, Bool, true, false, cond, Option, Some, List, [], ◌∷◌, sym, ap, subst, ◌∙◌, arith}
use Rattle.std.specs.List.{filter}
use Rattle.std.specs.Ordering.{is_lt}
use Rattle.std.specs.FinMap as map
use Rattle.std.proofs.lemmas.List.Sums.{sum_by-cons}
use Rattle.off_defs.specs.declared.keys.Key.{Key}
use Rattle.off_defs.specs.declared.tables.Row.{Row}
use Rattle.off_defs.specs.declared.tables.Pool.{Pool}
use Rattle.off_defs.specs.Keys.{key_cmp}
use Rattle.off_defs.specs.State.{Tables}
use Rattle.off_defs.specs.Tables.{is_after, behind, next_entry}
use Rattle.off_defs.proofs.KeyLemmas.{key_total}
use Rattle.off_defs.proofs.EntryLemmas.{is_less}
use Rattle.off_defs.proofs.TableLemmas.{next_of}
use Rattle.off_outside.specs.KeeperSeen.{KeeperSeen}
use Rattle.off_outside.specs.KeeperCalls.{Reads, Spent, WasCounted}
use Rattle.off_outside.proofs.KeeperLemmas.{spent_one}
use Rattle.off_accounts.specs.declared.whose.Whose.{Whose}
use Rattle.off_accounts.specs.declared.searching.Sought.{Sought}
use Rattle.off_accounts.specs.declared.searching.Sought.TheVariants.{Overlapping, WithRelay, LiveLost}
use Rattle.off_accounts.specs.Walking.{is_lease_in, count_keys, rows_at, lease_calls, WalksOver, looks_at, is_reached, is_passed, AllBehind}
use Rattle.off_accounts.proofs.LostLemmas.{pool_looked, lease_looked}

-- ---- one walk

abbrev pub left_at : (Key → Bool) → Key → Tables → ℕ
left_at looks place t = count_keys looks (behind (Some place) (map.entries t))

-- so many calls were made that with one for each row that is left there are no more than rows
abbrev pub Walked : (Key → Bool) → Key → KeeperSeen → KeeperSeen → Type 0
Walked looks place a b = (t : Tables) → a.tables t → (a.calls ≤ b.calls) × (b.calls + left_at looks place t ≤ a.calls + rows_at looks t)

counted_at : (looks : Key → Bool) (e : Key × Row) (es : List (Key × Row)) → count_keys looks (e ∷ es) ≡ cond (looks e.0) 1 0 + count_keys looks es
counted_at looks e es = sum_by-cons (λ (y : Key × Row). cond (looks y.0) 1 0) e es

few : (looks : Key → Bool) (keep : Key × Row → Bool) (es : List (Key × Row)) → count_keys looks (filter keep es) ≤ count_keys looks es
few looks keep [] = omega arith
few looks keep (e ∷ es) =
    elim (keep e) as (λ b. count_keys looks (cond b (e ∷ filter keep es) (filter keep es)) ≤ count_keys looks (e ∷ es)) [
      | true ↦ let rest = few looks keep es in omega (arith, rest, counted_at looks e es, counted_at looks e (filter keep es))
      | false ↦ let rest = few looks keep es in omega (arith, rest, counted_at looks e es)
    ]

pub few_left : (looks : Key → Bool) (place : Key) (t : Tables) → left_at looks place t ≤ rows_at looks t
few_left looks place t = few looks (is_after (Some place)) (map.entries t)

pub walk_begins : (looks : Key → Bool) (place : Key) (a : KeeperSeen) → Walked looks place a a
walk_begins looks place a t told = (omega arith, let less = few_left looks place t in omega (arith, less))

pub one_left : (looks : Key → Bool) (place : Key) (entry : Key × Row) (t : Tables) → looks entry.0 ≡ true → Some entry ≡ next_entry (Some place) t
    → left_at looks place t ≡ 1 + left_at looks entry.0 t
one_left looks place entry t is next =
    ap (λ (v : List (Key × Row)). count_keys looks v) (next_of (Some place) entry t (sym next))
    ∙ counted_at looks entry (behind (Some entry.0) (map.entries t))
    ∙ ap (λ b. cond b 1 0 + left_at looks entry.0 t) is

pub walk_goes_on : (looks : Key → Bool) (place : Key) (entry : Key × Row) {P : Tables → Type 0} {a b c : KeeperSeen} → looks entry.0 ≡ true → Walked looks place a b → Reads P a b
    → Reads (λ t. Some entry ≡ next_entry (Some place) t) b c → WasCounted b c → Walked looks entry.0 a c
walk_goes_on looks place entry is so_far reads next counted t told =
    let before = so_far t told in
    let one = spent_one counted in
    let here = (next.tables t (reads.tables t told).0).1 in
    let left = one_left looks place entry t is here in
    (omega (arith, before.0, one.later), omega (arith, before.1, one.most, left))

pub walk_ends : (looks : Key → Bool) (place : Key) {a b c : KeeperSeen} → Walked looks place a b → WasCounted b c → WalksOver looks a c
walk_ends looks place so_far counted t told =
    let before = so_far t told in
    let one = spent_one counted in
    record { later = omega (arith, before.0, one.later); most = omega (arith, before.1, one.most) }

-- ---- which keys it looks at

-- what comes behind a place comes behind the places before it
pub begins_on : (reached : Key → Bool) (place : Key) (entry : Key × Row) → AllBehind reached place → is_after (Some place) entry ≡ true → AllBehind reached entry.0
begins_on reached place entry begins after other row ranged behind =
    begins other row ranged (ap is_lt (key_total.trans place entry.0 other (is_less (key_cmp place entry.0) after) (is_less (key_cmp entry.0 other) behind)))

pub sought_looked : (sought : Sought) (other : Key) → is_reached sought other ≡ true → is_passed sought other ≡ false → looks_at sought other ≡ true
sought_looked (Overlapping whose own pool) other e f = pool_looked whose other e f
sought_looked (WithRelay whose n pool) other e f = pool_looked whose other e f
sought_looked (LiveLost now lost) other e f = lease_looked lost other e f

-- no call at all
pub unspent : (n : ℕ) (a : KeeperSeen) → Spent n a a
unspent n a = record { later = omega arith; most = omega arith }

-- a walk over the leases of the pool that was there
pub some_walks : (whose : Whose) (old : Option Pool) (pool : Pool) {a b : KeeperSeen} → old ≡ Some pool → WalksOver (is_lease_in whose pool) a b → (t : Tables) → a.tables t → Spent (lease_calls whose old t) a b
some_walks whose old pool {a} {b} is walks t told = subst (λ (o : Option Pool). Spent (lease_calls whose o t) a b) (sym is) (walks t told)

pub ruleset drop_rules = (unspent, some_walks)
