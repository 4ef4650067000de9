-- The least free address of a pool: the first of its runs, as long as these are right.
use Rattle.std.proofs.Common.{◌≡◌, ℕ, ◌+◌, ◌<◌, ◌≤◌, Bool, true, false, ◌&&◌, ◌||◌, nat_le, List, [], ◌∷◌, MatchOption, refl, sym, ap, subst, ◌∙◌, arith, nat_lt}
use Rattle.std.proofs.lemmas.Bool.Decides.{nat_tests}
use Rattle.off_defs.specs.declared.tables.Pool.{Pool}
use Rattle.off_runs.specs.declared.runs.Run.{Run}
use Rattle.off_runs.specs.Runs.{AreRuns, Apart, covers, in_run, in_pool, is_open, listed, address}
use Rattle.off_runs.specs.Held.{NoneOpen, IsLeastOpen, Laid}
use Rattle.off_runs.specs.Changes.{first_of}

above : (low : ℕ) (runs : List Run) (high b : ℕ) → Apart low runs high → covers runs b ≡ true → low ≤ b
above low [] high b apart c = cc
above low (run ∷ runs) high b apart c =
    elim (in_run b run) as (λ t. in_run b run ≡ t → (t || covers runs b) ≡ true → low ≤ b) [
      | true ↦ λ e f. let k : run.first.0 ≤ b = grind (arith, nat_tests) in let l = apart.0 in omega (arith, k, l)
      | false ↦ λ e f. let k = above (run.last.0 + 2) runs high b apart.2 f in let l = apart.0 in let m = apart.1 in omega (arith, k, l, m)
    ] refl c

at_first : (run : Run) (runs : List Run) → run.first.0 ≤ run.last.0 → covers (run ∷ runs) run.first.0 ≡ true
at_first run runs h = let e : in_run run.first.0 run ≡ true = grind (arith, nat_tests) in ap (λ b. b || covers runs run.first.0) e

-- between the moment at which runs were laid out and the soonest end, no lease ends
still_open : (inside : Bool) (e at now soonest : ℕ) → at ≤ now → now < soonest → (inside ≡ true → at < e → soonest ≤ e) → (inside && nat_le e at) ≡ (inside && nat_le e now)
still_open true e at now soonest later ahead none = grind (arith, nat_tests, none refl)
still_open false e at now soonest later ahead none = refl

first_least : (expiry : ℕ → ℕ) (at now : ℕ) (pool : Pool) (runs : List Run) → AreRuns pool (is_open expiry at pool) runs → ((a : ℕ) → is_open expiry at pool a ≡ is_open expiry now pool a)
    → MatchOption (first_of runs) (NoneOpen expiry now pool) (IsLeastOpen expiry now pool)
first_least expiry at now pool [] are still = λ b. sym (still b) ∙ sym (are.exact b)
first_least expiry at now pool (run ∷ runs) are still = record {
  free = sym (still run.first.0) ∙ sym (are.exact run.first.0) ∙ at_first run runs are.apart.1;
  least = λ b free. above run.first.0 (run ∷ runs) (pool.last.0 + 2) b (omega arith, are.apart.1, are.apart.2) (are.exact b ∙ (still b ∙ free));
}

pub laid_least : (pool : Pool) (expiries : List ℕ) (at now : ℕ) (runs : List Run) (soonest : ℕ) → Laid pool expiries at runs soonest → at ≤ now → now < soonest
    → MatchOption (first_of runs) (NoneOpen (listed pool.first.0 expiries) now pool) (IsLeastOpen (listed pool.first.0 expiries) now pool)
laid_least pool expiries at now runs soonest laid later ahead =
    first_least (listed pool.first.0 expiries) at now pool runs laid.runs_are (λ a. still_open (in_pool pool a) (listed pool.first.0 expiries a) at now soonest later ahead (laid.none_sooner a))

-- the addresses below a place have live leases
abbrev pub AllLive : (ℕ → ℕ) → ℕ → Pool → ℕ → Type 0
AllLive expiry now pool at = (b : ℕ) → b < at → is_open expiry now pool b ≡ false

pub none_below_first : (expiry : ℕ → ℕ) (now : ℕ) (pool : Pool) → AllLive expiry now pool pool.first.0
none_below_first expiry now pool b h = let out : in_pool pool b ≡ false = grind (arith, nat_tests) in ap (λ t. t && nat_le (expiry b) now) out

pub live_more : (expiry : ℕ → ℕ) (now : ℕ) (pool : Pool) (at : ℕ) → AllLive expiry now pool at → now < expiry at → AllLive expiry now pool (at + 1)
live_more expiry now pool at so_far live b h =
    elim (nat_le at b) as (λ t. nat_le at b ≡ t → is_open expiry now pool b ≡ false) [
      | true ↦ λ e.
          let same : at ≡ b = grind (arith, nat_tests) in
          let ahead : nat_le (expiry b) now ≡ false = (let k : now < expiry b = subst (λ i. now < expiry i) same live in grind (arith, nat_tests)) in
          ap (λ t. in_pool pool b && t) ahead ∙ aside (in_pool pool b)
      | false ↦ λ e. so_far b (grind (arith, nat_tests))
    ] refl
  where
    aside : (t : Bool) → (t && false) ≡ false
    aside true = refl
    aside false = refl

pub first_of_all : (expiry : ℕ → ℕ) (now : ℕ) (pool : Pool) (at : ℕ) → AllLive expiry now pool at → pool.first.0 ≤ at → at ≤ pool.last.0 → expiry at ≤ now → IsLeastOpen expiry now pool (address at)
first_of_all expiry now pool at live low high ended = record {
  free = grind (arith, nat_tests);
  least = λ b free. elim (nat_lt b at) as (λ t. nat_lt b at ≡ t → at ≤ b) [
    | true ↦ λ e. let none : is_open expiry now pool b ≡ false = live b (grind (arith, nat_tests)) in let f : true ≡ false = sym free ∙ none in cc
    | false ↦ λ e. grind (arith, nat_tests)
  ] refl;
}

pub none_at_all : (expiry : ℕ → ℕ) (now : ℕ) (pool : Pool) (at : ℕ) → AllLive expiry now pool at → pool.last.0 < at → NoneOpen expiry now pool
none_at_all expiry now pool at live past b = elim (nat_lt b at) as (λ t. nat_lt b at ≡ t → is_open expiry now pool b ≡ false) [
  | true ↦ λ e. live b (grind (arith, nat_tests))
  | false ↦ λ e. let out : in_pool pool b ≡ false = grind (arith, nat_tests) in ap (λ t. t && nat_le (expiry b) now) out
] refl
