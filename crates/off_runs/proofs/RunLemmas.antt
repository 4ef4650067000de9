-- Runs are laid out address by address: those that have ended, and one that is begun.
use Rattle.std.proofs.Common.{◌≡◌, ℕ, ◌+◌, ◌-◌, ◌*◌, ◌<◌, ◌≤◌, Bool, true, false, cond, ◌&&◌, ◌||◌, nat_le, nat_lt, List, [], ◌∷◌, ◌++◌, length, refl, ap, ◌∙◌, arith, length-append}
use Rattle.std.proofs.lemmas.Bool.Decides.{nat_tests}
use Rattle.std.proofs.lemmas.List.Folds.{list_any-append}
use Rattle.off_defs.specs.declared.tables.Pool.{Pool}
use Rattle.off_runs.specs.declared.runs.Run.{Run}
use Rattle.off_runs.specs.Runs.{in_run, covers, Apart, AreRuns, in_pool, is_open, run_of, with_run}

-- all addresses below the start are laid out, and those from it up to the place are free
pub record Begun (expiry : ℕ → ℕ) (now : ℕ) (pool : Pool) (runs : List Run) (start at : ℕ) : Type 0 where
  pub order : start ≤ at
  pub apart : Apart pool.first.0 runs start
  pub exact : (a : ℕ) → covers runs a ≡ (is_open expiry now pool a && nat_lt a start)
  pub rest : (a : ℕ) → start ≤ a → a < at → is_open expiry now pool a ≡ true
  pub few : 2 * length runs + pool.first.0 ≤ start

apart_grown : (low : ℕ) (runs : List Run) (high more : ℕ) → high ≤ more → Apart low runs high → Apart low runs more
apart_grown low [] high more h a = omega arith
apart_grown low (run ∷ runs) high more h a = (a.0, a.1, apart_grown (run.last.0 + 2) runs high more h a.2)

apart_more : (low : ℕ) (runs : List Run) (high : ℕ) (run : Run) → Apart low runs high → high ≤ run.first.0 → run.first.0 ≤ run.last.0 → Apart low (runs ++ run ∷ []) (run.last.0 + 2)
apart_more low [] high run a h k = (omega arith, k, omega arith)
apart_more low (one ∷ runs) high run a h k = (a.0, a.1, apart_more (one.last.0 + 2) runs high run a.2 h k)

or_none : (a b : Bool) → (a || (b || false)) ≡ (a || b)
or_none true b = refl
or_none false true = refl
or_none false false = refl

covers_more : (runs : List Run) (run : Run) (a : ℕ) → covers (runs ++ run ∷ []) a ≡ (covers runs a || in_run a run)
covers_more runs run a = list_any-append (in_run a) runs (run ∷ []) ∙ or_none (covers runs a) (in_run a run)

-- one address, by whether it's free
ended_at : (free : Bool) (a start at : ℕ) → start < at → (start ≤ a → a < at → free ≡ true) → (a ≡ at → free ≡ false)
    → ((free && nat_lt a start) || (nat_le start a && nat_le a (at - 1))) ≡ (free && nat_lt a (at + 1))
ended_at true a start at h rest closed = grind (arith, nat_tests)
ended_at false a start at h rest closed = grind (arith, nat_tests)

skipped_at : (free : Bool) (a at : ℕ) → (a ≡ at → free ≡ false) → (free && nat_lt a at) ≡ (free && nat_lt a (at + 1))
skipped_at true a at closed = grind (arith, nat_tests)
skipped_at false a at closed = refl

module _ (expiry : ℕ → ℕ) (now : ℕ) (pool : Pool) where
  closed_at : (at a : ℕ) → is_open expiry now pool at ≡ false → a ≡ at → is_open expiry now pool a ≡ false
  closed_at at a closed same = ap (is_open expiry now pool) same ∙ closed

  -- nothing is laid out yet
  pub nothing_begun : Begun expiry now pool [] pool.first.0 pool.first.0
  nothing_begun = record {
    order = omega arith;
    apart = omega arith;
    exact = λ a. grind (arith, nat_tests);
    rest = λ a h k. absurd (omega (arith, h, k));
    few = omega arith;
  }

  -- at an address that isn't free the run ends
  pub begun_end : (runs : List Run) (start at : ℕ) → Begun expiry now pool runs start at → is_open expiry now pool at ≡ false → Begun expiry now pool (with_run runs start at) (at + 1) (at + 1)
  begun_end runs start at b closed =
      elim (nat_lt start at) as (λ t. nat_lt start at ≡ t → Begun expiry now pool (cond t (runs ++ run_of start at ∷ []) runs) (at + 1) (at + 1)) [
        | true ↦ λ t. let lower : start < at = grind (arith, nat_tests) in record {
          order = omega arith;
          apart = apart_grown pool.first.0 (runs ++ run_of start at ∷ []) (at - 1 + 2) (at + 1) (omega arith)
              (apart_more pool.first.0 runs start (run_of start at) b.apart (omega arith) (omega arith));
          exact = λ a. covers_more runs (run_of start at) a ∙ ap (λ v. v || in_run a (run_of start at)) (b.exact a)
              ∙ ended_at (is_open expiry now pool a) a start at lower (b.rest a) (closed_at at a closed);
          rest = λ a h k. absurd (omega (arith, h, k));
          few = let n : length (runs ++ run_of start at ∷ []) ≡ length runs + 1 = length-append runs (run_of start at ∷ []) in let few = b.few in omega arith;
        }
        | false ↦ λ t. let same : start ≡ at = let o = b.order in grind (arith, nat_tests) in record {
          order = omega arith;
          apart = apart_grown pool.first.0 runs start (at + 1) (omega arith) b.apart;
          exact = λ a. b.exact a ∙ ap (λ s. is_open expiry now pool a && nat_lt a s) same ∙ skipped_at (is_open expiry now pool a) a at (closed_at at a closed);
          rest = λ a h k. absurd (omega (arith, h, k));
          few = let few = b.few in omega arith;
        }
      ] refl

  -- at one that's free it goes on
  pub begun_on : (runs : List Run) (start at : ℕ) → Begun expiry now pool runs start at → is_open expiry now pool at ≡ true → Begun expiry now pool runs start (at + 1)
  begun_on runs start at b free = record {
    order = let o = b.order in omega arith;
    apart = b.apart;
    exact = b.exact;
    rest = λ a h k.
        elim (nat_lt a at) as (λ t. nat_lt a at ≡ t → is_open expiry now pool a ≡ true) [
          | true ↦ λ t. b.rest a h (grind (arith, nat_tests))
          | false ↦ λ t. let same : a ≡ at = grind (arith, nat_tests) in ap (is_open expiry now pool) same ∙ free
        ] refl;
    few = b.few;
  }

  -- behind the last address all are laid out
  past_last : (a : ℕ) → a ≡ pool.last.0 + 1 → is_open expiry now pool a ≡ false
  past_last a e = grind (arith, nat_tests)

  below_end : (a : ℕ) → (is_open expiry now pool a && nat_lt a (pool.last.0 + 1 + 1)) ≡ is_open expiry now pool a
  below_end a = grind (arith, nat_tests)

  pub begun_all : (runs : List Run) (start at end : ℕ) → at ≡ end → end ≡ pool.last.0 + 1 → Begun expiry now pool runs start at → AreRuns pool (is_open expiry now pool) (with_run runs start end)
  begun_all runs start at end same is before =
      let b : Begun expiry now pool runs start end = rw (← same) before in
      let all = begun_end runs start end b (past_last end is) in record {
        apart = apart_grown pool.first.0 (with_run runs start end) (end + 1) (pool.last.0 + 2) (omega arith) all.apart;
        exact = λ a. all.exact a ∙ ap (λ e. is_open expiry now pool a && nat_lt a (e + 1)) is ∙ below_end a;
      }

  -- the same for the code's own values
  pub begun_ended : (runs new : List Run) (start next at : ℕ) → Begun expiry now pool runs start at → now < expiry at → new ≡ with_run runs start at → next ≡ at + 1
      → Begun expiry now pool new next (at + 1)
  begun_ended runs new start next at b live is_new is_next =
      let closed : is_open expiry now pool at ≡ false = grind (arith, nat_tests) in
      rw (is_new, is_next) (begun_end runs start at b closed)

  pub begun_kept : (runs new : List Run) (start next at : ℕ) → Begun expiry now pool runs start at → expiry at ≤ now → pool.first.0 ≤ at → at ≤ pool.last.0 → new ≡ runs → next ≡ start
      → Begun expiry now pool new next (at + 1)
  begun_kept runs new start next at b ended low high is_new is_next =
      let free : is_open expiry now pool at ≡ true = grind (arith, nat_tests) in
      rw (is_new, is_next) (begun_on runs start at b free)

  -- the soonest expiry ahead, of the addresses so far
  abbrev pub IsSoonest : ℕ → ℕ → Type 0
  IsSoonest soonest at = (a : ℕ) → in_pool pool a ≡ true → a < at → now < expiry a → soonest ≤ expiry a

  pub soonest_more : (soonest next at : ℕ) → IsSoonest soonest at → next ≤ soonest → (now < expiry at → next ≤ expiry at) → IsSoonest next (at + 1)
  soonest_more soonest next at old lower here a inside below ahead =
      elim (nat_lt a at) as (λ t. nat_lt a at ≡ t → next ≤ expiry a) [
        | true ↦ λ t. let k : a < at = grind (arith, nat_tests) in let o = old a inside k ahead in omega arith
        | false ↦ λ t. let same : at ≡ a = grind (arith, nat_tests) in let k : now < expiry at = rw same ahead in let h = here k in rw (← same) h
      ] refl
