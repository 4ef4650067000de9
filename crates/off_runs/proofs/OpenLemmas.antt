-- An address of a pool that is asked for is open by its one expiry, whichever of the pools has it.
use Rattle.std.proofs.Common.{◌≡◌, ℕ, Bool, true, false, cond, ◌&&◌, ◌||◌, nat_le, List, [], ◌∷◌, Some, option_map, refl, ap, ◌∙◌, arith}
use Rattle.std.proofs.lemmas.Bool.Decides.{nat_tests}
use Rattle.std.specs.List.{find, list_any}
use Rattle.off_defs.specs.declared.tables.Pool.{Pool}
use Rattle.off_runs.specs.Runs.{in_pool, is_open}

-- an address of a pool that is there is free by the one expiry that it has, whichever pool is asked
none_open : (expiry : ℕ → ℕ) (now a : ℕ) (es : List (ℕ × Pool)) → nat_le (expiry a) now ≡ false → list_any (λ e. is_open expiry now e.1 a) es ≡ false
none_open expiry now a [] live = refl
none_open expiry now a (e ∷ es) live = ap (λ b. (in_pool e.1 a && b) || list_any (λ e. is_open expiry now e.1 a) es) live ∙ aside (in_pool e.1 a) (list_any (λ e. is_open expiry now e.1 a) es) (none_open expiry now a es live)
  where
    aside : (b c : Bool) → c ≡ false → ((b && false) || c) ≡ false
    aside true c e = e
    aside false c e = e

open_there : (expiry : ℕ → ℕ) (now a : ℕ) (test : ℕ × Pool → Bool) (es : List (ℕ × Pool)) (pool : Pool) → option_map (λ (e : ℕ × Pool). e.1) (find test es) ≡ Some pool
    → in_pool pool a ≡ true → nat_le (expiry a) now ≡ true → list_any (λ e. is_open expiry now e.1 a) es ≡ true
open_there expiry now a test [] pool found inside ended = cc
open_there expiry now a test (e ∷ es) pool found inside ended =
    elim (test e) as (λ b. option_map (λ (e : ℕ × Pool). e.1) (cond b (Some e) (find test es)) ≡ Some pool → list_any (λ e. is_open expiry now e.1 a) (e ∷ es) ≡ true) [
      | true ↦ λ is. let same : e.1 ≡ pool = cc in let here : is_open expiry now e.1 a ≡ true = grind (arith, nat_tests) in ap (λ b. b || list_any (λ e. is_open expiry now e.1 a) es) here
      | false ↦ λ is. later (is_open expiry now e.1 a) (open_there expiry now a test es pool is inside ended)
    ] found
  where
    later : (b : Bool) {c : Bool} → c ≡ true → (b || c) ≡ true
    later true e = refl
    later false e = e

pub free_there : (expiry : ℕ → ℕ) (now a : ℕ) (test : ℕ × Pool → Bool) (es : List (ℕ × Pool)) (pool : Pool) → option_map (λ (e : ℕ × Pool). e.1) (find test es) ≡ Some pool
    → (in_pool pool a && list_any (λ e. is_open expiry now e.1 a) es) ≡ is_open expiry now pool a
free_there expiry now a test es pool found =
    elim (in_pool pool a) as (λ b. in_pool pool a ≡ b → (b && list_any (λ e. is_open expiry now e.1 a) es) ≡ (b && nat_le (expiry a) now)) [
      | true ↦ λ inside.
          elim (nat_le (expiry a) now) as (λ b. nat_le (expiry a) now ≡ b → list_any (λ e. is_open expiry now e.1 a) es ≡ b) [
            | true ↦ λ ended. open_there expiry now a test es pool found inside ended
            | false ↦ λ live. none_open expiry now a es live
          ] refl
      | false ↦ λ outside. refl
    ] refl
