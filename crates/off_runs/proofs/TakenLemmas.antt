-- An address is taken out of the run that has it.
use Rattle.std.proofs.Common.{◌≡◌, ◌≢◌, ℕ, cond, min, ◌+◌, ◌-◌, ◌<◌, ◌≤◌, Bool, true, false, not, ◌&&◌, ◌||◌, ◌==◌, nat_le, nat_lt, List, [], ◌∷◌, ◌++◌, length, take, drop, suc, zero, Some, slice_get, get_or, refl, sym, ap, subst, ◌∙◌, arith}
use Rattle.std.proofs.lemmas.Bool.Decides.{nat_tests}
use Rattle.std.proofs.lemmas.List.Folds.{list_any-append}
use Rattle.std.proofs.lemmas.List.{take_all, set_split, get_or-set_same, get_or-set_other}
use Rattle.std.specs.List.{All, slice_set}
use Rattle.off_defs.specs.declared.tables.Pool.{Pool}
use Rattle.off_runs.specs.declared.runs.Run.{Run}
use Rattle.off_runs.specs.Runs.{address, in_run, covers, Apart, AreRuns, in_pool, is_open, listed}
use Rattle.off_runs.specs.Held.{Laid}
use Rattle.off_runs.specs.Changes.{but_address, with_expiry, ends_before, pieces_by, pieces_without, runs_without}

-- runs from a bound on have no address below it, and those that end before an address not that one
none_below : (low : ℕ) (runs : List Run) (high a : ℕ) → Apart low runs high → a < low → covers runs a ≡ false
none_below low [] high a h k = refl
none_below low (run ∷ runs) high a h k =
    let l = h.0 in let m = h.1 in
    let rest = none_below (run.last.0 + 2) runs high a h.2 (omega (arith, k, l, m)) in
    let first : in_run a run ≡ false = grind (arith, nat_tests) in
    ap (λ v. v || covers runs a) first ∙ rest

module _ (out : ℕ) (run : Run) (runs : List Run) (all : All (ends_before out) (run ∷ runs)) where
  first_ends : run.last.0 < out
  first_ends = all 0 run (omega arith)

  others_end : All (ends_before out) runs
  others_end k d within = all (suc k) d (omega (arith, within))

none_before : (out : ℕ) (runs : List Run) → All (ends_before out) runs → covers runs out ≡ false
none_before out [] all = refl
none_before out (run ∷ runs) all =
    let k = first_ends out run runs all in
    let first : in_run out run ≡ false = grind (arith, nat_tests) in
    ap (λ v. v || covers runs out) first ∙ none_before out runs (others_end out run runs all)

apart_lower : (low less : ℕ) (runs : List Run) (high : ℕ) → less ≤ low → Apart low runs high → Apart less runs high
apart_lower low less [] high k h = omega (arith, k, h)
apart_lower low less (run ∷ runs) high k h = let l = h.0 in (omega (arith, k, l), h.1, h.2)

-- one address, by whether a run behind has it
in_two : (r : Bool) (f l a out : ℕ) → f < out → out < l → (a ≡ out → r ≡ false)
    → ((nat_le f a && nat_le a (out - 1)) || ((nat_le (out + 1) a && nat_le a l) || r)) ≡ (not (a == out) && ((nat_le f a && nat_le a l) || r))
in_two true f l a out h k none = grind (arith, nat_tests)
in_two false f l a out h k none = grind (arith, nat_tests)

in_lower : (r : Bool) (f l a out : ℕ) → f < out → out ≡ l → (a ≡ out → r ≡ false)
    → ((nat_le f a && nat_le a (out - 1)) || r) ≡ (not (a == out) && ((nat_le f a && nat_le a l) || r))
in_lower true f l a out h k none = grind (arith, nat_tests)
in_lower false f l a out h k none = grind (arith, nat_tests)

in_upper : (r : Bool) (f l a out : ℕ) → f ≡ out → out < l → (a ≡ out → r ≡ false)
    → ((nat_le (out + 1) a && nat_le a l) || r) ≡ (not (a == out) && ((nat_le f a && nat_le a l) || r))
in_upper true f l a out h k none = grind (arith, nat_tests)
in_upper false f l a out h k none = grind (arith, nat_tests)

in_none : (r : Bool) (f l a out : ℕ) → f ≡ out → out ≡ l → (a ≡ out → r ≡ false)
    → r ≡ (not (a == out) && ((nat_le f a && nat_le a l) || r))
in_none true f l a out h k none = grind (arith, nat_tests)
in_none false f l a out h k none = grind (arith, nat_tests)

in_front : (r n s : Bool) (a out : ℕ) → (a ≡ out → r ≡ false) → s ≡ (not (a == out) && n) → (r || s) ≡ (not (a == out) && (r || n))
in_front true n s a out none is = grind (arith, nat_tests)
in_front false n s a out none is = is

-- the runs without the address, and those that they come of
abbrev CutOf : ℕ → ℕ → ℕ → List Run → List Run → Type 0
CutOf low high out old new = Apart low new high × ((a : ℕ) → covers new a ≡ but_address out (covers old) a)

left_by : (b c : Bool) (low high out : ℕ) (run : Run) (rest : List Run) → nat_lt run.first.0 out ≡ b → nat_lt out run.last.0 ≡ c
    → Apart low (run ∷ rest) high → run.first.0 ≤ out → out ≤ run.last.0 → CutOf low high out (run ∷ rest) (pieces_by b c out run ++ rest)
left_by true true low high out run rest eb ec h f l =
    let x = h.0 in let y = h.1 in
    let lower : run.first.0 < out = grind (arith, nat_tests) in let upper : out < run.last.0 = grind (arith, nat_tests) in
    let none : (a : ℕ) → a ≡ out → covers rest a ≡ false = λ a e. none_below (run.last.0 + 2) rest high a h.2 (omega (arith, e, l)) in
    ((x, omega (arith, lower), (omega (arith, lower), omega (arith, upper), h.2)), λ a. in_two (covers rest a) run.first.0 run.last.0 a out lower upper (none a))
left_by true false low high out run rest eb ec h f l =
    let x = h.0 in let y = h.1 in
    let lower : run.first.0 < out = grind (arith, nat_tests) in let same : out ≡ run.last.0 = grind (arith, nat_tests) in
    let none : (a : ℕ) → a ≡ out → covers rest a ≡ false = λ a e. none_below (run.last.0 + 2) rest high a h.2 (omega (arith, e, l)) in
    ((x, omega (arith, lower), apart_lower (run.last.0 + 2) (out - 1 + 2) rest high (omega (arith, same, lower)) h.2), λ a. in_lower (covers rest a) run.first.0 run.last.0 a out lower same (none a))
left_by false true low high out run rest eb ec h f l =
    let x = h.0 in let y = h.1 in
    let same : run.first.0 ≡ out = grind (arith, nat_tests) in let upper : out < run.last.0 = grind (arith, nat_tests) in
    let none : (a : ℕ) → a ≡ out → covers rest a ≡ false = λ a e. none_below (run.last.0 + 2) rest high a h.2 (omega (arith, e, l)) in
    ((omega (arith, x, f), omega (arith, upper), h.2), λ a. in_upper (covers rest a) run.first.0 run.last.0 a out same upper (none a))
left_by false false low high out run rest eb ec h f l =
    let x = h.0 in let y = h.1 in
    let same : run.first.0 ≡ out = grind (arith, nat_tests) in let last : out ≡ run.last.0 = grind (arith, nat_tests) in
    let none : (a : ℕ) → a ≡ out → covers rest a ≡ false = λ a e. none_below (run.last.0 + 2) rest high a h.2 (omega (arith, e, l)) in
    (apart_lower (run.last.0 + 2) low rest high (omega (arith, x, y)) h.2, λ a. in_none (covers rest a) run.first.0 run.last.0 a out same last (none a))

-- the same behind runs that end before the address
cut_behind : (low : ℕ) (front : List Run) (run : Run) (rest : List Run) (high out : ℕ) → Apart low (front ++ run ∷ rest) high → All (ends_before out) front
    → run.first.0 ≤ out → out ≤ run.last.0 → CutOf low high out (front ++ run ∷ rest) (front ++ (pieces_without out run ++ rest))
cut_behind low [] run rest high out h all f l = left_by (nat_lt run.first.0 out) (nat_lt out run.last.0) low high out run rest refl refl h f l
cut_behind low (one ∷ front) run rest high out h all f l =
    let ends = all in
    let more = cut_behind (one.last.0 + 2) front run rest high out h.2 (others_end out one front ends) f l in
    let k = first_ends out one front ends in
    let none : (a : ℕ) → a ≡ out → in_run a one ≡ false = λ a e. grind (arith, nat_tests) in
    ((h.0, h.1, more.0), λ a. in_front (in_run a one) (covers (front ++ run ∷ rest) a) (covers (front ++ (pieces_without out run ++ rest)) a) a out (none a) (more.1 a))

rest_none : (front : List Run) (low : ℕ) (run : Run) (rest : List Run) (high out : ℕ) → Apart low (front ++ run ∷ rest) high → out < run.first.0 → covers (run ∷ rest) out ≡ false
rest_none [] low run rest high out h k = none_below run.first.0 (run ∷ rest) high out (omega arith, h.1, h.2) k
rest_none (one ∷ front) low run rest high out h k = rest_none front (one.last.0 + 2) run rest high out h.2 k

-- what the code does to a list of runs
module _ (xs : List Run) (place : ℕ) (inside : place < length xs) where
  module _ (out : ℕ) (run : Run) where
    left_is : (b c : Bool) → nat_lt run.first.0 out ≡ b → nat_lt out run.last.0 ≡ c → pieces_without out run ≡ pieces_by b c out run
    left_is b c eb ec = ap (λ v. pieces_by v (nat_lt out run.last.0) out run) eb ∙ ap (λ v. pieces_by b v out run) ec

    cut_by : (b c : Bool) → nat_lt run.first.0 out ≡ b → nat_lt out run.last.0 ≡ c → take place xs ++ (pieces_by b c out run ++ drop (suc place) xs) ≡ runs_without out place run xs
    cut_by b c eb ec = ap (λ l. take place xs ++ (l ++ drop (suc place) xs)) (sym (left_is b c eb ec))

    pub cut_last : run.first.0 < out → run.last.0 ≤ out → slice_set xs place (record run { last = address (out - 1) }) ≡ runs_without out place run xs
    cut_last f l = set_split xs place (record run { last = address (out - 1) }) inside ∙ cut_by true false (grind (arith, nat_tests)) (grind (arith, nat_tests))

    pub cut_first : out ≤ run.first.0 → out < run.last.0 → slice_set xs place (record run { first = address (out + 1) }) ≡ runs_without out place run xs
    cut_first f l = set_split xs place (record run { first = address (out + 1) }) inside ∙ cut_by false true (grind (arith, nat_tests)) (grind (arith, nat_tests))

-- a list is what stands in front of a place, what stands there, and what stands behind it
parted_at : {X : Type 0} → (xs : List X) (place : ℕ) (x : X) → slice_get xs place ≡ Some x → xs ≡ take place xs ++ x ∷ drop (suc place) xs
parted_at [] place x is = cc
parted_at (y ∷ xs) zero x is = cc
parted_at (y ∷ xs) (suc place) x is = ap (λ l. y ∷ l) (parted_at xs place x is)

-- what is read at a place
pub stands_at : {X : Type 0} → (xs : List X) (place : ℕ) (x : X) → place < length xs → x ≡ get_or xs place x → slice_get xs place ≡ Some x
stands_at [] place x inside is = absurd (omega (arith, inside))
stands_at (y ∷ xs) zero x inside is = ap Some (sym is)
stands_at (y ∷ xs) (suc place) x inside is = stands_at xs place x (omega (arith, inside)) is

module _ (pool : Pool) (free : ℕ → Bool) where
  pub cut_runs : (runs : List Run) (place out : ℕ) (run : Run) → AreRuns pool free runs → All (ends_before out) (take place runs) → slice_get runs place ≡ Some run
      → run.first.0 ≤ out → out ≤ run.last.0 → AreRuns pool (but_address out free) (runs_without out place run runs)
  cut_runs runs place out run are all at f l =
      let is = parted_at runs place run at in
      let cut = cut_behind pool.first.0 (take place runs) run (drop (suc place) runs) (pool.last.0 + 2) out (subst (λ xs. Apart pool.first.0 xs (pool.last.0 + 2)) is are.apart) all f l in
      record {
        apart = cut.0;
        exact = λ a. cut.1 a ∙ ap (λ v. not (a == out) && v) (ap (λ xs. covers xs a) (sym is) ∙ are.exact a);
      }

  -- an address that no run has
  without : (b f : Bool) (a out : ℕ) → (a ≡ out → b ≡ false) → b ≡ f → b ≡ (not (a == out) && f)
  without true f a out none is = grind (arith, nat_tests)
  without false f a out none is = grind (arith, nat_tests)

  pub none_taken : (runs : List Run) (out : ℕ) → AreRuns pool free runs → covers runs out ≡ false → AreRuns pool (but_address out free) runs
  none_taken runs out are none = record {
    apart = are.apart;
    exact = λ a. without (covers runs a) (free a) a out (λ e. ap (covers runs) e ∙ none) (are.exact a);
  }

  pub all_before : (runs : List Run) (place out : ℕ) → AreRuns pool free runs → All (ends_before out) (take place runs) → place ≡ length runs → AreRuns pool (but_address out free) runs
  all_before runs place out are all at =
      none_taken runs out are (none_before out runs (subst (All (ends_before out)) (take_all place runs (omega (arith, at))) all))

  pub behind_all : (runs : List Run) (place out : ℕ) (run : Run) → AreRuns pool free runs → All (ends_before out) (take place runs) → slice_get runs place ≡ Some run
      → out < run.first.0 → AreRuns pool (but_address out free) runs
  behind_all runs place out run are all at h =
      let is = parted_at runs place run at in
      none_taken runs out are (ap (λ xs. covers xs out) is
      ∙ (list_any-append (in_run out) (take place runs) (run ∷ drop (suc place) runs)
      ∙ (ap (λ v. v || covers (run ∷ drop (suc place) runs) out) (none_before out (take place runs) all)
      ∙ rest_none (take place runs) pool.first.0 run (drop (suc place) runs) (pool.last.0 + 2) out (subst (λ xs. Apart pool.first.0 xs (pool.last.0 + 2)) is are.apart) h)))

-- the free addresses where the lease of one ends at another time
shut : (inside same : Bool) (held expiry at : ℕ) → at < expiry → (not same && (inside && nat_le held at)) ≡ (inside && nat_le (cond same expiry held) at)
shut true true held expiry at h = grind (arith, nat_tests)
shut false true held expiry at h = refl
shut inside false held expiry at h = refl

equal : (a b : ℕ) → (a == b) ≡ true → a ≡ b
equal a b e = grind (arith, nat_tests)

module _ (pool : Pool) (held : ℕ → ℕ) (out before expiry at : ℕ) (was : held out ≡ before) (runs : List Run) where
  pub now_shut : AreRuns pool (but_address out (is_open held at pool)) runs → at < expiry → AreRuns pool (is_open (with_expiry out expiry held) at pool) runs
  now_shut are ahead = record {
    apart = are.apart;
    exact = λ a. are.exact a ∙ shut (in_pool pool a) (a == out) (held a) expiry at ahead;
  }

-- the same of what is kept, as a list of expiries from the first address on
put_listed : (first : ℕ) (expiries : List ℕ) (out expiry a : ℕ) → first ≤ out → first ≤ a → out - first < length expiries
    → listed first (slice_set expiries (out - first) expiry) a ≡ with_expiry out expiry (listed first expiries) a
put_listed first expiries out expiry a low here inside =
    elim (a == out) as (λ t. (a == out) ≡ t → listed first (slice_set expiries (out - first) expiry) a ≡ cond t expiry (listed first expiries a)) [
      | true ↦ λ e. let same : a ≡ out = equal a out e in ap (λ k. get_or (slice_set expiries (out - first) expiry) (k - first) 0) same ∙ get_or-set_same expiries (out - first) expiry 0 inside
      | false ↦ λ e. let apart : a - first ≢ out - first = grind (arith, nat_tests) in get_or-set_other expiries (out - first) (a - first) expiry 0 apart
    ] refl

module _ (pool : Pool) (expiries : List ℕ) (out expiry at : ℕ) (low : pool.first.0 ≤ out) (within : out - pool.first.0 < length expiries) where
  abbrev after : List ℕ
  after = slice_set expiries (out - pool.first.0) expiry

  open_after : (inside : Bool) (a : ℕ) → in_pool pool a ≡ inside
      → (inside && nat_le (with_expiry out expiry (listed pool.first.0 expiries) a) at) ≡ (inside && nat_le (listed pool.first.0 after a) at)
  open_after true a e = let here : pool.first.0 ≤ a = grind (arith, nat_tests) in ap (λ v. nat_le v at) (sym (put_listed pool.first.0 expiries out expiry a low here within))
  open_after false a e = refl

  pub laid_after : (runs new : List Run) (soonest : ℕ) → Laid pool expiries at runs soonest
      → (AreRuns pool (is_open (listed pool.first.0 expiries) at pool) runs → AreRuns pool (is_open (with_expiry out expiry (listed pool.first.0 expiries)) at pool) new)
      → Laid pool after at new (min soonest expiry)
  laid_after runs new soonest laid follows =
      let are = follows laid.runs_are in
      record {
        runs_are = record { apart = are.apart; exact = λ a. are.exact a ∙ open_after (in_pool pool a) a refl };
        none_sooner = λ a inside ahead.
            let here : pool.first.0 ≤ a = grind (arith, nat_tests) in
            let is = put_listed pool.first.0 expiries out expiry a low here within in
            rw is (sooner (a == out) a (rw (sym is) ahead) inside);
      }
    where
      sooner : (same : Bool) (a : ℕ) → at < cond same expiry (listed pool.first.0 expiries a) → in_pool pool a ≡ true → min soonest expiry ≤ cond same expiry (listed pool.first.0 expiries a)
      sooner true a ahead inside = omega arith
      sooner false a ahead inside = let k = laid.none_sooner a inside ahead in omega (arith, k)
