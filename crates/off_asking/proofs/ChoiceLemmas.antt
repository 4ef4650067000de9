-- The least address of a pool that passes a test is the first that does, in the order of addresses.
use Rattle.std.proofs.Common.{◌≡◌, ℕ, zero, suc, ◌+◌, ◌-◌, ◌<◌, ◌≤◌, Bool, true, false, cond, map, Option, Some, None, MatchOption, refl, sym, ap, ◌∙◌, arith}
use Rattle.std.proofs.lemmas.Bool.{false_from_ne_true}
use Rattle.std.proofs.lemmas.Bool.Decides.{nat_tests}
use Rattle.std.specs.List.{find, range_with_len}
use Rattle.off_base.specs.declared.addresses.Ip4.{Ip4}
use Rattle.off_defs.specs.declared.tables.Pool.{Pool}
use Rattle.off_account_rules.specs.Rows.{has_address}
use Rattle.off_asking.specs.Asking.{ip}
use Rattle.off_asking.specs.Choice.{least_of}

-- the first that passes of the addresses from a number up to another
abbrev first_from : (Ip4 → Bool) → ℕ → ℕ → Option Ip4
first_from test number end = find test (map ip (range_with_len number (end - number)))

first_of_more : (test : Ip4 → Bool) (number count : ℕ) → find test (map ip (range_with_len number (count + 1)))
    ≡ cond (test (ip number)) (Some (ip number)) (find test (map ip (range_with_len (number + 1) count)))
first_of_more test number count =
    let e : count + 1 ≡ suc count = omega arith in
    rw e refl

split_first : (test : Ip4 → Bool) (number end : ℕ) → number < end → first_from test number end ≡ cond (test (ip number)) (Some (ip number)) (first_from test (number + 1) end)
split_first test number end within =
    let e : end - number ≡ (end - (number + 1)) + 1 = omega arith in
    ap (λ (n : ℕ). find test (map ip (range_with_len number n))) e ∙ first_of_more test number (end - (number + 1))

from_next : (test : Ip4 → Bool) (number end : ℕ) → number < end → test (ip number) ≡ false → first_from test number end ≡ first_from test (number + 1) end
from_next test number end within fails = split_first test number end within ∙ ap (λ b. cond b (Some (ip number)) (first_from test (number + 1) end)) fails

from_here : (test : Ip4 → Bool) (number end : ℕ) → number < end → test (ip number) ≡ true → first_from test number end ≡ Some (ip number)
from_here test number end within holds = split_first test number end within ∙ ap (λ b. cond b (Some (ip number)) (first_from test (number + 1) end)) holds

-- where all fail, none is found
none_from : (test : Ip4 → Bool) → ((b : ℕ) → test (ip b) ≡ false) → (number count : ℕ) → find test (map ip (range_with_len number count)) ≡ None
none_from test fails number zero = refl
none_from test fails number (suc count) =
    ap (λ b. cond b (Some (ip number)) (find test (map ip (range_with_len (number + 1) count)))) (fails number) ∙ none_from test fails (number + 1) count

-- the first that passes, so many places ahead
found_ahead : (test : Ip4 → Bool) (end a : ℕ) → a < end → test (ip a) ≡ true → ((b : ℕ) → b < a → test (ip b) ≡ false) → (steps number : ℕ) → number + steps ≡ a
    → first_from test number end ≡ Some (ip a)
found_ahead test end a within holds below zero number is =
    let here : number ≡ a = omega (arith, is) in
    from_here test number end (omega (arith, within, here)) (ap (λ n. test (ip n)) here ∙ holds) ∙ ap (λ n. Some (ip n)) here
found_ahead test end a within holds below (suc steps) number is =
    from_next test number end (omega (arith, within, is)) (below number (omega (arith, is))) ∙ found_ahead test end a within holds below steps (number + 1) (omega (arith, is))

in_bounds : (pool : Pool) (a : Ip4) → has_address pool a ≡ true → (pool.first.0 ≤ a.0) × (a.0 ≤ pool.last.0)
in_bounds pool a is = (grind (arith, nat_tests), grind (arith, nat_tests))

-- an address of the pool that passes, and none below it does
pub record Least (test : Ip4 → Bool) (pool : Pool) (a : Ip4) : Type 0 where
  pub passes : test a ≡ true
  pub within : has_address pool a ≡ true
  pub least : (b : ℕ) → test (ip b) ≡ true → a.0 ≤ b

pub least_is : (test : Ip4 → Bool) (pool : Pool) (least : Option Ip4) → MatchOption least ((b : ℕ) → test (ip b) ≡ false) (Least test pool) → least ≡ least_of test pool
unfolding least_of
least_is test pool None none = sym (none_from test none pool.first.0 (pool.last.0 + 1 - pool.first.0))
least_is test pool (Some a) least =
    let bounds = in_bounds pool a least.within in
    sym (found_ahead test (pool.last.0 + 1) a.0 (omega (arith, bounds.1)) least.passes
    (λ b below. false_from_ne_true (test (ip b)) (λ passes. let k = least.least b passes in omega (arith, k, below)))
    (a.0 - pool.first.0) pool.first.0 (omega (arith, bounds.0)))
