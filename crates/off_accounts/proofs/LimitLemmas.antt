-- The limit of a kind, from the counts that were handed in.
use Rattle.std.proofs.Common.{◌≡◌, ℕ, ◌+◌, ◌≤◌, ◌<◌, Bool, true, false, not, ◌&&◌, None, is_some, refl, sym, ap, ◌∙◌, arith}
use Rattle.std.specs.Prelude.{nat_le, min}
use Rattle.std.proofs.lemmas.Bool.{le-leb, lt-leb, leb-true, leb-false}
use Rattle.off_base.specs.Choices.{when}
use Rattle.off_base.specs.Number.{greatest_u64}
use Rattle.off_defs.specs.declared.keys.Key.{Key}
use Rattle.off_defs.specs.declared.kinds.Kind.{Kind}
use Rattle.off_defs.specs.declared.kinds.Kind.TheVariants.{Subscribers, AddOns, Modems, Classes, Pools, Batches, Hubs, DevicePools}
use Rattle.off_orders.specs.declared.rules.Rule.{Rule}
use Rattle.off_orders.specs.declared.rules.Rule.TheVariants as rule
use Rattle.off_defs.specs.State.{Tables}
use Rattle.off_account_rules.specs.declared.counts.Counts.{Counts}
use Rattle.off_account_rules.specs.Rows.{seen_at, count_of, counts_of}
use Rattle.off_orders.specs.Clerk.{limit, limit_of}
use Rattle.off_accounts.specs.Changes.{count_in, with_count, counts_put}
use Rattle.off_accounts.specs.Tests.{limit_rule}
use Rattle.off_accounts.proofs.PresentLemmas.{absent}
use Rattle.off_accounts.proofs.CountsLemmas.{kept, counted_of}

-- a cap above a limit doesn't move a number across it
under_cap : (most cap n : ℕ) → most ≤ cap → nat_le most (min cap n) ≡ nat_le most n
under_cap most cap n high = elim (nat_le most n) as (λ b. nat_le most n ≡ b → nat_le most (min cap n) ≡ b) [
  | true ↦ λ e. let low = leb-true most n e in le-leb most (min cap n) (omega (arith, low, high))
  | false ↦ λ e. let more = leb-false most n e in lt-leb most (min cap n) (omega (arith, more))
] refl

-- what the counts say of a kind reaches the kind's limit where its rows do
same_side : (kind : Kind) (n : ℕ) → nat_le (limit_of kind) (kept kind n) ≡ nat_le (limit_of kind) n
same_side Batches n = under_cap 100000 greatest_u64 n (omega arith)
same_side Subscribers n = refl
same_side AddOns n = refl
same_side Modems n = refl
same_side Classes n = refl
same_side Pools n = refl
same_side Hubs n = refl
same_side DevicePools n = refl

-- the limit's rule from the counts that are known is that of the tables
pub limit_is : (key : Key) (kind : Kind) (counts : Counts) (t : Tables) (there : Bool) → there ≡ is_some (seen_at t key) → counts ≡ counts_of t
    → limit_rule counts kind there ≡ limit t key kind
limit_is key kind counts t there says agree =
    ap (λ (b : Bool). when (not b && nat_le (limit_of kind) (count_in kind counts)) (rule.Limit kind (limit_of kind))) says
    ∙ ap (λ (c : Counts). when (not (is_some (seen_at t key)) && nat_le (limit_of kind) (count_in kind c)) (rule.Limit kind (limit_of kind))) agree
    ∙ ap (λ (n : ℕ). when (not (is_some (seen_at t key)) && nat_le (limit_of kind) n) (rule.Limit kind (limit_of kind))) (counted_of kind t)
    ∙ ap (λ (b : Bool). when (not (is_some (seen_at t key)) && b) (rule.Limit kind (limit_of kind))) (same_side kind (count_of kind t))
    ∙ ap (λ (b : Bool). when (b && nat_le (limit_of kind) (count_of kind t)) (rule.Limit kind (limit_of kind))) (sym (absent (seen_at t key)))

-- a kind's limit is far below the greatest count
low_limit : (kind : Kind) → limit_of kind ≤ 200000
low_limit Subscribers = omega arith
low_limit AddOns = omega arith
low_limit Modems = omega arith
low_limit Classes = omega arith
low_limit Pools = omega arith
low_limit Batches = omega arith
low_limit Hubs = omega arith
low_limit DevicePools = omega arith

pub below_most : (most n : ℕ) (broken : Rule) → when (nat_le most n) broken ≡ None → n < most
below_most most n broken none = elim (nat_le most n) as (λ b. nat_le most n ≡ b → when b broken ≡ None → n < most) [
  | true ↦ λ is e. cc
  | false ↦ λ is e. leb-false most n is
] refl none

pub put_within : (counts after : Counts) (kind : Kind) (n more : ℕ) → n ≡ count_in kind counts → more ≡ min (n + 1) greatest_u64 → after ≡ with_count kind more counts
    → limit_rule counts kind false ≡ None → after ≡ counts_put kind false counts
put_within counts after kind n more n_is more_is after_is none =
    let below = below_most (limit_of kind) (count_in kind counts) (rule.Limit kind (limit_of kind)) none in
    let one : more ≡ count_in kind counts + 1 = omega (arith, low_limit kind, below, n_is, more_is) in
    after_is ∙ ap (λ (k : ℕ). with_count kind k counts) one
