-- The tests of a command say what its rules say.
use Rattle.std.proofs.Common.{◌≡◌, ℕ, zero, suc, ◌+◌, ◌==◌, Bool, true, false, cond, ◌||◌, count_by, arith, not, option_map, Option, Some, None, List, [], ◌∷◌, ◌++◌, length, map, refl, sym, ap, ◌∙◌}
use Rattle.std.specs.List.{list_any}
use Rattle.std.proofs.lemmas.Bool.{eqb-true}
use Rattle.std.proofs.lemmas.List.Sums.{sum_by-cons}
use Rattle.off_base.specs.Choices.{when, first_there}
use Rattle.off_base.specs.declared.macs.Mac.{Mac}
use Rattle.off_defs.specs.declared.tables.Modem.{Modem}
use Rattle.off_base.specs.declared.moments.Moment.{Moment}
use Rattle.off_defs.specs.declared.keys.Key.{Key}
use Rattle.off_defs.specs.declared.keys.Key.TheVariants as key
use Rattle.off_defs.specs.declared.tables.Pool.{Pool}
use Rattle.off_orders.specs.declared.rules.Rule.{Rule}
use Rattle.off_orders.specs.declared.rules.Rule.TheVariants as rule
use Rattle.off_defs.specs.declared.kinds.Kind.TheVariants.{Subscribers, AddOns, Modems, Classes, Pools, Hubs, DevicePools}
use Rattle.off_orders.specs.declared.orders.Command.{Command}
use Rattle.off_orders.specs.declared.orders.Command.TheVariants.{PutHub, PutSubscriber, PutAddOn, PutModem, PutClass, PutPool, PutDevicePool, Remove, Show, Import}
use Rattle.off_defs.specs.State.{Tables}
use Rattle.off_tree.specs.declared.tables.Kind.TheVariants as tree
use Rattle.off_tree.specs.Fault.{first_fault}
use Rattle.off_account_rules.specs.declared.counts.Counts.{Counts}
use Rattle.off_account_rules.specs.Rows.{has_pool_size, is_lease_time, is_offset, counts_of, modems}
use Rattle.off_orders.specs.Clerk.{limit, no_subscriber, no_class, no_hub, no_row, hub_in_use, pool_overlap, device_overlap, other_device_overlap, modems_overlap, relay_taken, device_relay_taken, pool_has_leases, pool_has_devices, has_modems, class_in_use, rules_of, removal_rules}
use Rattle.off_accounts.specs.declared.whose.Whose.{Whose}
use Rattle.off_accounts.specs.declared.whose.Whose.TheVariants.{Modems as OfModems, Devices as OfDevices}
use Rattle.off_accounts.specs.declared.subject.Subject.{Subject}
use Rattle.off_accounts.specs.Searches.{live_lost}
use Rattle.off_accounts.specs.Tests.{says, SubjectStands, IsSubject, live_test, tests_of, removal_tests}
use Rattle.off_accounts.proofs.LimitLemmas.{limit_is}
use Rattle.off_accounts.proofs.PresentLemmas.{row_is}
use Rattle.off_accounts.proofs.FoundLemmas.{none_lost}

-- rules that aren't there are never broken
abbrev nones : ℕ → List (Option Rule)
nones zero = []
nones (suc k) = None ∷ nones k

only_nones : (k : ℕ) → first_there (nones k) ≡ None
only_nones zero = refl
only_nones (suc k) = only_nones k

padded : (rules : List (Option Rule)) (k : ℕ) → first_there (rules ++ nones k) ≡ first_there rules
padded [] k = only_nones k
padded (None ∷ rules) k = padded rules k
padded (Some broken ∷ rules) k = refl

live_is : (whose : Whose) (now : Moment) (old new : Option Pool) (t : Tables) → says t (live_test whose now old new) ≡ live_lost whose now.0 old new t
live_is whose now None new t = sym (none_lost whose now.0 new t)
live_is whose now (Some old) new t = refl

live_says : (now : Moment) (n : ℕ) (new : Option Pool) (subject : Subject) (t : Tables) → SubjectStands t (key.Pool n) subject → says t (live_test OfModems now subject.pool new) ≡ pool_has_leases t now.0 n new
live_says now n new subject t stands = live_is OfModems now subject.pool new t ∙ ap (λ (old : Option Pool). live_lost OfModems now.0 old new t) stands.1

live_device_says : (now : Moment) (n : ℕ) (new : Option Pool) (subject : Subject) (t : Tables) → SubjectStands t (key.DevicePool n) subject
    → says t (live_test OfDevices now subject.pool new) ≡ pool_has_devices t now.0 n new
live_device_says now n new subject t stands = live_is OfDevices now subject.pool new t ∙ ap (λ (old : Option Pool). live_lost OfDevices now.0 old new t) stands.1

-- some element passes where not none does
positive : (n : ℕ) → not ((1 + n) == 0) ≡ true
positive n =
    elim ((1 + n) == 0) as (λ b. ((1 + n) == 0) ≡ b → not b ≡ true) [
      | true ↦ λ e. let none : 1 + n ≡ 0 = eqb-true (1 + n) 0 e in absurd (omega (arith, none))
      | false ↦ λ e. refl
    ] refl

any_counted : {X : Type 0} (test : X → Bool) (xs : List X) → not (count_by test xs == 0) ≡ list_any test xs
any_counted test [] = refl
any_counted {X} test (x ∷ xs) =
    let one = sum_by-cons (λ (y : X). cond (test y) 1 0) x xs in
    let none : 0 + count_by test xs ≡ count_by test xs = omega arith in
    ap (λ n. not (n == 0)) one
    ∙ elim (test x) as (λ b. not ((cond b 1 0 + count_by test xs) == 0) ≡ (b || list_any test xs)) [
      | true ↦ positive (count_by test xs)
      | false ↦ ap (λ n. not (n == 0)) none ∙ any_counted test xs
    ]

use_says : {X : Type 0} (test : X → Bool) (broken : Rule) (uses : ℕ) (xs : List X) → uses ≡ count_by test xs → when (not (uses == 0)) broken ≡ when (list_any test xs) broken
use_says test broken uses xs is = ap (λ n. when (not (n == 0)) broken) is ∙ ap (λ b. when b broken) (any_counted test xs)

module _ (now : Moment) (subject : Subject) (t : Tables) where
  row_alone : (removed : Key) → SubjectStands t removed subject → first_there (when (not subject.is_there) rule.NoRow ∷ nones 6) ≡ first_there (no_row t removed ∷ [])
  row_alone removed stands = ap (λ (r : Option Rule). first_there (r ∷ nones 6)) (row_is removed t subject.is_there stands.0) ∙ padded (no_row t removed ∷ []) 6

  removal_says : (removed : Key) → SubjectStands t removed subject → first_there (map (says t) (removal_tests now subject removed)) ≡ first_there (removal_rules t now.0 removed)
  removal_says (key.Subscriber n) stands =
      ap (λ (r : Option Rule). first_there (r ∷ when (not (subject.uses == 0)) rule.HasModems ∷ nones 5)) (row_is (key.Subscriber n) t subject.is_there stands.0)
      ∙ ap (λ (r : Option Rule). first_there (no_row t (key.Subscriber n) ∷ r ∷ nones 5)) (use_says (λ (entry : Mac × Modem). entry.1.subscriber == n) rule.HasModems subject.uses (modems t) stands.2)
      ∙ padded (no_row t (key.Subscriber n) ∷ has_modems t n ∷ []) 5
  removal_says (key.Class n) stands =
      ap (λ (r : Option Rule). first_there (r ∷ when (not (subject.uses == 0)) rule.ClassInUse ∷ nones 5)) (row_is (key.Class n) t subject.is_there stands.0)
      ∙ ap (λ (r : Option Rule). first_there (no_row t (key.Class n) ∷ r ∷ nones 5)) (use_says (λ (entry : Mac × Modem). entry.1.class == n) rule.ClassInUse subject.uses (modems t) stands.2)
      ∙ padded (no_row t (key.Class n) ∷ class_in_use t n ∷ []) 5
  removal_says (key.Pool n) stands =
      ap (λ (r : Option Rule). first_there (r ∷ says t (live_test OfModems now subject.pool None) ∷ nones 5)) (row_is (key.Pool n) t subject.is_there stands.0)
      ∙ ap (λ (r : Option Rule). first_there (no_row t (key.Pool n) ∷ r ∷ nones 5)) (live_says now n None subject t stands)
      ∙ padded (no_row t (key.Pool n) ∷ pool_has_leases t now.0 n None ∷ []) 5
  removal_says key.Site stands = row_alone key.Site stands
  removal_says (key.AddOn n number) stands = row_alone (key.AddOn n number) stands
  removal_says (key.Modem mac) stands = row_alone (key.Modem mac) stands
  removal_says (key.Lease address) stands = row_alone (key.Lease address) stands
  removal_says (key.Held mac) stands = row_alone (key.Held mac) stands
  removal_says (key.Batch n) stands = row_alone (key.Batch n) stands
  removal_says (key.Hub n) stands =
      ap (λ (r : Option Rule). first_there (r ∷ hub_in_use t n ∷ nones 5)) (row_is (key.Hub n) t subject.is_there stands.0)
      ∙ padded (no_row t (key.Hub n) ∷ hub_in_use t n ∷ []) 5
  removal_says (key.PoolHub n) stands = row_alone (key.PoolHub n) stands
  removal_says (key.DevicePool n) stands =
      ap (λ (r : Option Rule). first_there (r ∷ says t (live_test OfDevices now subject.pool None) ∷ nones 5)) (row_is (key.DevicePool n) t subject.is_there stands.0)
      ∙ ap (λ (r : Option Rule). first_there (no_row t (key.DevicePool n) ∷ r ∷ nones 5)) (live_device_says now n None subject t stands)
      ∙ padded (no_row t (key.DevicePool n) ∷ pool_has_devices t now.0 n None ∷ []) 5
  removal_says (key.Device address) stands = row_alone (key.Device address) stands

  pub tests_say : (counts : Counts) (c : Command) → counts ≡ counts_of t → IsSubject c subject t → first_there (map (says t) (tests_of counts now subject c)) ≡ first_there (rules_of t now.0 c)
  tests_say counts (PutHub n site) agree stands =
      ap (λ (r : Option Rule). first_there (when (site.server.0 == 0) (rule.Site 1) ∷ when (length site.secret == 0) (rule.Site 2)
      ∷ when (not (is_lease_time site.lease)) (rule.Site 3) ∷ when (not (is_offset site.offset)) (rule.Site 4) ∷ r ∷ nones 2))
      (limit_is (key.Hub n) Hubs counts t subject.is_there stands.0 agree)
      ∙ padded (rules_of t now.0 (PutHub n site)) 2
  tests_say counts (PutSubscriber n subscriber) agree stands =
      ap (λ (r : Option Rule). first_there (r ∷ nones 6)) (limit_is (key.Subscriber n) Subscribers counts t subject.is_there stands.0 agree)
      ∙ padded (limit t (key.Subscriber n) Subscribers ∷ []) 6
  tests_say counts (PutAddOn n number settings) agree stands =
      ap (λ (r : Option Rule). first_there (no_subscriber t n ∷ option_map rule.Tree (first_fault tree.AddOn settings) ∷ r ∷ nones 4)) (limit_is (key.AddOn n number) AddOns counts t subject.is_there stands.0 agree)
      ∙ padded (rules_of t now.0 (PutAddOn n number settings)) 4
  tests_say counts (PutModem mac modem) agree stands =
      ap (λ (r : Option Rule). first_there (no_subscriber t modem.subscriber ∷ no_class t modem.class ∷ r ∷ nones 4)) (limit_is (key.Modem mac) Modems counts t subject.is_there stands.0 agree)
      ∙ padded (rules_of t now.0 (PutModem mac modem)) 4
  tests_say counts (PutClass n class) agree stands =
      ap (λ (r : Option Rule). first_there (option_map rule.Tree (first_fault tree.Class class.settings) ∷ r ∷ nones 5)) (limit_is (key.Class n) Classes counts t subject.is_there stands.0 agree)
      ∙ padded (rules_of t now.0 (PutClass n class)) 5
  tests_say counts (PutPool n pool hub) agree stands =
      ap (λ (r : Option Rule). first_there (when (not (has_pool_size pool)) rule.PoolSize ∷ pool_overlap t n pool ∷ device_overlap t pool ∷ relay_taken t n pool ∷ no_hub t hub ∷ says t (live_test OfModems now subject.pool (Some pool)) ∷ r ∷ []))
      (limit_is (key.Pool n) Pools counts t subject.is_there stands.0 agree)
      ∙ ap (λ (r : Option Rule). first_there (when (not (has_pool_size pool)) rule.PoolSize ∷ pool_overlap t n pool ∷ device_overlap t pool ∷ relay_taken t n pool ∷ no_hub t hub ∷ r ∷ limit t (key.Pool n) Pools ∷ []))
      (live_says now n (Some pool) subject t stands)
  tests_say counts (PutDevicePool n pool) agree stands =
      ap (λ (r : Option Rule). first_there (when (not (has_pool_size pool)) rule.PoolSize ∷ modems_overlap t pool ∷ other_device_overlap t n pool ∷ device_relay_taken t n pool
      ∷ says t (live_test OfDevices now subject.pool (Some pool)) ∷ r ∷ nones 1))
      (limit_is (key.DevicePool n) DevicePools counts t subject.is_there stands.0 agree)
      ∙ ap (λ (r : Option Rule). first_there (when (not (has_pool_size pool)) rule.PoolSize ∷ modems_overlap t pool ∷ other_device_overlap t n pool ∷ device_relay_taken t n pool
      ∷ r ∷ limit t (key.DevicePool n) DevicePools ∷ nones 1))
      (live_device_says now n (Some pool) subject t stands)
      ∙ padded (rules_of t now.0 (PutDevicePool n pool)) 1
  tests_say counts (Remove removed) agree stands = removal_says removed stands
  tests_say counts (Show shown) agree stands = row_alone shown stands
  tests_say counts (Import kind batch digest rows) agree stands = refl
