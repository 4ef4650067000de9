-- How many calls a command that walks makes.
use Rattle.std.proofs.Common.{◌≡◌, ℕ, ◌+◌, ◌*◌, ◌≤◌, true, false, Option, Some, None, is_some, IfSome, List, refl, sym, ap, subst, ◌∙◌, arith}
use Rattle.off_defs.specs.declared.keys.Key.{Key}
use Rattle.off_defs.specs.declared.keys.Key.TheVariants as key
use Rattle.off_defs.specs.declared.tables.Pool.{Pool}
use Rattle.off_orders.specs.declared.orders.Command.{Command}
use Rattle.off_orders.specs.declared.orders.Command.TheVariants.{PutHub, PutSubscriber, PutAddOn, PutModem, PutClass, PutPool, PutDevicePool, Remove, Show, Import}
use Rattle.off_defs.specs.State.{Tables}
use Rattle.off_outside.specs.KeeperSeen.{KeeperSeen}
use Rattle.off_outside.specs.KeeperCalls.{Reads, Spent}
use Rattle.off_outside.proofs.KeeperLemmas.{spent_then, spent_within}
use Rattle.off_base.specs.declared.moments.Moment.{Moment}
use Rattle.off_account_rules.specs.declared.counts.Counts.{Counts}
use Rattle.off_accounts.specs.declared.whose.Whose.{Whose}
use Rattle.off_accounts.specs.declared.whose.Whose.TheVariants.{Modems as OfModems, Devices as OfDevices}
use Rattle.off_accounts.specs.declared.subject.Subject.{Subject}
use Rattle.off_accounts.specs.declared.testing.Test.{Test}
use Rattle.off_account_rules.specs.Rows.{pool_in, device_pool_in}
use Rattle.off_accounts.specs.Tests.{tests_of, live_test, calls_for_subject, lookups, any_searches}
use Rattle.off_accounts.specs.Deciding.{most_calls, calls_to_show, calls_to_count}
use Rattle.off_accounts.specs.Walking.{hub_calls, lease_calls, pool_calls, device_pool_calls, walking_calls, WalksWithin, test_calls, tests_calls, drop_calls, IsPoolAt}

live_calls : (whose : Whose) (at : Moment) (old new : Option Pool) (t : Tables) → test_calls t (live_test whose at old new) ≡ lease_calls whose old t
live_calls whose at None new t = refl
live_calls whose at (Some old) new t = refl

if_spent : (most : Option ℕ) (k : ℕ) {a b : KeeperSeen} → IfSome most (λ n. k ≤ n) → Spent k a b → IfSome most (λ n. Spent n a b)
if_spent None k fits spent = tt
if_spent (Some n) k fits spent = spent_within spent fits

when_spent : (most : Option ℕ) (k : ℕ) {a b : KeeperSeen} → IfSome most (λ n. k ≤ n) → (is_some most ≡ true → Spent k a b) → IfSome most (λ n. Spent n a b)
when_spent None k fits spent = tt
when_spent (Some n) k fits spent = spent_within (spent refl) fits

one_shown : (shown : Key) → 1 ≤ calls_to_show shown
one_shown (key.Pool n) = omega arith
one_shown _ = omega arith

-- what the subject asks alone
pub first_walks : (c : Command) {a b : KeeperSeen} → Spent (calls_for_subject c) a b → WalksWithin c a b
first_walks (PutHub n site) spent t told = tt
first_walks (PutSubscriber n subscriber) spent t told = tt
first_walks (PutAddOn n number settings) spent t told = tt
first_walks (PutModem mac modem) spent t told = tt
first_walks (PutClass n class) spent t told = tt
first_walks (PutPool n pool hub) spent t told = spent_within spent (omega arith)
first_walks (PutDevicePool n pool) spent t told = spent_within spent (omega arith)
first_walks (Remove key.Site) spent t told = tt
first_walks (Remove (key.Subscriber n)) spent t told = tt
first_walks (Remove (key.AddOn n number)) spent t told = tt
first_walks (Remove (key.Modem mac)) spent t told = tt
first_walks (Remove (key.Class n)) spent t told = tt
first_walks (Remove (key.Pool n)) spent t told = spent_within spent (omega arith)
first_walks (Remove (key.Lease address)) spent t told = tt
first_walks (Remove (key.Held mac)) spent t told = tt
first_walks (Remove (key.Batch n)) spent t told = tt
first_walks (Remove (key.Hub n)) spent t told = spent_within spent (omega arith)
first_walks (Remove (key.PoolHub n)) spent t told = tt
first_walks (Remove (key.DevicePool n)) spent t told = spent_within spent (omega arith)
first_walks (Remove (key.Device address)) spent t told = tt
first_walks (Show shown) spent t told = tt
first_walks (Import kind batch digest rows) spent t told = tt

-- twice the pools, once those for the others, and twice the leases
sum_put : (p d l m : ℕ) → l ≡ m → 1 + ((0 + (p + (d + (p + (1 + (l + (0 + 0))))))) + (l + 0)) ≤ 2 + 2 * p + d + 2 * m
sum_put p d l m same = omega (arith, same)

sum_put_device : (p d l m : ℕ) → l ≡ m → 1 + ((0 + (p + (d + (d + (l + (0 + (0 + 0))))))) + (l + 0)) ≤ 1 + p + 2 * d + 2 * m
sum_put_device p d l m same = omega (arith, same)

sum_removed : (l m : ℕ) → l ≡ m → 1 + ((0 + (l + (0 + (0 + (0 + (0 + (0 + 0))))))) + (l + 0)) ≤ 1 + 2 * m
sum_removed l m same = omega (arith, same)

sum_of_hub : (h : ℕ) → 1 + ((0 + (h + (0 + (0 + (0 + (0 + (0 + 0))))))) + (0 + 0)) ≤ 1 + h
sum_of_hub h = omega arith

module _ (counts : Counts) (at : Moment) (subject : Subject) where
  abbrev all_calls : Command → Tables → ℕ
  all_calls c t = calls_for_subject c + (tests_calls t (tests_of counts at subject c) + (drop_calls c subject.pool t + calls_to_count c))

  fits_in : (c : Command) (t : Tables) → IsPoolAt c subject t → IfSome (walking_calls c t) (λ n. all_calls c t ≤ n)
  fits_in (PutHub n site) t is = tt
  fits_in (PutSubscriber n subscriber) t is = tt
  fits_in (PutAddOn n number settings) t is = tt
  fits_in (PutModem mac modem) t is = tt
  fits_in (PutClass n class) t is = tt
  fits_in (PutPool n pool hub) t is =
      subst (λ (l : ℕ). 1 + ((0 + (pool_calls t + (device_pool_calls t + (pool_calls t + (1 + (l + (0 + 0))))))) + (lease_calls OfModems subject.pool t + 0)) ≤ 2 + 2 * pool_calls t + device_pool_calls t + 2 * lease_calls OfModems (pool_in t n) t)
      (sym (live_calls OfModems at subject.pool (Some pool) t))
      (sum_put (pool_calls t) (device_pool_calls t) (lease_calls OfModems subject.pool t) (lease_calls OfModems (pool_in t n) t) (ap (λ (o : Option Pool). lease_calls OfModems o t) is))
  fits_in (PutDevicePool n pool) t is =
      subst (λ (l : ℕ). 1 + ((0 + (pool_calls t + (device_pool_calls t + (device_pool_calls t + (l + (0 + (0 + 0))))))) + (lease_calls OfDevices subject.pool t + 0)) ≤ 1 + pool_calls t + 2 * device_pool_calls t + 2 * lease_calls OfDevices (device_pool_in t n) t)
      (sym (live_calls OfDevices at subject.pool (Some pool) t))
      (sum_put_device (pool_calls t) (device_pool_calls t) (lease_calls OfDevices subject.pool t) (lease_calls OfDevices (device_pool_in t n) t) (ap (λ (o : Option Pool). lease_calls OfDevices o t) is))
  fits_in (Remove key.Site) t is = tt
  fits_in (Remove (key.Subscriber n)) t is = tt
  fits_in (Remove (key.AddOn n number)) t is = tt
  fits_in (Remove (key.Modem mac)) t is = tt
  fits_in (Remove (key.Class n)) t is = tt
  fits_in (Remove (key.Pool n)) t is =
      subst (λ (l : ℕ). 1 + ((0 + (l + (0 + (0 + (0 + (0 + (0 + 0))))))) + (lease_calls OfModems subject.pool t + 0)) ≤ 1 + 2 * lease_calls OfModems (pool_in t n) t)
      (sym (live_calls OfModems at subject.pool None t))
      (sum_removed (lease_calls OfModems subject.pool t) (lease_calls OfModems (pool_in t n) t) (ap (λ (o : Option Pool). lease_calls OfModems o t) is))
  fits_in (Remove (key.Lease address)) t is = tt
  fits_in (Remove (key.Held mac)) t is = tt
  fits_in (Remove (key.Batch n)) t is = tt
  fits_in (Remove (key.Hub n)) t is = sum_of_hub (hub_calls t)
  fits_in (Remove (key.PoolHub n)) t is = tt
  fits_in (Remove (key.DevicePool n)) t is =
      subst (λ (l : ℕ). 1 + ((0 + (l + (0 + (0 + (0 + (0 + (0 + 0))))))) + (lease_calls OfDevices subject.pool t + 0)) ≤ 1 + 2 * lease_calls OfDevices (device_pool_in t n) t)
      (sym (live_calls OfDevices at subject.pool None t))
      (sum_removed (lease_calls OfDevices subject.pool t) (lease_calls OfDevices (device_pool_in t n) t) (ap (λ (o : Option Pool). lease_calls OfDevices o t) is))
  fits_in (Remove (key.Device address)) t is = tt
  fits_in (Show shown) t is = tt
  fits_in (Import kind batch digest rows) t is = tt

  -- where no test walks, there are so many calls in all
  few_in : (c : Command) → is_some (most_calls c) ≡ true → any_searches (tests_of counts at subject c) ≡ false
  few_in (PutHub n site) some = refl
  few_in (PutSubscriber n subscriber) some = refl
  few_in (PutAddOn n number settings) some = refl
  few_in (PutModem mac modem) some = refl
  few_in (PutClass n class) some = refl
  few_in (PutPool n pool hub) some = cc
  few_in (PutDevicePool n pool) some = cc
  few_in (Remove key.Site) some = refl
  few_in (Remove (key.Subscriber n)) some = refl
  few_in (Remove (key.AddOn n number)) some = refl
  few_in (Remove (key.Modem mac)) some = refl
  few_in (Remove (key.Class n)) some = refl
  few_in (Remove (key.Pool n)) some = cc
  few_in (Remove (key.Lease address)) some = refl
  few_in (Remove (key.Held mac)) some = refl
  few_in (Remove (key.Batch n)) some = refl
  few_in (Remove (key.Hub n)) some = cc
  few_in (Remove (key.PoolHub n)) some = refl
  few_in (Remove (key.DevicePool n)) some = cc
  few_in (Remove (key.Device address)) some = refl
  few_in (Show shown) some = refl
  few_in (Import kind batch digest rows) some = refl

  most_in : (c : Command) → IfSome (most_calls c) (λ n. calls_for_subject c + (lookups (tests_of counts at subject c) + (0 + calls_to_count c)) ≤ n)
  most_in (PutHub n site) = omega arith
  most_in (PutSubscriber n subscriber) = omega arith
  most_in (PutAddOn n number settings) = omega arith
  most_in (PutModem mac modem) = omega arith
  most_in (PutClass n class) = omega arith
  most_in (PutPool n pool hub) = tt
  most_in (PutDevicePool n pool) = tt
  most_in (Remove key.Site) = omega arith
  most_in (Remove (key.Subscriber n)) = omega arith
  most_in (Remove (key.AddOn n number)) = omega arith
  most_in (Remove (key.Modem mac)) = omega arith
  most_in (Remove (key.Class n)) = omega arith
  most_in (Remove (key.Pool n)) = tt
  most_in (Remove (key.Lease address)) = omega arith
  most_in (Remove (key.Held mac)) = omega arith
  most_in (Remove (key.Batch n)) = omega arith
  most_in (Remove (key.Hub n)) = tt
  most_in (Remove (key.PoolHub n)) = omega arith
  most_in (Remove (key.DevicePool n)) = tt
  most_in (Remove (key.Device address)) = omega arith
  most_in (Show shown) = one_shown shown
  most_in (Import kind batch digest rows) = tt

  module _ (c : Command) (tests : List Test) (are : tests ≡ tests_of counts at subject c) where
    test_size : (t : Tables) → tests_calls t tests ≡ tests_calls t (tests_of counts at subject c)
    test_size t = ap (tests_calls t) are

    pub few_spent : {a b d e f : KeeperSeen} → Spent (calls_for_subject c) a b → (any_searches tests ≡ false → Spent (lookups tests) b d) → (is_some (most_calls c) ≡ true → Spent 0 d e)
        → Spent (calls_to_count c) e f → IfSome (most_calls c) (λ n. Spent n a f)
    few_spent first tested written counted =
        let size : lookups tests ≡ lookups (tests_of counts at subject c) = ap lookups are in
        when_spent (most_calls c) (calls_for_subject c + (lookups (tests_of counts at subject c) + (0 + calls_to_count c))) (most_in c)
        (λ some. spent_within (spent_then first (spent_then (tested (ap any_searches are ∙ few_in c some)) (spent_then (written some) counted))) (omega (arith, size)))

    -- the command ends behind its tests, behind what is dropped, or behind what is counted
    pub tests_walk : {a b d : KeeperSeen} → Spent (calls_for_subject c) a b → Reads (IsPoolAt c subject) a b → ((t : Tables) → b.tables t → Spent (tests_calls t tests) b d) → WalksWithin c a d
    tests_walk first pool tested t told =
        let at_pool = pool.tables t told in
        if_spent (walking_calls c t) (all_calls c t) (fits_in c t at_pool.1) (spent_within (spent_then first (tested t at_pool.0)) (omega (arith, test_size t)))

    pub drops_walk : {Q : Tables → Type 0} {a b d e : KeeperSeen} → Spent (calls_for_subject c) a b → Reads (IsPoolAt c subject) a b → ((t : Tables) → b.tables t → Spent (tests_calls t tests) b d) → Reads Q b d
        → ((t : Tables) → d.tables t → Spent (drop_calls c subject.pool t) d e) → WalksWithin c a e
    drops_walk first pool tested passed dropped t told =
        let at_pool = pool.tables t told in
        let behind_tests = passed.tables t at_pool.0 in
        if_spent (walking_calls c t) (all_calls c t) (fits_in c t at_pool.1)
        (spent_within (spent_then first (spent_then (tested t at_pool.0) (dropped t behind_tests.0))) (omega (arith, test_size t)))

    pub counts_walk : {Q : Tables → Type 0} {a b d e f : KeeperSeen} → Spent (calls_for_subject c) a b → Reads (IsPoolAt c subject) a b → ((t : Tables) → b.tables t → Spent (tests_calls t tests) b d) → Reads Q b d
        → ((t : Tables) → d.tables t → Spent (drop_calls c subject.pool t) d e) → Spent (calls_to_count c) e f → WalksWithin c a f
    counts_walk first pool tested passed dropped last t told =
        let at_pool = pool.tables t told in
        let behind_tests = passed.tables t at_pool.0 in
        if_spent (walking_calls c t) (all_calls c t) (fits_in c t at_pool.1)
        (spent_within (spent_then first (spent_then (tested t at_pool.0) (spent_then (dropped t behind_tests.0) last))) (omega (arith, test_size t)))

-- commands that walk over no pools and leases
pub show_walks : (c : Command) (shown : Key) (a b : KeeperSeen) → c ≡ Show shown → WalksWithin c a b
show_walks c shown a b is = subst (λ (d : Command). WalksWithin d a b) (sym is) (λ t told. tt)
