-- The rules of a command as they are tested: on what is known already, or by looking into the
-- tables.
use Rattle.std.specs.Prelude.{◌≡◌, ℕ, Bool, true, false, not, ◌&&◌, ◌||◌, nat_le, ◌+◌, ◌==◌, length, List, [], ◌∷◌, Option, Some, None, is_some, option_map, option_and_then}
use Rattle.off_base.specs.Choices.{when}
use Rattle.off_tree.specs.declared.tables.Kind.TheVariants as tree
use Rattle.off_tree.specs.Fault.{first_fault}
use Rattle.off_defs.specs.declared.keys.Key.{Key}
use Rattle.off_defs.specs.declared.keys.Key.TheVariants as key
use Rattle.off_defs.specs.declared.tables.Pool.{Pool}
use Rattle.off_orders.specs.declared.rules.Rule.{Rule}
use Rattle.off_orders.specs.declared.rules.Rule.TheVariants as rule
use Rattle.off_base.specs.declared.moments.Moment.{Moment}
use Rattle.off_defs.specs.declared.tables.Site.{Site}
use Rattle.off_defs.specs.declared.kinds.Kind.{Kind}
use Rattle.off_defs.specs.declared.kinds.Kind.TheVariants.{Subscribers, AddOns, Modems, Classes, Pools, Hubs, DevicePools}
use Rattle.off_orders.specs.declared.orders.Command.{Command}
use Rattle.off_orders.specs.declared.orders.Command.TheVariants.{PutHub, PutSubscriber, PutAddOn, PutModem, PutClass, PutPool, PutDevicePool, Remove, Show, Import}
use Rattle.off_defs.specs.State.{Tables}
use Rattle.off_account_rules.specs.declared.counts.Counts.{Counts}
use Rattle.off_account_rules.specs.Rows.{seen_at, as_pool, is_lease_time, is_offset, has_pool_size}
use Rattle.off_orders.specs.Clerk.{limit_of, no_subscriber, no_class, no_hub, hub_in_use, pool_overlap, relay_taken, modems_overlap, device_overlap, other_device_overlap, device_relay_taken}
use Rattle.off_users.specs.Users.{subscriber_uses, class_uses}
use Rattle.off_accounts.specs.declared.subject.Subject.{Subject}
use Rattle.off_accounts.specs.declared.whose.Whose.{Whose}
use Rattle.off_accounts.specs.declared.whose.Whose.TheVariants.{Modems as OfModems, Devices as OfDevices}
use Rattle.off_accounts.specs.declared.searching.Sought.{Sought}
use Rattle.off_accounts.specs.declared.searching.Sought.TheVariants.{Overlapping, WithRelay, LiveLost}
use Rattle.off_accounts.specs.declared.testing.Test.{Test}
use Rattle.off_accounts.specs.declared.testing.Test.TheVariants.{Tested, HasSubscriber, HasClass, HasHub, FindsNone, HasNoPool}
use Rattle.off_accounts.specs.Changes.{count_in}
use Rattle.off_accounts.specs.Searches.{live_lost, pool_number, lease_address}

-- the rule that is broken by what is found, and the same as the book says it
abbrev pub overlap_rule : Whose → ℕ → Rule
overlap_rule OfModems n = rule.PoolOverlap n
overlap_rule OfDevices n = rule.DeviceOverlap n

abbrev pub rule_at : Sought → Key → Option Rule
rule_at (Overlapping whose own pool) at = option_map (overlap_rule whose) (pool_number whose at)
rule_at (WithRelay whose n pool) at = option_map rule.RelayTaken (pool_number whose at)
rule_at (LiveLost now lost) at = option_map rule.PoolHasLeases (lease_address lost.whose at)

abbrev pub found_rule : Sought → Option Key → Option Rule
found_rule sought found = option_and_then (rule_at sought) found

abbrev pub overlap_in : Tables → Whose → Option ℕ → Pool → Option Rule
overlap_in t OfModems (Some n) pool = pool_overlap t n pool
overlap_in t OfModems None pool = modems_overlap t pool
overlap_in t OfDevices (Some n) pool = other_device_overlap t n pool
overlap_in t OfDevices None pool = device_overlap t pool

abbrev pub relay_in : Tables → Whose → ℕ → Pool → Option Rule
relay_in t OfModems n pool = relay_taken t n pool
relay_in t OfDevices n pool = device_relay_taken t n pool

abbrev pub sought_rule : Sought → Tables → Option Rule
sought_rule (Overlapping whose own pool) t = overlap_in t whose own pool
sought_rule (WithRelay whose n pool) t = relay_in t whose n pool
sought_rule (LiveLost now lost) t = live_lost lost.whose now.0 (Some lost.old) lost.new t

-- what a test says of tables: the rule that is broken
abbrev pub says : Tables → Test → Option Rule
says t (Tested broken) = broken
says t (HasSubscriber n) = no_subscriber t n
says t (HasClass n) = no_class t n
says t (HasHub n) = no_hub t n
says t (FindsNone sought) = sought_rule sought t
says t (HasNoPool hub) = hub_in_use t hub

-- how many keys the tests look up, and whether one of them searches
abbrev pub looks_up : Test → ℕ
looks_up (Tested broken) = 0
looks_up (HasSubscriber n) = 1
looks_up (HasClass n) = 1
looks_up (HasHub n) = 1
looks_up (FindsNone sought) = 0
looks_up (HasNoPool hub) = 0

abbrev pub searches : Test → Bool
searches (Tested broken) = false
searches (HasSubscriber n) = false
searches (HasClass n) = false
searches (HasHub n) = false
searches (FindsNone sought) = true
searches (HasNoPool hub) = true

-- how many modems name what stands at a key
abbrev pub uses_at : Tables → Key → ℕ
uses_at t (key.Subscriber n) = subscriber_uses t n
uses_at t (key.Class n) = class_uses t n
uses_at t key.Site = 0
uses_at t (key.AddOn n number) = 0
uses_at t (key.Modem mac) = 0
uses_at t (key.Pool n) = 0
uses_at t (key.Lease address) = 0
uses_at t (key.Held mac) = 0
uses_at t (key.Batch n) = 0
uses_at t (key.Hub n) = 0
uses_at t (key.PoolHub n) = 0
uses_at t (key.DevicePool n) = 0
uses_at t (key.Device address) = 0

-- what the tables have at the key of a command, before it
abbrev pub SubjectStands : Tables → Key → Subject → Type 0
SubjectStands t key subject =
    (subject.is_there ≡ is_some (seen_at t key))
    × (subject.pool ≡ option_and_then as_pool (seen_at t key))
    × (subject.uses ≡ uses_at t key)

abbrev pub IsSubject : Command → Subject → Tables → Type 0
IsSubject (PutHub n site) subject t = SubjectStands t (key.Hub n) subject
IsSubject (PutSubscriber n subscriber) subject t = SubjectStands t (key.Subscriber n) subject
IsSubject (PutAddOn n number settings) subject t = SubjectStands t (key.AddOn n number) subject
IsSubject (PutModem mac modem) subject t = SubjectStands t (key.Modem mac) subject
IsSubject (PutClass n class) subject t = SubjectStands t (key.Class n) subject
IsSubject (PutPool n pool hub) subject t = SubjectStands t (key.Pool n) subject
IsSubject (PutDevicePool n pool) subject t = SubjectStands t (key.DevicePool n) subject
IsSubject (Remove removed) subject t = SubjectStands t removed subject
IsSubject (Show shown) subject t = SubjectStands t shown subject
IsSubject (Import kind batch digest rows) subject t = Unit {0}

-- how many calls that takes
abbrev pub calls_for_subject : Command → ℕ
calls_for_subject (Import kind batch digest rows) = 0
calls_for_subject (PutHub n site) = 1
calls_for_subject (PutSubscriber n subscriber) = 1
calls_for_subject (PutAddOn n number settings) = 1
calls_for_subject (PutModem mac modem) = 1
calls_for_subject (PutClass n class) = 1
calls_for_subject (PutPool n pool hub) = 1
calls_for_subject (PutDevicePool n pool) = 1
calls_for_subject (Remove removed) = 1
calls_for_subject (Show shown) = 1

-- the limit of a kind, where the counts and whether the key is there are known
abbrev pub limit_rule : Counts → Kind → Bool → Option Rule
limit_rule counts kind there =
    when (not there && nat_le (limit_of kind) (count_in kind counts))
    (rule.Limit kind (limit_of kind))

abbrev pub limit_test : Counts → Kind → Subject → Test
limit_test counts kind subject = Tested (limit_rule counts kind subject.is_there)

abbrev pub row_test : Subject → Test
row_test subject = Tested (when (not subject.is_there) rule.NoRow)

-- no modem names what is removed
abbrev pub use_test : Subject → Rule → Test
use_test subject broken = Tested (when (not (subject.uses == 0)) broken)

-- no lease that hasn't expired is lost where a pool, or none, takes the place of the pool, or none,
-- that is there
abbrev pub live_test : Whose → Moment → Option Pool → Option Pool → Test
live_test whose now None new = Tested None
live_test whose now (Some old) new =
    FindsNone (LiveLost now (record { whose = whose; old = old; new = new }))

-- what is tested of no rule
abbrev pub no_test : Test
no_test = Tested None

-- The tests of a command, one for each of its rules, seven in all; most commands have fewer rules.
abbrev pub three_tests : Test → Test → Test → List Test
three_tests first second third =
    first ∷ second ∷ third ∷ no_test ∷ no_test ∷ no_test ∷ no_test ∷ []

abbrev pub two_tests : Test → Test → List Test
two_tests first second = three_tests first second no_test

abbrev pub one_test : Test → List Test
one_test first = two_tests first no_test

abbrev pub removal_tests : Moment → Subject → Key → List Test
removal_tests now subject (key.Subscriber n) =
    two_tests (row_test subject) (use_test subject rule.HasModems)
removal_tests now subject (key.Class n) =
    two_tests (row_test subject) (use_test subject rule.ClassInUse)
removal_tests now subject (key.Pool n) =
    two_tests (row_test subject) (live_test OfModems now subject.pool None)
removal_tests now subject (key.Hub n) = two_tests (row_test subject) (HasNoPool n)
removal_tests now subject key.Site = one_test (row_test subject)
removal_tests now subject (key.AddOn n number) = one_test (row_test subject)
removal_tests now subject (key.Modem mac) = one_test (row_test subject)
removal_tests now subject (key.Lease address) = one_test (row_test subject)
removal_tests now subject (key.Held mac) = one_test (row_test subject)
removal_tests now subject (key.Batch n) = one_test (row_test subject)
removal_tests now subject (key.PoolHub n) = one_test (row_test subject)
removal_tests now subject (key.DevicePool n) =
    two_tests (row_test subject) (live_test OfDevices now subject.pool None)
removal_tests now subject (key.Device address) = one_test (row_test subject)

abbrev pub hub_tests : Counts → Subject → Site → List Test
hub_tests counts subject site =
    Tested (when (site.server.0 == 0) (rule.Site 1))
    ∷ Tested (when (length site.secret == 0) (rule.Site 2))
    ∷ Tested (when (not (is_lease_time site.lease)) (rule.Site 3))
    ∷ Tested (when (not (is_offset site.offset)) (rule.Site 4))
    ∷ limit_test counts Hubs subject
    ∷ no_test
    ∷ no_test
    ∷ []

abbrev pub pool_tests : Counts → Moment → Subject → ℕ → Pool → ℕ → List Test
pool_tests counts now subject n pool hub =
    Tested (when (not (has_pool_size pool)) rule.PoolSize)
    ∷ FindsNone (Overlapping OfModems (Some n) pool)
    ∷ FindsNone (Overlapping OfDevices None pool)
    ∷ FindsNone (WithRelay OfModems n pool)
    ∷ HasHub hub
    ∷ live_test OfModems now subject.pool (Some pool)
    ∷ limit_test counts Pools subject
    ∷ []

abbrev pub device_pool_tests : Counts → Moment → Subject → ℕ → Pool → List Test
device_pool_tests counts now subject n pool =
    Tested (when (not (has_pool_size pool)) rule.PoolSize)
    ∷ FindsNone (Overlapping OfModems None pool)
    ∷ FindsNone (Overlapping OfDevices (Some n) pool)
    ∷ FindsNone (WithRelay OfDevices n pool)
    ∷ live_test OfDevices now subject.pool (Some pool)
    ∷ limit_test counts DevicePools subject
    ∷ no_test
    ∷ []

abbrev pub tests_of : Counts → Moment → Subject → Command → List Test
tests_of counts now subject (PutHub n site) = hub_tests counts subject site
tests_of counts now subject (PutSubscriber n subscriber) =
    one_test (limit_test counts Subscribers subject)
tests_of counts now subject (PutAddOn n number settings) =
    three_tests (HasSubscriber n) (Tested (option_map rule.Tree (first_fault tree.AddOn settings)))
    (limit_test counts AddOns subject)
tests_of counts now subject (PutModem mac modem) =
    three_tests (HasSubscriber modem.subscriber) (HasClass modem.class)
    (limit_test counts Modems subject)
tests_of counts now subject (PutClass n class) =
    two_tests (Tested (option_map rule.Tree (first_fault tree.Class class.settings)))
    (limit_test counts Classes subject)
tests_of counts now subject (PutPool n pool hub) = pool_tests counts now subject n pool hub
tests_of counts now subject (PutDevicePool n pool) = device_pool_tests counts now subject n pool
tests_of counts now subject (Remove removed) = removal_tests now subject removed
tests_of counts now subject (Show shown) = one_test (row_test subject)
tests_of counts now subject (Import kind batch digest rows) = one_test no_test

-- how many keys the tests look up, in all
abbrev pub lookups : List Test → ℕ
lookups [] = 0
lookups (test ∷ tests) = looks_up test + lookups tests

abbrev pub any_searches : List Test → Bool
any_searches [] = false
any_searches (test ∷ tests) = searches test || any_searches tests
