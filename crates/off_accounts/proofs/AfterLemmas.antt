-- The counts behind each command whose rules are passed.
use Rattle.std.proofs.Common.{◌≡◌, ℕ, ◌-◌, ◌≤◌, length, Bool, true, Some, None, is_some, List, count_by, refl, sym, ap, subst, ◌∙◌}
use Rattle.off_base.specs.Tree.{Tree}
use Rattle.off_defs.specs.declared.keys.Key.{Key}
use Rattle.off_defs.specs.declared.keys.Key.TheVariants as key
use Rattle.off_defs.specs.declared.tables.Row.{Row}
use Rattle.off_defs.specs.declared.tables.Row.TheVariants as row
use Rattle.off_defs.specs.declared.tables.Subscriber.{Subscriber}
use Rattle.off_defs.specs.declared.tables.Modem.{Modem}
use Rattle.off_defs.specs.declared.tables.Class.{Class}
use Rattle.off_defs.specs.declared.tables.Pool.{Pool}
use Rattle.off_defs.specs.declared.tables.Site.{Site}
use Rattle.off_base.specs.declared.macs.Mac.{Mac}
use Rattle.off_defs.specs.declared.kinds.Kind.{Kind}
use Rattle.off_defs.specs.declared.kinds.Kind.TheVariants.{Subscribers, AddOns, Modems, Classes, Pools, Hubs, DevicePools}
use Rattle.off_orders.specs.declared.orders.Command.{Command}
use Rattle.off_orders.specs.declared.orders.Command.TheVariants.{PutHub, PutSubscriber, PutAddOn, PutModem, PutClass, PutPool, PutDevicePool, Remove}
use Rattle.off_defs.specs.State.{Tables}
use Rattle.off_defs.specs.Tables.{with_row, without}
use Rattle.off_orders.specs.Sound.{is_add_on_number, is_sound_pool}
use Rattle.off_account_rules.specs.declared.counts.Counts.{Counts}
use Rattle.off_account_rules.specs.Rows.{seen_at, is_possible, is_of_kind, counts_of, subscriber_fits}
use Rattle.off_account_rules.specs.Changes.{add_on_keys}
use Rattle.off_orders.specs.Clerk.{limit, rules_of, lost_leases, lost_devices, lease_drops}
use Rattle.off_table_laws.proofs.CountLemmas.{counts_without_other}
use Rattle.off_accounts.specs.declared.subject.Subject.{Subject}
use Rattle.off_accounts.specs.Changes.{count_in, with_count, counts_put, counts_drop}
use Rattle.off_accounts.specs.Tests.{limit_rule}
use Rattle.off_accounts.specs.After.{CountsAfter, CountsAfterRemoval}
use Rattle.off_accounts.proofs.CountsLemmas.{kept, counts_with}
use Rattle.off_accounts.proofs.LimitLemmas.{limit_is}
use Rattle.std.specs.List.{flat_map}
use Rattle.off_accounts.proofs.RemovalLemmas.{drop_counts, lease_counts, device_counts, subscriber_counts}
use Rattle.off_accounts.proofs.PlanLemmas.{hub_counts, good_add_on, good_class, good_hub, good_pool, good_device_pool}
use Rattle.off_order_laws.proofs.ClerkSteps.{unbroken}

-- what the function of a put says of the counts
abbrev pub PutSays : Counts → Kind → Bool → Counts → Type 0
PutSays counts kind there after = limit_rule counts kind there ≡ None → after ≡ counts_put kind there counts

put_after : (kind : Kind) (key : Key) (row : Row) (t : Tables) (counts after : Counts) (there : Bool) → ((n : ℕ) → kept kind n ≡ n) → is_of_kind kind key ≡ true → is_possible key row ≡ true
    → there ≡ is_some (seen_at t key) → counts ≡ counts_of t → limit t key kind ≡ None → PutSays counts kind there after → after ≡ counts_of (with_row t key row)
put_after kind key row t counts after there whole is fits says agree passed put =
    put (limit_is key kind counts t there says agree ∙ passed)
    ∙ ap (λ (b : Bool). counts_put kind b counts) says
    ∙ ap (counts_put kind (is_some (seen_at t key))) agree
    ∙ sym (counts_with kind key row t whole is fits)

module _ (counts after : Counts) (subject : Subject) (t : Tables) where
  pub subscriber_put : (n : ℕ) (subscriber : Subscriber) → subscriber_fits subscriber ≡ true → PutSays counts Subscribers subject.is_there after → CountsAfter counts subject (PutSubscriber n subscriber) t after
  subscriber_put n subscriber sound put now agree stands none =
      let passed = unbroken (rules_of t now (PutSubscriber n subscriber)) none in
      put_after Subscribers (key.Subscriber n) (row.Subscriber subscriber) t counts after subject.is_there (λ m. refl) refl sound stands.0 agree passed.0 put

  pub add_on_put : (n number : ℕ) (settings : List Tree) → is_add_on_number number ≡ true → PutSays counts AddOns subject.is_there after → CountsAfter counts subject (PutAddOn n number settings) t after
  add_on_put n number settings sound put now agree stands none =
      let passed = unbroken (rules_of t now (PutAddOn n number settings)) none in
      put_after AddOns (key.AddOn n number) (row.AddOn settings) t counts after subject.is_there (λ m. refl) refl (good_add_on n number settings sound passed.1.0) stands.0 agree passed.1.1.0 put

  pub modem_put : (mac : Mac) (modem : Modem) → PutSays counts Modems subject.is_there after → CountsAfter counts subject (PutModem mac modem) t after
  modem_put mac modem put now agree stands none =
      let passed = unbroken (rules_of t now (PutModem mac modem)) none in
      put_after Modems (key.Modem mac) (row.Modem modem) t counts after subject.is_there (λ m. refl) refl refl stands.0 agree passed.1.1.0 put

  pub class_put : (n : ℕ) (class : Class) → PutSays counts Classes subject.is_there after → CountsAfter counts subject (PutClass n class) t after
  class_put n class put now agree stands none =
      let passed = unbroken (rules_of t now (PutClass n class)) none in
      put_after Classes (key.Class n) (row.Class class) t counts after subject.is_there (λ m. refl) refl (good_class n class passed.0) stands.0 agree passed.1.0 put

  pub pool_put : (n : ℕ) (pool : Pool) (hub : ℕ) → is_sound_pool pool ≡ true → PutSays counts Pools subject.is_there after → CountsAfter counts subject (PutPool n pool hub) t after
  pool_put n pool hub sound put now agree stands none =
      let passed = unbroken (rules_of t now (PutPool n pool hub)) none in
      put_after Pools (key.Pool n) (row.Pool pool) t counts after subject.is_there (λ m. refl) refl (good_pool n pool sound passed.0) stands.0 agree passed.1.1.1.1.1.1.0 put
      ∙ sym (hub_counts n hub (flat_map lease_drops (lost_leases t n (Some pool))) (with_row t (key.Pool n) (row.Pool pool)) (lease_counts (lost_leases t n (Some pool))))

  pub device_pool_put : (n : ℕ) (pool : Pool) → is_sound_pool pool ≡ true → PutSays counts DevicePools subject.is_there after → CountsAfter counts subject (PutDevicePool n pool) t after
  device_pool_put n pool sound put now agree stands none =
      let passed = unbroken (rules_of t now (PutDevicePool n pool)) none in
      put_after DevicePools (key.DevicePool n) (row.Pool pool) t counts after subject.is_there (λ m. refl) refl (good_device_pool n pool sound passed.0) stands.0 agree passed.1.1.1.1.1.0 put
      ∙ sym (device_counts (lost_devices t n (Some pool)) (with_row t (key.DevicePool n) (row.Pool pool)))

  pub hub_put : (n : ℕ) (site : Site) → length site.secret ≤ 64 → PutSays counts Hubs subject.is_there after → CountsAfter counts subject (PutHub n site) t after
  hub_put n site fits put now agree stands none =
      let passed = unbroken (rules_of t now (PutHub n site)) none in
      put_after Hubs (key.Hub n) (row.Site site) t counts after subject.is_there (λ m. refl) refl (good_hub n site fits passed.0 passed.1.0 passed.1.1.0 passed.1.1.1.0) stands.0 agree passed.1.1.1.1.0 put

module _ (counts after : Counts) (t : Tables) where
  pub add_on_removed : (n number : ℕ) → after ≡ counts_drop AddOns true counts → CountsAfterRemoval counts (key.AddOn n number) t after
  add_on_removed n number less agree there = drop_counts AddOns (key.AddOn n number) t counts after (λ m. refl) refl there less agree

  pub modem_removed : (mac : Mac) → after ≡ counts_drop Modems true counts → CountsAfterRemoval counts (key.Modem mac) t after
  modem_removed mac less agree there = drop_counts Modems (key.Modem mac) t counts after (λ m. refl) refl there less agree

  pub class_removed : (n : ℕ) → after ≡ counts_drop Classes true counts → CountsAfterRemoval counts (key.Class n) t after
  class_removed n less agree there = drop_counts Classes (key.Class n) t counts after (λ m. refl) refl there less agree

  pub pool_removed : (n : ℕ) → after ≡ counts_drop Pools true counts → CountsAfterRemoval counts (key.Pool n) t after
  pool_removed n less agree there =
      drop_counts Pools (key.Pool n) t counts after (λ m. refl) refl there less agree
      ∙ sym (lease_counts (lost_leases t n None) (without (without t (key.Pool n)) (key.PoolHub n)) ∙ counts_without_other (key.PoolHub n) (without t (key.Pool n)) (λ kind. refl))

  pub device_pool_removed : (n : ℕ) → after ≡ counts_drop DevicePools true counts → CountsAfterRemoval counts (key.DevicePool n) t after
  device_pool_removed n less agree there =
      drop_counts DevicePools (key.DevicePool n) t counts after (λ m. refl) refl there less agree ∙ sym (device_counts (lost_devices t n None) (without t (key.DevicePool n)))

  pub hub_removed : (n : ℕ) → after ≡ counts_drop Hubs true counts → CountsAfterRemoval counts (key.Hub n) t after
  hub_removed n less agree there = drop_counts Hubs (key.Hub n) t counts after (λ m. refl) refl there less agree

  pub subscriber_removed : (n lost : ℕ) (less : Counts) → lost ≡ count_by (λ key. is_some (seen_at t key)) (add_on_keys n) → less ≡ counts_drop Subscribers true counts
      → after ≡ with_count AddOns (count_in AddOns less - lost) less → CountsAfterRemoval counts (key.Subscriber n) t after
  subscriber_removed n lost less lost_is less_is after_is agree there = subscriber_counts n lost t counts less after there lost_is less_is after_is agree

-- a removal from a command's rules
pub removal_after : (counts after : Counts) (subject : Subject) (t : Tables) (removed : Key) → CountsAfterRemoval counts removed t after → CountsAfter counts subject (Remove removed) t after
removal_after counts after subject t (key.Subscriber n) left now agree stands none = left agree (unbroken (rules_of t now (Remove (key.Subscriber n))) none).0
removal_after counts after subject t (key.Class n) left now agree stands none = left agree (unbroken (rules_of t now (Remove (key.Class n))) none).0
removal_after counts after subject t (key.Pool n) left now agree stands none = left agree (unbroken (rules_of t now (Remove (key.Pool n))) none).0
removal_after counts after subject t key.Site left now agree stands none = left agree (unbroken (rules_of t now (Remove key.Site)) none).0
removal_after counts after subject t (key.AddOn n number) left now agree stands none = left agree (unbroken (rules_of t now (Remove (key.AddOn n number))) none).0
removal_after counts after subject t (key.Modem mac) left now agree stands none = left agree (unbroken (rules_of t now (Remove (key.Modem mac))) none).0
removal_after counts after subject t (key.Lease address) left now agree stands none = left agree (unbroken (rules_of t now (Remove (key.Lease address))) none).0
removal_after counts after subject t (key.Held mac) left now agree stands none = left agree (unbroken (rules_of t now (Remove (key.Held mac))) none).0
removal_after counts after subject t (key.Batch n) left now agree stands none = left agree (unbroken (rules_of t now (Remove (key.Batch n))) none).0
removal_after counts after subject t (key.Hub n) left now agree stands none = left agree (unbroken (rules_of t now (Remove (key.Hub n))) none).0
removal_after counts after subject t (key.PoolHub n) left now agree stands none = left agree (unbroken (rules_of t now (Remove (key.PoolHub n))) none).0
removal_after counts after subject t (key.DevicePool n) left now agree stands none = left agree (unbroken (rules_of t now (Remove (key.DevicePool n))) none).0
removal_after counts after subject t (key.Device address) left now agree stands none = left agree (unbroken (rules_of t now (Remove (key.Device address))) none).0

-- the key and the command as they were handed in
pub removed_as : (counts after : Counts) (t : Tables) (removed wanted : Key) → removed ≡ wanted → CountsAfterRemoval counts wanted t after → CountsAfterRemoval counts removed t after
removed_as counts after t removed wanted is left = subst (λ (k : Key). CountsAfterRemoval counts k t after) (sym is) left

pub counted_as : (counts after : Counts) (subject : Subject) (t : Tables) (c wanted : Command) → c ≡ wanted → CountsAfter counts subject wanted t after → CountsAfter counts subject c t after
counted_as counts after subject t c wanted is left = subst (λ (v : Command). CountsAfter counts subject v t after) (sym is) left
