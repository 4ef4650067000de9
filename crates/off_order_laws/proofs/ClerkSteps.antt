-- Each command that no rule refuses leaves good tables good.
use Rattle.std.proofs.Common.{◌≡◌, ℕ, Bool, true, false, cond, not, ◌&&◌, eqb, leb, Option, Some, None, is_none, List, [], ◌∷◌, map, length, refl, sym, ap, subst, ◌∙◌, arith}
use Rattle.std.proofs.lemmas.Bool.{and_from, eqb-false, ne_eqb, le-leb, not-false, not_from_false, or_left}
use Rattle.std.specs.List.{find, flat_map, list_any}
use Rattle.std.specs.Ordering.{eq_by_cmp}
use Rattle.off_base.specs.Choices.{when, first_there}
use Rattle.off_base.specs.declared.macs.Mac.{Mac}
use Rattle.off_base.specs.Tree.{Tree}
use Rattle.off_tree.specs.declared.tables.Kind.TheVariants as tree
use Rattle.off_tree.specs.Fault.{first_fault}
use Rattle.off_tree.proofs.GoodLemmas.{not_mapped}
use Rattle.off_defs.specs.declared.keys.Key.{Key}
use Rattle.off_defs.specs.declared.keys.Key.TheVariants as key
use Rattle.off_defs.specs.declared.tables.Row.TheVariants as row
use Rattle.off_defs.specs.declared.tables.Site.{Site}
use Rattle.off_defs.specs.declared.tables.Modem.{Modem}
use Rattle.off_defs.specs.declared.tables.Pool.{Pool}
use Rattle.off_orders.specs.declared.orders.Command.{Command}
use Rattle.off_orders.specs.declared.orders.Command.TheVariants.{PutHub, PutSubscriber, PutAddOn, PutModem, PutClass, PutPool, PutDevicePool, Remove, Show, Import}
use Rattle.off_defs.specs.declared.writes.Write.TheVariants.{Put, Drop}
use Rattle.off_orders.specs.declared.rules.Rule.{Rule}
use Rattle.off_defs.specs.Keys.{key_cmp}
use Rattle.off_defs.specs.State.{Tables}
use Rattle.off_defs.specs.Tables.{row_at, write_all}
use Rattle.off_orders.specs.Sound.{is_sound, is_sound_pool, is_removable}
use Rattle.off_account_rules.specs.Rows.{is_lease_time, is_offset, site_fits, class_is_good, add_on_is_good, has_pool_size, pool_fits, overlaps, as_subscriber, as_class, modems, pools, device_pools, hub_in, as_site, pool_hub_in}
use Rattle.off_account_rules.specs.Good.{Good}
use Rattle.off_orders.specs.Clerk.{rules_of, removal_rules, writes_of, removal_writes, is_other_overlapping, is_other_with_relay, lost_leases, lease_drops, lost_devices, device_drop, pool_hub_write}
use Rattle.off_order_laws.specs.Laws.{secret_fits}
use Rattle.off_table_laws.proofs.ListLemmas.{In, none_in, none_found}
use Rattle.off_table_laws.proofs.Rows.{Rows, rows_after, all_written, row_written, drop_row, put_row}
use Rattle.off_table_laws.proofs.GoodRows.{GoodRows, HubThere, hub_at, hub_in_row}
use Rattle.off_table_laws.proofs.Judging.{good_rows, good_tables, pool_in_raw, device_pool_in_raw}
use Rattle.off_table_laws.proofs.PutLemmas.{put_hub, put_subscriber, put_add_on, put_modem, put_class}
use Rattle.off_table_laws.proofs.DropLemmas.{drop_add_on, drop_modem, drop_class, drop_subscriber, drop_hub}
use Rattle.off_table_laws.proofs.PoolLemmas.{IsApart, IsApartOf, IsClearOf, set_pool, pool_changed, set_both, set_hub}
use Rattle.off_order_laws.proofs.LostLeases.{lost_left, drops_other, is_other}
use Rattle.off_order_laws.proofs.DevicePools.{set_device_pool, device_pool_changed, devices_left, drops_aside, is_no_device}
use Rattle.off_table_laws.proofs.Reading.{has_read, row_pool, row_device_pool, pools_raw, device_pools_raw, modem_in_all, seen_row}

-- where no rule is broken, each isn't
abbrev pub Whole : List (Option Rule) → Type 0
Whole [] = Unit {0}
Whole (rule ∷ rules) = (rule ≡ None) × Whole rules

pub unbroken : (rules : List (Option Rule)) → first_there rules ≡ None → Whole rules
unbroken [] e = tt
unbroken (None ∷ rules) e = (refl, unbroken rules e)
unbroken (Some broken ∷ rules) e = cc

pub not_when : (b : Bool) (broken : Rule) → when b broken ≡ None → b ≡ false
not_when true broken e = cc
not_when false broken e = refl

-- a site that no rule refuses, and whose secret has at most 64 bytes
site_possible : (site : Site) → eqb site.server.0 0 ≡ false → eqb (length site.secret) 0 ≡ false → leb (length site.secret) 64 ≡ true → not (is_lease_time site.lease) ≡ false
    → not (is_offset site.offset) ≡ false → site_fits site ≡ true
site_possible site server some short lease offset =
    let n = eqb-false (length site.secret) 0 some in
    and_from _ _ (not_from_false (eqb site.server.0 0) server)
    (and_from _ _ (and_from _ _ (le-leb 1 (length site.secret) (omega arith)) short)
    (and_from _ _ (not-false (is_offset site.offset) offset) (not-false (is_lease_time site.lease) lease)))

good_class : (settings : List Tree) → first_fault tree.Class settings ≡ None → class_is_good settings ≡ true
unfolding class_is_good
good_class settings e = ap is_none e

good_add_on : (settings : List Tree) → first_fault tree.AddOn settings ≡ None → add_on_is_good settings ≡ true
unfolding add_on_is_good
good_add_on settings e = ap is_none e

-- what is known of a pool is known of the one that is put
of_that : (pool : Pool) (P : Pool → Type 0) → P pool → (other : Pool) → Some pool ≡ Some other → P other
of_that pool P p other e = let same : pool ≡ other = cc in subst P same p

-- the write of a pool's hub leaves the rows with it set
pub hub_written : (rows : Rows) (n hub : ℕ) → row_written rows (pool_hub_write n hub) ≡ set_hub rows n hub
hub_written rows n hub =
    elim (eqb hub 0) as (λ b. row_written rows (cond b (Drop (key.PoolHub n)) (Put (key.PoolHub n) (row.PoolHub hub))) ≡ (λ q. cond (eq_by_cmp key_cmp q (key.PoolHub n)) (cond b None (Some (row.PoolHub hub))) (rows q))) [
      | true ↦ refl
      | false ↦ refl
    ]

abbrev does_overlap : Pool → ℕ × Pool → Bool
does_overlap pool other = overlaps pool other.1

abbrev is_of_hub : Tables → ℕ → ℕ × Pool → Bool
is_of_hub t hub entry = eqb (pool_hub_in t entry.0) hub

module _ (t : Tables) (g : GoodRows (row_at t)) (no_site : row_at t key.Site ≡ None) where
  -- a pool that overlaps no other, and whose relay is no other's
  other_apart : (m n : ℕ) (pool other : Pool) → (m ≡ n → ⊥) → is_other_overlapping n pool (m, other) ≡ false → is_other_with_relay n pool (m, other) ≡ false
      → (overlaps pool other ≡ false) × (eqb other.relay.0 pool.relay.0 ≡ false)
  other_apart m n pool other away a b =
      let not_it : eqb m n ≡ false = ne_eqb m n away in
      (ap (λ x. not x && overlaps pool other) (sym not_it) ∙ a, ap (λ x. not x && eqb other.relay.0 pool.relay.0) (sym not_it) ∙ b)

  pool_listed : (m : ℕ) (other : Pool) → row_at t (key.Pool m) ≡ Some (row.Pool other) → In (m, other) (pools t)
  pool_listed m other there = subst (λ (ps : List (ℕ × Pool)). In (m, other) ps) (sym (pools_raw t g.possible)) (pool_in_raw t m other there)

  device_pool_listed : (m : ℕ) (other : Pool) → row_at t (key.DevicePool m) ≡ Some (row.Pool other) → In (m, other) (device_pools t)
  device_pool_listed m other there = subst (λ (ps : List (ℕ × Pool)). In (m, other) ps) (sym (device_pools_raw t g.possible)) (device_pool_in_raw t m other there)

  pool_apart : (n : ℕ) (pool : Pool) → find (is_other_overlapping n pool) (pools t) ≡ None → find (is_other_with_relay n pool) (pools t) ≡ None → IsApartOf key.Pool (row_at t) n pool
  pool_apart n pool none free m other away there =
      let i = pool_listed m other there in
      other_apart m n pool other away (none_found (is_other_overlapping n pool) (pools t) none (m, other) i) (none_found (is_other_with_relay n pool) (pools t) free (m, other) i)

  device_pool_apart : (n : ℕ) (pool : Pool) → find (is_other_overlapping n pool) (device_pools t) ≡ None → find (is_other_with_relay n pool) (device_pools t) ≡ None
      → IsApartOf key.DevicePool (row_at t) n pool
  device_pool_apart n pool none free m other away there =
      let i = device_pool_listed m other there in
      other_apart m n pool other away (none_found (is_other_overlapping n pool) (device_pools t) none (m, other) i) (none_found (is_other_with_relay n pool) (device_pools t) free (m, other) i)

  -- and one that overlaps none of the other kind
  clear_of_devices : (pool : Pool) → find (does_overlap pool) (device_pools t) ≡ None → IsClearOf key.DevicePool (row_at t) pool
  clear_of_devices pool none m other there = none_found (does_overlap pool) (device_pools t) none (m, other) (device_pool_listed m other there)

  clear_of_pools : (pool : Pool) → find (does_overlap pool) (pools t) ≡ None → IsClearOf key.Pool (row_at t) pool
  clear_of_pools pool none m other there = none_found (does_overlap pool) (pools t) none (m, other) (pool_listed m other there)

  pool_possible : (pool : Pool) → is_sound_pool pool ≡ true → not (has_pool_size pool) ≡ false → pool_fits pool ≡ true
  pool_possible pool sound size = and_from (has_pool_size pool) (is_sound_pool pool) (not-false (has_pool_size pool) size) sound

  pool_step : (n : ℕ) (new : Option Pool) (hub : ℕ) → ((pool : Pool) → new ≡ Some pool → pool_fits pool ≡ true) → ((pool : Pool) → new ≡ Some pool → IsApart (row_at t) n pool)
      → ((pool : Pool) → new ≡ Some pool → IsClearOf key.DevicePool (row_at t) pool) → ((pool : Pool) → new ≡ Some pool → HubThere (row_at t) hub) → (new ≡ None → hub ≡ 0)
      → GoodRows (rows_after (set_both (row_at t) n new hub) (flat_map lease_drops (lost_leases t n new)))
  pool_step n new hub fits apart clear there unnamed =
      subst (λ (rows : Rows). GoodRows rows) (sym (lost_left t g n new hub))
      (pool_changed (row_at t) g n _ new hub (λ pool e. row_pool t g.possible n pool e) fits apart clear there unnamed no_site)

  device_pool_step : (n : ℕ) (new : Option Pool) → ((pool : Pool) → new ≡ Some pool → pool_fits pool ≡ true)
      → ((pool : Pool) → new ≡ Some pool → IsApartOf key.DevicePool (row_at t) n pool) → ((pool : Pool) → new ≡ Some pool → IsClearOf key.Pool (row_at t) pool)
      → GoodRows (rows_after (set_device_pool (row_at t) n new) (map device_drop (lost_devices t n new)))
  device_pool_step n new fits apart clear =
      subst (λ (rows : Rows). GoodRows rows) (sym (devices_left t g n new))
      (device_pool_changed (row_at t) g n _ new (λ pool e. row_device_pool t g.possible n pool e) fits apart clear)

  -- a hub that is seen is there
  hub_seen : (hub : ℕ) → is_none (hub_in t hub) ≡ false → HubThere (row_at t) hub
  hub_seen hub h = or_left _ _ (has_read t (key.Hub hub) as_site h)

  -- no pool is of a hub that isn't in use
  no_pool_of : (hub : ℕ) → find (is_of_hub t hub) (pools t) ≡ None → (m : ℕ) (pool : Pool) → row_at t (key.Pool m) ≡ Some (row.Pool pool) → hub_at (row_at t) m ≡ hub → ⊥
  no_pool_of hub none m pool there is =
      let no = none_found (is_of_hub t hub) (pools t) none (m, pool) (pool_listed m pool there) in
      eqb-false (pool_hub_in t m) hub no (ap hub_in_row (seen_row t g.possible (key.PoolHub m)) ∙ is)

  no_subscribers_modem : (n : ℕ) → list_any (λ (entry : Mac × Modem). eqb entry.1.subscriber n) (modems t) ≡ false → (mac : Mac) (modem : Modem) → row_at t (key.Modem mac) ≡ Some (row.Modem modem)
      → modem.subscriber ≡ n → ⊥
  no_subscribers_modem n none mac modem e is =
      eqb-false modem.subscriber n (none_in (λ (entry : Mac × Modem). eqb entry.1.subscriber n) (modems t) none (mac, modem) (modem_in_all t mac modem e)) is

  no_modem_of_class : (n : ℕ) → list_any (λ (entry : Mac × Modem). eqb entry.1.class n) (modems t) ≡ false → (mac : Mac) (modem : Modem) → row_at t (key.Modem mac) ≡ Some (row.Modem modem)
      → modem.class ≡ n → ⊥
  no_modem_of_class n none mac modem e is =
      eqb-false modem.class n (none_in (λ (entry : Mac × Modem). eqb entry.1.class n) (modems t) none (mac, modem) (modem_in_all t mac modem e)) is

  removal : (now : ℕ) (removed : Key) → is_removable removed ≡ true → first_there (removal_rules t now removed) ≡ None → GoodRows (rows_after (row_at t) (removal_writes t removed))
  removal now (key.Subscriber n) sound h =
      let whole = unbroken (removal_rules t now (key.Subscriber n)) h in
      drop_subscriber (row_at t) g n (no_subscribers_modem n (not_when _ _ whole.1.0))
  removal now (key.AddOn n k) sound h = drop_add_on (row_at t) g n k
  removal now (key.Modem mac) sound h = drop_modem (row_at t) g mac
  removal now (key.Class n) sound h =
      let whole = unbroken (removal_rules t now (key.Class n)) h in
      drop_class (row_at t) g n (no_modem_of_class n (not_when _ _ whole.1.0))
  removal now (key.Pool n) sound h = pool_step n None 0 (λ pool e. cc) (λ pool e. cc) (λ pool e. cc) (λ pool e. cc) (λ _. refl)
  removal now (key.DevicePool n) sound h = device_pool_step n None (λ pool e. cc) (λ pool e. cc) (λ pool e. cc)
  removal now (key.Hub n) sound h =
      let whole = unbroken (removal_rules t now (key.Hub n)) h in
      drop_hub (row_at t) g n (no_pool_of n (not_mapped _ _ whole.1.0))
  removal now removed sound h = cc

  pub command_rows : (now : ℕ) (command : Command) → is_sound command ≡ true → secret_fits command ≡ true → first_there (rules_of t now command) ≡ None
      → GoodRows (rows_after (row_at t) (writes_of t command))
  command_rows now (PutHub n site) sound short h =
      let whole = unbroken (rules_of t now (PutHub n site)) h in
      put_hub (row_at t) g n site
      (site_possible site (not_when _ _ whole.0) (not_when _ _ whole.1.0) short (not_when _ _ whole.1.1.0) (not_when _ _ whole.1.1.1.0)) no_site
  command_rows now (PutSubscriber n subscriber) sound short h = put_subscriber (row_at t) g n subscriber sound
  command_rows now (PutAddOn n number settings) sound short h =
      let whole = unbroken (rules_of t now (PutAddOn n number settings)) h in
      put_add_on (row_at t) g n number settings (and_from (leb number 7) (add_on_is_good settings) sound (good_add_on settings (not_mapped _ _ whole.1.0)))
      (has_read t (key.Subscriber n) as_subscriber (not_when _ _ whole.0))
  command_rows now (PutModem mac modem) sound short h =
      let whole = unbroken (rules_of t now (PutModem mac modem)) h in
      put_modem (row_at t) g mac modem (has_read t (key.Subscriber modem.subscriber) as_subscriber (not_when _ _ whole.0))
      (has_read t (key.Class modem.class) as_class (not_when _ _ whole.1.0))
  command_rows now (PutClass n class) sound short h =
      put_class (row_at t) g n class (good_class class.settings (not_mapped _ _ (unbroken (rules_of t now (PutClass n class)) h).0))
  command_rows now (PutPool n pool hub) sound short h =
      let whole = unbroken (rules_of t now (PutPool n pool hub)) h in
      let named : HubThere (row_at t) hub = hub_seen hub (not_when _ _ whole.1.1.1.1.0) in
      subst (λ (rows : Rows). GoodRows (rows_after rows (flat_map lease_drops (lost_leases t n (Some pool)))))
      (sym (hub_written (set_pool (row_at t) n (Some pool)) n hub))
      (pool_step n (Some pool) hub (of_that pool (λ p. pool_fits p ≡ true) (pool_possible pool sound (not_when _ _ whole.0)))
      (of_that pool (λ p. IsApart (row_at t) n p) (pool_apart n pool (not_mapped _ _ whole.1.0) (not_mapped _ _ whole.1.1.1.0)))
      (of_that pool (λ p. IsClearOf key.DevicePool (row_at t) p) (clear_of_devices pool (not_mapped _ _ whole.1.1.0))) (λ other e. named) (λ e. cc))
  command_rows now (PutDevicePool n pool) sound short h =
      let whole = unbroken (rules_of t now (PutDevicePool n pool)) h in
      device_pool_step n (Some pool) (of_that pool (λ p. pool_fits p ≡ true) (pool_possible pool sound (not_when _ _ whole.0)))
      (of_that pool (λ p. IsApartOf key.DevicePool (row_at t) n p) (device_pool_apart n pool (not_mapped _ _ whole.1.1.0) (not_mapped _ _ whole.1.1.1.0)))
      (of_that pool (λ p. IsClearOf key.Pool (row_at t) p) (clear_of_pools pool (not_mapped _ _ whole.1.0)))
  command_rows now (Remove removed) sound short h = removal now removed sound h
  command_rows now (Show shown) sound short h = g
  command_rows now (Import kind batch digest rows) sound short h = g

-- no command writes the site of earlier days
hub_aside : (rows : Rows) (n hub : ℕ) → row_written rows (pool_hub_write n hub) key.Site ≡ rows key.Site
hub_aside rows n hub =
    elim (eqb hub 0) as (λ b. row_written rows (cond b (Drop (key.PoolHub n)) (Put (key.PoolHub n) (row.PoolHub hub))) key.Site ≡ rows key.Site) [ true ↦ refl | false ↦ refl ]

removal_aside : (t : Tables) (removed : Key) → is_removable removed ≡ true → rows_after (row_at t) (removal_writes t removed) key.Site ≡ row_at t key.Site
unfolding is_other is_no_device
removal_aside t (key.Pool n) sound = drops_other (drop_row (drop_row (row_at t) (key.Pool n)) (key.PoolHub n)) (lost_leases t n None) key.Site refl
removal_aside t (key.DevicePool n) sound = drops_aside (drop_row (row_at t) (key.DevicePool n)) (lost_devices t n None) key.Site refl
removal_aside t (key.Subscriber n) sound = refl
removal_aside t (key.AddOn n k) sound = refl
removal_aside t (key.Modem mac) sound = refl
removal_aside t (key.Class n) sound = refl
removal_aside t (key.Hub n) sound = refl
removal_aside t removed sound = cc

pub site_aside : (t : Tables) (command : Command) → is_sound command ≡ true → rows_after (row_at t) (writes_of t command) key.Site ≡ row_at t key.Site
unfolding is_other is_no_device
site_aside t (PutPool n pool hub) sound =
    drops_other (row_written (put_row (row_at t) (key.Pool n) (row.Pool pool)) (pool_hub_write n hub)) (lost_leases t n (Some pool)) key.Site refl
    ∙ hub_aside (put_row (row_at t) (key.Pool n) (row.Pool pool)) n hub
site_aside t (PutDevicePool n pool) sound = drops_aside (put_row (row_at t) (key.DevicePool n) (row.Pool pool)) (lost_devices t n (Some pool)) key.Site refl
site_aside t (Remove removed) sound = removal_aside t removed sound
site_aside t (PutHub n site) sound = refl
site_aside t (PutSubscriber n subscriber) sound = refl
site_aside t (PutAddOn n number settings) sound = refl
site_aside t (PutModem mac modem) sound = refl
site_aside t (PutClass n class) sound = refl
site_aside t (Show shown) sound = refl
site_aside t (Import kind batch digest rows) sound = refl

-- so are the tables after a command's writes
pub command_good : (t : Tables) (now : ℕ) (command : Command) → is_sound command ≡ true → secret_fits command ≡ true → Good t → first_there (rules_of t now command) ≡ None
    → Good (write_all t (writes_of t command))
command_good t now command sound short good h =
    record {
      opens = good_tables (write_all t (writes_of t command))
          (subst (λ (rows : Rows). GoodRows rows) (sym (all_written t (writes_of t command))) (command_rows t (good_rows t good.opens) good.no_site now command sound short h));
      no_site = ap (λ (rows : Rows). rows key.Site) (all_written t (writes_of t command)) ∙ site_aside t command sound ∙ good.no_site;
    }
