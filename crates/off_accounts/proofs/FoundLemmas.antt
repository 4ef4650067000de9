-- What a search finds, as the rule says it.
use Rattle.std.proofs.Common.{◌≡◌, ℕ, Bool, true, false, cond, ◌&&◌, Option, Some, None, option_map, option_and_then, List, [], ◌∷◌, refl, sym, ap, ◌∙◌}
use Rattle.std.specs.List.{find, filter, filter_map, cons_option}
use Rattle.std.specs.FinMap as map
use Rattle.off_base.specs.declared.addresses.Ip4.{Ip4}
use Rattle.off_defs.specs.declared.keys.Key.{Key}
use Rattle.off_defs.specs.declared.keys.Key.TheVariants as key
use Rattle.off_defs.specs.declared.tables.Row.{Row}
use Rattle.off_defs.specs.declared.tables.Row.TheVariants as row
use Rattle.off_defs.specs.declared.tables.Pool.{Pool}
use Rattle.off_defs.specs.declared.tables.Lease.{Lease}
use Rattle.off_defs.specs.declared.tables.DeviceLease.{DeviceLease}
use Rattle.off_orders.specs.declared.rules.Rule.{Rule}
use Rattle.off_orders.specs.declared.rules.Rule.TheVariants as rule
use Rattle.off_defs.specs.State.{Tables}
use Rattle.off_account_rules.specs.Rows.{passes, fitting_pool, pool_fits, lease_of, device_of, leases, devices}
use Rattle.off_account_rules.specs.Changes.{gives_up}
use Rattle.off_orders.specs.Clerk.{is_other_with_relay, is_live, is_live_device}
use Rattle.off_accounts.specs.declared.whose.Whose.{Whose}
use Rattle.off_accounts.specs.declared.whose.Whose.TheVariants.{Modems as OfModems, Devices as OfDevices}
use Rattle.off_accounts.specs.declared.lost.Lost.{Lost}
use Rattle.off_accounts.specs.declared.searching.Sought.{Sought}
use Rattle.off_accounts.specs.declared.searching.Sought.TheVariants.{Overlapping, WithRelay, LiveLost}
use Rattle.off_accounts.specs.Tests.{found_rule, overlap_in, relay_in, sought_rule}
use Rattle.off_accounts.specs.Searches.{pool_number, lease_address, pool_given, is_overlapping, is_live_lost, least_wanted, live_lost}

abbrev pub key_found : Option (Key × Row) → Option Key
key_found found = option_map (λ (entry : Key × Row). entry.0) found

module _ {X : Type 0} (give : Key × Row → Option X) (test : X → Bool) where
  abbrev tested : Key × Row → Bool
  tested e = passes test (give e)

  module _ {Y : Type 0} (said : X → Y) (read : Option Key → Option Y) (reads : (e : Key × Row) (x : X) → give e ≡ Some x → read (Some e.0) ≡ Some (said x)) (reads_none : read None ≡ None) where
    said_first : (e : Key × Row) (given : Option X) (es : List (Key × Row)) → give e ≡ given
        → option_map said (find test (filter_map give es)) ≡ read (key_found (find tested es))
        → option_map said (find test (cons_option given (filter_map give es))) ≡ read (key_found (cond (passes test given) (Some e) (find tested es)))
    said_first e None es is rest = rest
    said_first e (Some x) es is rest =
        elim (test x) as (λ b. option_map said (cond b (Some x) (find test (filter_map give es))) ≡ read (key_found (cond b (Some e) (find tested es)))) [
          | true ↦ sym (reads e x is)
          | false ↦ rest
        ]

    -- what is said of the first value that passes is read off the key that is found
    pub said_found : (es : List (Key × Row)) → option_map said (find test (filter_map give es)) ≡ read (key_found (find tested es))
    said_found [] = sym reads_none
    said_found (e ∷ es) = said_first e (give e) es refl (said_found es)

pub find_filter : {X : Type 0} (keep test : X → Bool) (xs : List X) → find test (filter keep xs) ≡ find (λ x. keep x && test x) xs
find_filter keep test [] = refl
find_filter keep test (x ∷ xs) =
    elim (keep x) as (λ b. find test (cond b (x ∷ filter keep xs) (filter keep xs)) ≡ cond (b && test x) (Some x) (find (λ x. keep x && test x) xs)) [
      | true ↦ ap (λ v. cond (test x) (Some x) v) (find_filter keep test xs)
      | false ↦ find_filter keep test xs
    ]

pub find_in_none : {X : Type 0} (test : X → Bool) (xs : List X) → find test (filter (λ x. false) xs) ≡ None
find_in_none test [] = refl
find_in_none test (x ∷ xs) = find_in_none test xs

-- ---- pools

fitting_read : (says : ℕ → Rule) (b : Bool) (n : ℕ) (p : Pool) (x : ℕ × Pool) → fitting_pool b n p ≡ Some x → Some (says n) ≡ Some (says x.0)
fitting_read says true n p x e = cc
fitting_read says false n p x e = cc

pool_read : (whose : Whose) (says : ℕ → Rule) (e : Key × Row) (x : ℕ × Pool) → pool_given whose e ≡ Some x → option_map says (pool_number whose e.0) ≡ Some (says x.0)
pool_read OfModems says (key.Pool n, row.Pool p) x e = fitting_read says (pool_fits p) n p x e
pool_read OfModems says (_, _) x e = cc
pool_read OfDevices says (key.DevicePool n, row.Pool p) x e = fitting_read says (pool_fits p) n p x e
pool_read OfDevices says (_, _) x e = cc

module _ (whose : Whose) (says : ℕ → Rule) (test : ℕ × Pool → Bool) where
  abbrev number_said : Option Key → Option Rule
  number_said found = option_and_then (λ (k : Key). option_map says (pool_number whose k)) found

  pool_found : (t : Tables)
      → option_map (λ (other : ℕ × Pool). says other.0) (find test (filter_map (pool_given whose) (map.entries t)))
      ≡ number_said (option_map (λ (entry : Key × Row). entry.0) (find (λ (e : Key × Row). passes test (pool_given whose e)) (map.entries t)))
  pool_found t = said_found (pool_given whose) test (λ (other : ℕ × Pool). says other.0) number_said (pool_read whose says) refl (map.entries t)

overlap_found : (whose : Whose) (own : Option ℕ) (pool : Pool) (t : Tables) → overlap_in t whose own pool ≡ found_rule (Overlapping whose own pool) (least_wanted (Overlapping whose own pool) t)
overlap_found OfModems None pool t = pool_found OfModems rule.PoolOverlap (is_overlapping None pool) t
overlap_found OfModems (Some n) pool t = pool_found OfModems rule.PoolOverlap (is_overlapping (Some n) pool) t
overlap_found OfDevices None pool t = pool_found OfDevices rule.DeviceOverlap (is_overlapping None pool) t
overlap_found OfDevices (Some n) pool t = pool_found OfDevices rule.DeviceOverlap (is_overlapping (Some n) pool) t

relay_found : (whose : Whose) (n : ℕ) (pool : Pool) (t : Tables) → relay_in t whose n pool ≡ found_rule (WithRelay whose n pool) (least_wanted (WithRelay whose n pool) t)
relay_found OfModems n pool t = pool_found OfModems rule.RelayTaken (is_other_with_relay n pool) t
relay_found OfDevices n pool t = pool_found OfDevices rule.RelayTaken (is_other_with_relay n pool) t

-- ---- leases

lease_read : (e : Key × Row) (x : Ip4 × Lease) → lease_of e ≡ Some x → option_map rule.PoolHasLeases (lease_address OfModems e.0) ≡ Some (rule.PoolHasLeases x.0)
lease_read (key.Lease a, row.Lease l) x e = cc
lease_read (_, _) x e = cc

device_read : (e : Key × Row) (x : Ip4 × DeviceLease) → device_of e ≡ Some x → option_map rule.PoolHasLeases (lease_address OfDevices e.0) ≡ Some (rule.PoolHasLeases x.0)
device_read (key.Device a, row.Device l) x e = cc
device_read (_, _) x e = cc

abbrev address_said : Whose → Option Key → Option Rule
address_said whose found = option_and_then (λ (k : Key). option_map rule.PoolHasLeases (lease_address whose k)) found

-- without a pool before nothing is lost
pub none_lost : (whose : Whose) (now : ℕ) (new : Option Pool) (t : Tables) → live_lost whose now None new t ≡ None
none_lost OfModems now new t = ap (option_map (λ (entry : Ip4 × Lease). rule.PoolHasLeases entry.0)) (find_in_none (is_live now) (leases t))
none_lost OfDevices now new t = ap (option_map (λ (entry : Ip4 × DeviceLease). rule.PoolHasLeases entry.0)) (find_in_none (is_live_device now) (devices t))

module _ (now : ℕ) (lost : Lost) (t : Tables) where
  abbrev goes : Ip4 → Bool
  goes address = gives_up (Some lost.old) lost.new address

  lost_found : (whose : Whose)
      → live_lost whose now (Some lost.old) lost.new t ≡ address_said whose (option_map (λ (entry : Key × Row). entry.0) (find (is_live_lost whose now lost) (map.entries t)))
  lost_found OfModems =
      ap (option_map (λ (entry : Ip4 × Lease). rule.PoolHasLeases entry.0)) (find_filter (λ (lease : Ip4 × Lease). goes lease.0) (is_live now) (leases t))
      ∙ said_found lease_of (λ lease. goes lease.0 && is_live now lease) (λ (entry : Ip4 × Lease). rule.PoolHasLeases entry.0) (address_said OfModems) lease_read refl (map.entries t)
  lost_found OfDevices =
      ap (option_map (λ (entry : Ip4 × DeviceLease). rule.PoolHasLeases entry.0)) (find_filter (λ (lease : Ip4 × DeviceLease). goes lease.0) (is_live_device now) (devices t))
      ∙ said_found device_of (λ lease. goes lease.0 && is_live_device now lease) (λ (entry : Ip4 × DeviceLease). rule.PoolHasLeases entry.0) (address_said OfDevices) device_read refl (map.entries t)

-- what is found says the rule
says_so : (sought : Sought) (t : Tables) → sought_rule sought t ≡ found_rule sought (least_wanted sought t)
says_so (Overlapping whose own pool) t = overlap_found whose own pool t
says_so (WithRelay whose n pool) t = relay_found whose n pool t
says_so (LiveLost now lost) t = lost_found now.0 lost t lost.whose

pub found_is : (sought : Sought) (found : Option Key) (t : Tables) → found ≡ least_wanted sought t → found_rule sought found ≡ sought_rule sought t
found_is sought found t is = ap (found_rule sought) is ∙ sym (says_so sought t)
