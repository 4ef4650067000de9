-- Where the walks over pools and over leases begin, of modems or of devices, and where they end.
use Rattle.std.proofs.Common.{◌≡◌, ℕ, ◌+◌, ◌<◌, ◌≤◌, inl, inr, Bool, true, false, true≢false, cond, not, ◌&&◌, Option, Some, None, IfSome, List, [], ◌∷◌, refl, sym, ap, subst, ◌∙◌, arith}
use Rattle.std.specs.Prelude.{nat_le, nat_lt}
use Rattle.std.specs.Option.{option_map_or}
use Rattle.std.specs.Ordering.{is_lt, nat_cmp}
use Rattle.std.specs.declared.cmp.Ordering.TheVariants.{Less, Equal, Greater}
use Rattle.std.specs.Cmp.{nat_cmp_is}
use Rattle.std.proofs.lemmas.Bool.{cases_lt, le-leb, lt-leb, ltb-true, ltb-false}
use Rattle.off_base.specs.declared.addresses.Ip4.{Ip4}
use Rattle.off_defs.specs.declared.keys.Key.{Key}
use Rattle.off_defs.specs.declared.keys.Key.TheVariants as key
use Rattle.off_defs.specs.declared.tables.Row.{Row}
use Rattle.off_defs.specs.declared.tables.Row.TheVariants as row
use Rattle.off_defs.specs.declared.tables.Pool.{Pool}
use Rattle.off_defs.specs.declared.tables.Lease.{Lease}
use Rattle.off_defs.specs.declared.tables.DeviceLease.{DeviceLease}
use Rattle.off_defs.specs.declared.writes.Write.{Write}
use Rattle.off_defs.specs.Keys.{key_cmp}
use Rattle.off_defs.specs.Kinds.{kind_of}
use Rattle.off_defs.specs.Tables.{is_after}
use Rattle.off_rows.specs.KeyBytes.{IsRanged}
use Rattle.off_readers.proofs.WalkLemmas.{kinds_rise, kinds_fall}
use Rattle.off_readers.proofs.KindLemmas.{only_pools}
use Rattle.off_account_rules.specs.Rows.{passes, has_address, lease_of, device_of, device_pool_of}
use Rattle.off_account_rules.specs.Changes.{gives_up}
use Rattle.off_orders.specs.Clerk.{is_live, is_live_device, lease_drops, device_drop}
use Rattle.off_accounts.specs.declared.whose.Whose.{Whose}
use Rattle.off_accounts.specs.declared.whose.Whose.TheVariants.{Modems as OfModems, Devices as OfDevices}
use Rattle.off_accounts.specs.declared.lost.Lost.{Lost}
use Rattle.off_accounts.specs.Searches.{lease_address, lease_key, pool_kind, lease_kind, before_pools, before_leases, pool_given, is_given_up, is_live_lost, lost_drops, drops_by}
use Rattle.off_accounts.specs.Walking.{is_pool_key, is_lease_in, is_past_first, is_past_last, are_reached, are_passed, AllBehind}

pub is_above : (a b : ℕ) → is_lt (nat_cmp a b) ≡ true → a < b
is_above a b e =
    elim (cases_lt a b) [
      | inl l ↦ l
      | inr g ↦ elim (cases_lt b a) [
        | inl h ↦ absurd (true≢false (sym e ∙ ap is_lt (sym (nat_cmp_is a b Greater h))))
        | inr h ↦ absurd (true≢false (sym e ∙ ap is_lt (sym (nat_cmp_is a b Equal (omega arith)))))
      ]
    ]

not_above : (a b : ℕ) → is_lt (nat_cmp a b) ≡ false → b ≤ a
not_above a b e = elim (cases_lt a b) [
  | inl l ↦ absurd (true≢false (ap is_lt (nat_cmp_is a b Less l) ∙ e))
  | inr g ↦ g
]

-- ---- keys of other kinds, and entries

no_lease : (whose : Whose) (k : Key) → ¬ (kind_of k ≡ lease_kind whose) → lease_address whose k ≡ None
no_lease OfModems (key.Lease address) other = absurd (other refl)
no_lease OfModems _ other = refl
no_lease OfDevices (key.Device address) other = absurd (other refl)
no_lease OfDevices _ other = refl

no_device_pool : (k : Key) (r : Row) → ¬ (kind_of k ≡ 12) → device_pool_of (k, r) ≡ None
no_device_pool (key.DevicePool n) r other = absurd (other refl)
no_device_pool _ r other = refl

no_pool : (whose : Whose) (e : Key × Row) → ¬ (kind_of e.0 ≡ pool_kind whose) → pool_given whose e ≡ None
no_pool OfModems e other = only_pools.others e other
no_pool OfDevices e other = no_device_pool e.0 e.1 other

lease_named : (e : Key × Row) (x : Ip4 × Lease) → lease_of e ≡ Some x → lease_address OfModems e.0 ≡ Some x.0
lease_named (key.Lease address, row.Lease lease) x is = cc
lease_named (_, _) x is = cc

device_named : (e : Key × Row) (x : Ip4 × DeviceLease) → device_of e ≡ Some x → lease_address OfDevices e.0 ≡ Some x.0
device_named (key.Device address, row.Device lease) x is = cc
device_named (_, _) x is = cc

-- no key is above those of devices
pub none_above : (k : Key) → nat_lt 13 (kind_of k) ≡ false
none_above key.Site = refl
none_above (key.Subscriber m) = refl
none_above (key.AddOn m number) = refl
none_above (key.Modem mac) = refl
none_above (key.Class m) = refl
none_above (key.Pool m) = refl
none_above (key.Lease address) = refl
none_above (key.Held mac) = refl
none_above (key.Batch m) = refl
none_above (key.Hub m) = refl
none_above (key.PoolHub m) = refl
none_above (key.DevicePool m) = refl
none_above (key.Device address) = refl

-- ---- an address that a pool doesn't give up

gives_none : (old : Pool) (new : Option Pool) (address : Ip4) → has_address old address ≡ false → gives_up (Some old) new address ≡ false
gives_none old None address out = out
gives_none old (Some new) address out = ap (λ b. b && not (has_address new address)) out

below : (pool : Pool) (address : Ip4) → address.0 < pool.first.0 → has_address pool address ≡ false
below pool address low = ap (λ b. b && nat_le address.0 pool.last.0) (lt-leb pool.first.0 address.0 low)

above : (pool : Pool) (address : Ip4) → pool.last.0 < address.0 → has_address pool address ≡ false
above pool address high = ap (λ b. nat_le pool.first.0 address.0 && b) (lt-leb address.0 pool.last.0 high) ∙ elim (nat_le pool.first.0 address.0) as (λ b. (b && false) ≡ false) [ true ↦ refl | false ↦ refl ]

module _ (lost : Lost) where
  keeps_below : (o : Option Ip4) → IfSome o (λ a. a.0 < lost.old.first.0) → passes (gives_up (Some lost.old) lost.new) o ≡ false
  keeps_below None low = refl
  keeps_below (Some address) low = gives_none lost.old lost.new address (below lost.old address low)

  keeps_above : (o : Option Ip4) → IfSome o (λ a. lost.old.last.0 < a.0) → passes (gives_up (Some lost.old) lost.new) o ≡ false
  keeps_above None high = refl
  keeps_above (Some address) high = gives_none lost.old lost.new address (above lost.old address high)

  keeps_other : (k : Key) → ¬ (kind_of k ≡ lease_kind lost.whose) → is_given_up lost k ≡ false
  keeps_other k other = ap (passes (gives_up (Some lost.old) lost.new)) (no_lease lost.whose k other)

-- ---- where a walk over leases begins

leases_after : (whose : Whose) → kind_of (before_leases whose) < lease_kind whose
leases_after OfModems = omega arith
leases_after OfDevices = omega arith

up_to : (whose : Whose) (n : ℕ) (k : Key) → is_lt (key_cmp (lease_key whose (record { 0 = n })) k) ≡ false → IfSome (lease_address whose k) (λ a. a.0 ≤ n)
up_to OfModems n (key.Lease address) e = not_above n address.0 e
up_to OfModems n _ e = tt
up_to OfDevices n (key.Device address) e = not_above n address.0 e
up_to OfDevices n _ e = tt

lower : (o : Option Ip4) (n first : ℕ) → n + 1 ≤ first → IfSome o (λ a. a.0 ≤ n) → IfSome o (λ a. a.0 < first)
lower None n first fits low = tt
lower (Some address) n first fits low = omega (arith, fits, low)

first_begins : (whose : Whose) (first : ℕ) → first ≡ 0 → (other : Key) (r : Row) → IsRanged other → is_after (Some (before_leases whose)) (other, r) ≡ true
    → option_map_or (λ (a : Ip4). nat_le first a.0) (lease_address whose other) (nat_lt (lease_kind whose) (kind_of other)) ≡ true
first_begins OfModems first none key.Site r ranged e = e
first_begins OfModems first none (key.Subscriber m) r ranged e = e
first_begins OfModems first none (key.AddOn m number) r ranged e = e
first_begins OfModems first none (key.Modem mac) r ranged e = e
first_begins OfModems first none (key.Class m) r ranged e = e
first_begins OfModems first none (key.Pool m) r ranged e = absurd (omega (arith, is_above 4294967295 m e, ranged))
first_begins OfModems first none (key.Lease address) r ranged e = le-leb first address.0 (omega (arith, none))
first_begins OfModems first none (key.Held mac) r ranged e = refl
first_begins OfModems first none (key.Batch m) r ranged e = refl
first_begins OfModems first none (key.Hub m) r ranged e = refl
first_begins OfModems first none (key.PoolHub m) r ranged e = refl
first_begins OfModems first none (key.DevicePool m) r ranged e = refl
first_begins OfModems first none (key.Device address) r ranged e = refl
first_begins OfDevices first none key.Site r ranged e = e
first_begins OfDevices first none (key.Subscriber m) r ranged e = e
first_begins OfDevices first none (key.AddOn m number) r ranged e = e
first_begins OfDevices first none (key.Modem mac) r ranged e = e
first_begins OfDevices first none (key.Class m) r ranged e = e
first_begins OfDevices first none (key.Pool m) r ranged e = e
first_begins OfDevices first none (key.Lease address) r ranged e = e
first_begins OfDevices first none (key.Held mac) r ranged e = e
first_begins OfDevices first none (key.Batch m) r ranged e = e
first_begins OfDevices first none (key.Hub m) r ranged e = e
first_begins OfDevices first none (key.PoolHub m) r ranged e = e
first_begins OfDevices first none (key.DevicePool m) r ranged e = absurd (omega (arith, is_above 4294967295 m e, ranged))
first_begins OfDevices first none (key.Device address) r ranged e = le-leb first address.0 (omega (arith, none))

next_begins : (whose : Whose) (first n : ℕ) → first ≤ n + 1 → (other : Key) (r : Row) → IsRanged other → is_after (Some (lease_key whose (record { 0 = n }))) (other, r) ≡ true
    → option_map_or (λ (a : Ip4). nat_le first a.0) (lease_address whose other) (nat_lt (lease_kind whose) (kind_of other)) ≡ true
next_begins OfModems first n fits key.Site r ranged e = e
next_begins OfModems first n fits (key.Subscriber m) r ranged e = e
next_begins OfModems first n fits (key.AddOn m number) r ranged e = e
next_begins OfModems first n fits (key.Modem mac) r ranged e = e
next_begins OfModems first n fits (key.Class m) r ranged e = e
next_begins OfModems first n fits (key.Pool m) r ranged e = e
next_begins OfModems first n fits (key.Lease address) r ranged e = le-leb first address.0 (omega (arith, fits, is_above n address.0 e))
next_begins OfModems first n fits (key.Held mac) r ranged e = refl
next_begins OfModems first n fits (key.Batch m) r ranged e = refl
next_begins OfModems first n fits (key.Hub m) r ranged e = refl
next_begins OfModems first n fits (key.PoolHub m) r ranged e = refl
next_begins OfModems first n fits (key.DevicePool m) r ranged e = refl
next_begins OfModems first n fits (key.Device address) r ranged e = refl
next_begins OfDevices first n fits key.Site r ranged e = e
next_begins OfDevices first n fits (key.Subscriber m) r ranged e = e
next_begins OfDevices first n fits (key.AddOn m number) r ranged e = e
next_begins OfDevices first n fits (key.Modem mac) r ranged e = e
next_begins OfDevices first n fits (key.Class m) r ranged e = e
next_begins OfDevices first n fits (key.Pool m) r ranged e = e
next_begins OfDevices first n fits (key.Lease address) r ranged e = e
next_begins OfDevices first n fits (key.Held mac) r ranged e = e
next_begins OfDevices first n fits (key.Batch m) r ranged e = e
next_begins OfDevices first n fits (key.Hub m) r ranged e = e
next_begins OfDevices first n fits (key.PoolHub m) r ranged e = e
next_begins OfDevices first n fits (key.DevicePool m) r ranged e = e
next_begins OfDevices first n fits (key.Device address) r ranged e = le-leb first address.0 (omega (arith, fits, is_above n address.0 e))

module _ (lost : Lost) (place : Key) where
  pub none_before_all : place ≡ before_leases lost.whose → (e : Key × Row) → is_after (Some place) e ≡ false → is_given_up lost e.0 ≡ false
  none_before_all is e before =
      let low = kinds_fall place e.0 before in
      let kind : kind_of place ≡ kind_of (before_leases lost.whose) = ap kind_of is in
      keeps_other lost e.0 (λ same. omega (arith, low, kind, leases_after lost.whose, same))

  pub none_before_one : (n : ℕ) → n + 1 ≤ lost.old.first.0 → place ≡ lease_key lost.whose (record { 0 = n }) → (e : Key × Row) → is_after (Some place) e ≡ false → is_given_up lost e.0 ≡ false
  none_before_one n fits is e before =
      let at : is_lt (key_cmp (lease_key lost.whose (record { 0 = n })) e.0) ≡ false = subst (λ (p : Key). is_lt (key_cmp p e.0) ≡ false) is before in
      keeps_below lost (lease_address lost.whose e.0) (lower (lease_address lost.whose e.0) n lost.old.first.0 fits (up_to lost.whose n e.0 at))

  pub begins_at_all : lost.old.first.0 ≡ 0 → place ≡ before_leases lost.whose → AllBehind (is_past_first lost) place
  begins_at_all none is = subst (AllBehind (is_past_first lost)) (sym is) (first_begins lost.whose lost.old.first.0 none)

  pub begins_at_one : (n : ℕ) → lost.old.first.0 ≤ n + 1 → place ≡ lease_key lost.whose (record { 0 = n }) → AllBehind (is_past_first lost) place
  begins_at_one n fits is = subst (AllBehind (is_past_first lost)) (sym is) (next_begins lost.whose lost.old.first.0 n fits)

-- ---- where it ends

abbrev Rises : Option Ip4 → Option Ip4 → Type 0
Rises None o = Unit {0}
Rises (Some a) None = Unit {0}
Rises (Some a) (Some b) = a.0 < b.0

rises : (whose : Whose) (k other : Key) → is_lt (key_cmp k other) ≡ true → Rises (lease_address whose k) (lease_address whose other)
rises OfModems (key.Lease a) (key.Lease b) e = is_above a.0 b.0 e
rises OfModems _ _ e = tt
rises OfDevices (key.Device a) (key.Device b) e = is_above a.0 b.0 e
rises OfDevices _ _ e = tt

module _ (lost : Lost) where
  past_here : (o : Option Ip4) (b : Bool) → option_map_or (λ (a : Ip4). nat_lt lost.old.last.0 a.0) o b ≡ true → passes (gives_up (Some lost.old) lost.new) o ≡ false
  past_here None b e = refl
  past_here (Some address) b e = keeps_above lost (Some address) (ltb-true lost.old.last.0 address.0 e)

  past_later : (o other : Option Ip4) (b : Bool) → Rises o other → option_map_or (λ (a : Ip4). nat_lt lost.old.last.0 a.0) o b ≡ true → (b ≡ true → other ≡ None)
      → passes (gives_up (Some lost.old) lost.new) other ≡ false
  past_later None other b up e none = ap (passes (gives_up (Some lost.old) lost.new)) (none e)
  past_later (Some a) None b up e none = refl
  past_later (Some a) (Some c) b up e none = let high = ltb-true lost.old.last.0 a.0 e in keeps_above lost (Some c) (omega (arith, high, up))

  pub none_here : (k : Key) → is_past_last lost k ≡ true → is_given_up lost k ≡ false
  none_here k e = past_here (lease_address lost.whose k) (nat_lt (lease_kind lost.whose) (kind_of k)) e

  pub none_later : (k : Key) → is_past_last lost k ≡ true → (e : Key × Row) → is_after (Some k) e ≡ true → is_given_up lost e.0 ≡ false
  none_later k past e after =
      past_later (lease_address lost.whose k) (lease_address lost.whose e.0) (nat_lt (lease_kind lost.whose) (kind_of k)) (rises lost.whose k e.0 after) past
      (λ higher.
      let kind = ltb-true (lease_kind lost.whose) (kind_of k) higher in
      let not_below = kinds_rise k e.0 after in
      no_lease lost.whose e.0 (λ same. omega (arith, kind, not_below, same)))

-- what isn't given up isn't wanted, and isn't dropped
out_of : {X : Type 0} (keep : Ip4 → Bool) (o : Option Ip4) (given : Option (Ip4 × X)) → ((x : Ip4 × X) → given ≡ Some x → o ≡ Some x.0) → passes keep o ≡ false → (x : Ip4 × X) → given ≡ Some x → keep x.0 ≡ false
out_of keep o given names none x is = sym (ap (passes keep) (names x is)) ∙ none

not_passed : {X : Type 0} (keep : Ip4 → Bool) (test : Ip4 × X → Bool) (given : Option (Ip4 × X)) → ((x : Ip4 × X) → given ≡ Some x → keep x.0 ≡ false) → passes (λ x. keep x.0 && test x) given ≡ false
not_passed keep test None out = refl
not_passed keep test (Some x) out = ap (λ b. b && test x) (out x refl)

not_dropped : {X : Type 0} (drops : Ip4 × X → List Write) (lost : Lost) (given : Option (Ip4 × X)) → ((x : Ip4 × X) → given ≡ Some x → gives_up (Some lost.old) lost.new x.0 ≡ false) → lost_drops drops lost given ≡ []
not_dropped drops lost None out = refl
not_dropped drops lost (Some x) out = ap (λ b. cond b (drops x) []) (out x refl)

module _ (lost : Lost) (e : Key × Row) where
  abbrev kept_by : Whose → Type 0
  kept_by whose = passes (gives_up (Some lost.old) lost.new) (lease_address whose e.0) ≡ false

  pub not_live : (whose : Whose) (now : ℕ) → kept_by whose → is_live_lost whose now lost e ≡ false
  not_live OfModems now none = not_passed (gives_up (Some lost.old) lost.new) (is_live now) (lease_of e) (out_of (gives_up (Some lost.old) lost.new) (lease_address OfModems e.0) (lease_of e) (lease_named e) none)
  not_live OfDevices now none =
      not_passed (gives_up (Some lost.old) lost.new) (is_live_device now) (device_of e) (out_of (gives_up (Some lost.old) lost.new) (lease_address OfDevices e.0) (device_of e) (device_named e) none)

  pub no_drops : (whose : Whose) → kept_by whose → drops_by whose lost e ≡ []
  no_drops OfModems none = not_dropped lease_drops lost (lease_of e) (out_of (gives_up (Some lost.old) lost.new) (lease_address OfModems e.0) (lease_of e) (lease_named e) none)
  no_drops OfDevices none =
      not_dropped (λ lease. device_drop lease ∷ []) lost (device_of e) (out_of (gives_up (Some lost.old) lost.new) (lease_address OfDevices e.0) (device_of e) (device_named e) none)

-- ---- the walks over pools

pools_after : (whose : Whose) → kind_of (before_pools whose) < pool_kind whose
pools_after OfModems = omega arith
pools_after OfDevices = omega arith

module _ (whose : Whose) (test : ℕ × Pool → Bool) where
  other_pool : (e : Key × Row) → ¬ (kind_of e.0 ≡ pool_kind whose) → passes test (pool_given whose e) ≡ false
  other_pool e other = ap (passes test) (no_pool whose e other)

  pub pools_before : (place : Key) → place ≡ before_pools whose → (e : Key × Row) → is_after (Some place) e ≡ false → passes test (pool_given whose e) ≡ false
  pools_before place is e before =
      let low = kinds_fall place e.0 before in
      let kind : kind_of place ≡ kind_of (before_pools whose) = ap kind_of is in
      other_pool e (λ same. omega (arith, low, kind, pools_after whose, same))

  pub pools_here : (e : Key × Row) → are_passed whose e.0 ≡ true → passes test (pool_given whose e) ≡ false
  pools_here e past = let higher = ltb-true (pool_kind whose) (kind_of e.0) past in other_pool e (λ same. omega (arith, higher, same))

  pub pools_later : (k : Key) → are_passed whose k ≡ true → (e : Key × Row) → is_after (Some k) e ≡ true → passes test (pool_given whose e) ≡ false
  pools_later k past e after =
      let higher = ltb-true (pool_kind whose) (kind_of k) past in
      let not_below = kinds_rise k e.0 after in
      other_pool e (λ same. omega (arith, higher, not_below, same))

-- behind the last key of the kind before come the pools
pub pools_begin : (whose : Whose) (other : Key) (r : Row) → IsRanged other → is_after (Some (before_pools whose)) (other, r) ≡ true → are_reached whose other ≡ true
pools_begin OfModems key.Site r ranged e = e
pools_begin OfModems (key.Subscriber m) r ranged e = e
pools_begin OfModems (key.AddOn m number) r ranged e = e
pools_begin OfModems (key.Modem mac) r ranged e = e
pools_begin OfModems (key.Class m) r ranged e = absurd (omega (arith, is_above 4294967295 m e, ranged))
pools_begin OfModems (key.Pool m) r ranged e = refl
pools_begin OfModems (key.Lease address) r ranged e = refl
pools_begin OfModems (key.Held mac) r ranged e = refl
pools_begin OfModems (key.Batch m) r ranged e = refl
pools_begin OfModems (key.Hub m) r ranged e = refl
pools_begin OfModems (key.PoolHub m) r ranged e = refl
pools_begin OfModems (key.DevicePool m) r ranged e = refl
pools_begin OfModems (key.Device address) r ranged e = refl
pools_begin OfDevices key.Site r ranged e = e
pools_begin OfDevices (key.Subscriber m) r ranged e = e
pools_begin OfDevices (key.AddOn m number) r ranged e = e
pools_begin OfDevices (key.Modem mac) r ranged e = e
pools_begin OfDevices (key.Class m) r ranged e = e
pools_begin OfDevices (key.Pool m) r ranged e = e
pools_begin OfDevices (key.Lease address) r ranged e = e
pools_begin OfDevices (key.Held mac) r ranged e = e
pools_begin OfDevices (key.Batch m) r ranged e = e
pools_begin OfDevices (key.Hub m) r ranged e = e
pools_begin OfDevices (key.PoolHub m) r ranged e = absurd (omega (arith, is_above 4294967295 m e, ranged))
pools_begin OfDevices (key.DevicePool m) r ranged e = refl
pools_begin OfDevices (key.Device address) r ranged e = refl

pub pools_begin_at : (whose : Whose) (place : Key) → place ≡ before_pools whose → AllBehind (are_reached whose) place
pools_begin_at whose place is = subst (AllBehind (are_reached whose)) (sym is) (pools_begin whose)

-- ---- between the first key and the last stand those that are looked at

pub pool_looked : (whose : Whose) (other : Key) → are_reached whose other ≡ true → are_passed whose other ≡ false → is_pool_key whose other ≡ true
pool_looked OfModems key.Site e f = e
pool_looked OfModems (key.Subscriber m) e f = e
pool_looked OfModems (key.AddOn m number) e f = e
pool_looked OfModems (key.Modem mac) e f = e
pool_looked OfModems (key.Class m) e f = e
pool_looked OfModems (key.Pool m) e f = refl
pool_looked OfModems (key.Lease address) e f = sym f
pool_looked OfModems (key.Held mac) e f = sym f
pool_looked OfModems (key.Batch m) e f = sym f
pool_looked OfModems (key.Hub m) e f = sym f
pool_looked OfModems (key.PoolHub m) e f = sym f
pool_looked OfModems (key.DevicePool m) e f = sym f
pool_looked OfModems (key.Device address) e f = sym f
pool_looked OfDevices key.Site e f = e
pool_looked OfDevices (key.Subscriber m) e f = e
pool_looked OfDevices (key.AddOn m number) e f = e
pool_looked OfDevices (key.Modem mac) e f = e
pool_looked OfDevices (key.Class m) e f = e
pool_looked OfDevices (key.Pool m) e f = e
pool_looked OfDevices (key.Lease address) e f = e
pool_looked OfDevices (key.Held mac) e f = e
pool_looked OfDevices (key.Batch m) e f = e
pool_looked OfDevices (key.Hub m) e f = e
pool_looked OfDevices (key.PoolHub m) e f = e
pool_looked OfDevices (key.DevicePool m) e f = refl
pool_looked OfDevices (key.Device address) e f = sym f

looked_at : (pool : Pool) (o : Option Ip4) (b : Bool) → option_map_or (λ (a : Ip4). nat_le pool.first.0 a.0) o b ≡ true → option_map_or (λ (a : Ip4). nat_lt pool.last.0 a.0) o b ≡ false → passes (has_address pool) o ≡ true
looked_at pool None b e f = absurd (true≢false (sym e ∙ f))
looked_at pool (Some address) b e f = ap (λ b. b && nat_le address.0 pool.last.0) e ∙ le-leb address.0 pool.last.0 (omega (arith, ltb-false pool.last.0 address.0 f))

pub lease_looked : (lost : Lost) (other : Key) → is_past_first lost other ≡ true → is_past_last lost other ≡ false → is_lease_in lost.whose lost.old other ≡ true
lease_looked lost other e f = looked_at lost.old (lease_address lost.whose other) (nat_lt (lease_kind lost.whose) (kind_of other)) e f
