-- What walks over the tables find: the pools for devices and the leases of devices.
use Rattle.std.proofs.Common.{◌≡◌, ℕ, ◌<◌, List, [], ◌∷◌, ◌++◌, Option, Some, None, refl, sym, ap, ◌∙◌, arith, inl, inr, ◌⊎◌}
use Rattle.std.specs.List.{filter_map}
use Rattle.std.specs.FinMap as map
use Rattle.off_base.specs.declared.addresses.Ip4.{Ip4}
use Rattle.off_defs.specs.declared.keys.Key.{Key}
use Rattle.off_defs.specs.declared.keys.Key.TheVariants as key
use Rattle.off_defs.specs.declared.tables.Row.{Row}
use Rattle.off_defs.specs.declared.tables.Pool.{Pool}
use Rattle.off_defs.specs.declared.writes.Write.{Write}
use Rattle.off_defs.specs.declared.writes.Write.TheVariants.{Put}
use Rattle.off_defs.specs.State.{Tables}
use Rattle.off_defs.specs.Tables.{row_at}
use Rattle.off_account_rules.specs.Rows.{device_pool_in}
use Rattle.off_rows.specs.KeyBytes.{kind_of}
use Rattle.off_outside.specs.KeeperSeen.{KeeperSeen}
use Rattle.off_outside.specs.KeeperCalls.{Reads}
use Rattle.off_outside.proofs.KeeperLemmas.{reads_none}
use Rattle.off_readers.proofs.GatherLemmas.{Gathered}
use Rattle.off_readers.proofs.WalkLemmas.{OnlyAt, kind_begins}
use Rattle.off_runs.specs.Runs.{address}
use Rattle.off_runs.specs.Leases.{fitting, pools_by, pools_after, numbers_by, numbers_after, expiries_after, hubs_after, lease_write, hub_write, Moves}
use Rattle.off_runs.specs.Reading.{no_ground}
use Rattle.off_runs.proofs.ReadLemmas.{after_append}
use Rattle.off_runs.proofs.NumberedRows.{IsOne, IsNone, kept, by_number, rows_read}
use Rattle.off_device_runs.specs.Ground.{expiry_in, end_held, ending, device_ground}
use Rattle.off_device_runs.specs.Reading.{pool_put, lease_put, pools_put, leases_put}
use Rattle.off_device_runs.proofs.SeenLemmas.{pools_sorted, pool_seen}
use Rattle.off_device_runs.proofs.WriteLemmas.{read_pool, put_pool, read_expiry, put_expiry}

-- ---- leases

abbrev lease_key : ℕ → Key
lease_key a = key.Device (address a)

lease_kind : (k : Key) (held : Row) → IsOne lease_key end_held lease_put expiries_after k held ⊎ IsNone lease_key end_held lease_put expiries_after k held
lease_kind (key.Device m) held = inl (record {
  number = m.0;
  is = refl;
  puts = λ was ws. ap (λ (by : ℕ → ℕ). expiries_after by ws) (by_number (end_held held) m.0 was);
  tests = λ n. refl;
})
lease_kind k held = inr (record { puts = refl; tests = λ n. refl })

kept_expiry : (a : ℕ) (o : Option Row) → kept end_held o 0 ≡ read_expiry a o
kept_expiry a None = refl
kept_expiry a (Some held) = sym (put_expiry a held)

-- ---- pools

pool_kind : (k : Key) (held : Row) → IsOne key.DevicePool fitting pool_put pools_after k held ⊎ IsNone key.DevicePool fitting pool_put pools_after k held
pool_kind (key.DevicePool m) held = inl (record { number = m; is = refl; puts = λ was ws. refl; tests = λ n. refl })
pool_kind k held = inr (record { puts = refl; tests = λ n. refl })

kept_pool : (n : ℕ) (o : Option Row) → kept fitting o None ≡ read_pool n o
kept_pool n None = refl
kept_pool n (Some held) = sym (put_pool n held)

-- ---- pools first, and then leases

pools_append : (by : ℕ → Option Pool) (ws vs : List Write) → pools_after by (ws ++ vs) ≡ pools_after (pools_after by ws) vs
pools_append by [] vs = refl
pools_append by (w ∷ ws) vs = pools_append (pools_by _ by) ws vs

-- what is taken for a lease is of no pool
no_pool_first : (k : Key) (held : Row) (by : ℕ → Option Pool) (es : List (Key × Row)) → pools_after by (filter_map lease_put es) ≡ by
    → pools_after by (filter_map lease_put ((k, held) ∷ es)) ≡ by
no_pool_first (key.Device a) held by es rest = rest
no_pool_first k held by es rest = rest

no_pools : (by : ℕ → Option Pool) (es : List (Key × Row)) → pools_after by (filter_map lease_put es) ≡ by
no_pools by [] = refl
no_pools by (e ∷ es) = no_pool_first e.0 e.1 by es (no_pools by es)

-- what is taken for a pool is of no lease and of no hub, and what is taken for a lease is of no hub
module _ (put : Write → Option (ℕ × ℕ)) where
  aside_pool : ((n : ℕ) (held : Row) → put (Put (key.Pool n) held) ≡ None) → (k : Key) (held : Row) (was : ℕ → ℕ) (es : List (Key × Row))
      → numbers_after put was (filter_map pool_put es) ≡ was → numbers_after put was (filter_map pool_put ((k, held) ∷ es)) ≡ was
  aside_pool none (key.DevicePool n) held was es rest = ap (λ o. numbers_after put (numbers_by o was) (filter_map pool_put es)) (none n held) ∙ rest
  aside_pool none k held was es rest = rest

  aside_pools : ((n : ℕ) (held : Row) → put (Put (key.Pool n) held) ≡ None) → (was : ℕ → ℕ) (es : List (Key × Row)) → numbers_after put was (filter_map pool_put es) ≡ was
  aside_pools none was [] = refl
  aside_pools none was (e ∷ es) = aside_pool none e.0 e.1 was es (aside_pools none was es)

  aside_lease : ((a : Ip4) (held : Row) → put (Put (key.Lease a) held) ≡ None) → (k : Key) (held : Row) (was : ℕ → ℕ) (es : List (Key × Row))
      → numbers_after put was (filter_map lease_put es) ≡ was → numbers_after put was (filter_map lease_put ((k, held) ∷ es)) ≡ was
  aside_lease none (key.Device a) held was es rest = ap (λ o. numbers_after put (numbers_by o was) (filter_map lease_put es)) (none a (ending (end_held held))) ∙ rest
  aside_lease none k held was es rest = rest

  aside_leases : ((a : Ip4) (held : Row) → put (Put (key.Lease a) held) ≡ None) → (was : ℕ → ℕ) (es : List (Key × Row)) → numbers_after put was (filter_map lease_put es) ≡ was
  aside_leases none was [] = refl
  aside_leases none was (e ∷ es) = aside_lease none e.0 e.1 was es (aside_leases none was es)

pools_read : (t : Tables) (n : ℕ) → pools_after (λ q. None) (pools_put t ++ leases_put t) n ≡ device_pool_in t n
pools_read t n =
    ap (λ (by : ℕ → Option Pool). by n) (pools_append (λ q. None) (pools_put t) (leases_put t) ∙ no_pools (pools_after (λ q. None) (pools_put t)) (map.entries t))
    ∙ rows_read key.DevicePool fitting pool_put pools_after (λ was. refl) pool_kind t None n
    ∙ kept_pool n (row_at t (key.DevicePool n))

leases_read : (t : Tables) (a : ℕ) → expiries_after (λ b. 0) (pools_put t ++ leases_put t) a ≡ expiry_in t a
leases_read t a =
    ap (λ (e : ℕ → ℕ). e a) (after_append lease_write (λ b. 0) (pools_put t) (leases_put t))
    ∙ ap (λ (e : ℕ → ℕ). expiries_after e (leases_put t) a) (aside_pools lease_write (λ n held. refl) (λ b. 0) (map.entries t))
    ∙ rows_read lease_key end_held lease_put expiries_after (λ was. refl) lease_kind t 0 a
    ∙ kept_expiry a (row_at t (lease_key a))

hubs_read : (t : Tables) → hubs_after (λ q. 0) (pools_put t ++ leases_put t) ≡ (λ q. 0)
hubs_read t =
    after_append hub_write (λ q. 0) (pools_put t) (leases_put t)
    ∙ aside_leases hub_write (λ a held. refl) (hubs_after (λ q. 0) (pools_put t)) (map.entries t)
    ∙ aside_pools hub_write (λ n held. refl) (λ q. 0) (map.entries t)

pub rows_move : (t : Tables) → Moves (pools_put t ++ leases_put t) (λ n. None) no_ground (device_ground t)
rows_move t = record {
  before_sorted = tt;
  before = λ n. refl;
  around = λ a h. absurd (omega (arith, h));
  homed = λ n h. absurd (omega (arith, h));
  after_sorted = pools_sorted t;
  after = λ n. pool_seen t n ∙ sym (pools_read t n);
  expiries = leases_read t;
  hubs = λ n. ap (λ (h : ℕ → ℕ). h n) (hubs_read t);
}

-- ---- the walks

not_pool : (k : Key) (held : Row) → ¬ (kind_of k ≡ 12) → pool_put (k, held) ≡ None
not_pool (key.DevicePool n) held other = absurd (other refl)
not_pool _ held other = refl

pub only_pools : OnlyAt 12 pool_put
only_pools = record { others = λ entry other. not_pool entry.0 entry.1 other }

not_lease : (k : Key) (held : Row) → ¬ (kind_of k ≡ 13) → lease_put (k, held) ≡ None
not_lease (key.Device a) held other = absurd (other refl)
not_lease _ held other = refl

pub only_leases : OnlyAt 13 lease_put
only_leases = record { others = λ entry other. not_lease entry.0 entry.1 other }

-- at a place below all keys of the kind nothing is gathered yet, behind what was there
pub none_yet : {kind : ℕ} {put : Key × Row → Option Write} → OnlyAt kind put → (was : List Write) (place : Key) (a : KeeperSeen) → kind_of place < kind
    → Reads (Gathered put (λ t. was ++ filter_map put (map.entries t)) was (Some place)) a a
none_yet only was place a lower = reads_none (λ t. ap (λ (v : List Write). was ++ v) (sym (kind_begins only place t lower)))
