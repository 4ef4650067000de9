-- What walks over the tables find: the pools, the leases of their addresses, and their hubs.
use Rattle.std.proofs.Common.{◌≡◌, ℕ, ◌<◌, List, [], ◌∷◌, ◌++◌, Option, Some, None, refl, sym, ap, subst, ◌∙◌, append_assoc, arith, inl, inr, ◌⊎◌}
use Rattle.std.proofs.lemmas.List.{append-nil}
use Rattle.std.proofs.lemmas.List.Elements.{All-nil, All-weaker}
use Rattle.std.specs.List.{All, filter_map, cons_option}
use Rattle.std.specs.FinMap as map
use Rattle.off_defs.proofs.EntryLemmas.{first}
use Rattle.off_defs.specs.declared.keys.Key.{Key}
use Rattle.off_defs.specs.declared.keys.Key.TheVariants as key
use Rattle.off_defs.specs.declared.tables.Row.{Row}
use Rattle.off_defs.specs.declared.tables.Pool.{Pool}
use Rattle.off_defs.specs.declared.writes.Write.{Write}
use Rattle.off_defs.specs.declared.writes.Write.TheVariants.{Put}
use Rattle.off_defs.specs.State.{Tables}
use Rattle.off_defs.specs.Tables.{row_at, next_entry}
use Rattle.off_account_rules.specs.Rows.{pools, pool_in, pool_hub_in}
use Rattle.off_rows.specs.KeyBytes.{kind_of}
use Rattle.off_outside.specs.KeeperSeen.{KeeperSeen}
use Rattle.off_outside.specs.KeeperCalls.{Reads}
use Rattle.off_outside.proofs.KeeperLemmas.{reads_none}
use Rattle.off_readers.proofs.GatherLemmas.{Gathered}
use Rattle.off_readers.proofs.WalkLemmas.{OnlyAt, left_of, left_next, left_none, kind_begins, kind_ends}
use Rattle.off_runs.specs.Runs.{address}
use Rattle.off_runs.specs.Held.{PoolHeld, HasLeases, HasHub, KeepsPools}
use Rattle.off_runs.specs.Leases.{expiry_in, expiry_held, hub_held, ground, fitting, pools_after, numbers_by, numbers_after, expiries_after, hubs_after, lease_write, hub_write, LeasesTaken, HubsTaken, Moves}
use Rattle.off_runs.specs.Reading.{pool_put, lease_put, hub_put, pools_put, leases_put, hubs_put, no_ground, bare_ground, leased_ground}
use Rattle.off_runs.proofs.WriteLemmas.{read_pool, put_pool, read_expiry, put_expiry, read_hub, put_hub}
use Rattle.off_runs.proofs.SeenLemmas.{pools_sorted, pool_seen}
use Rattle.off_runs.proofs.NumberedRows.{IsOne, IsNone, kept, by_number, rows_read}

-- ---- leases

abbrev lease_key : ℕ → Key
lease_key a = key.Lease (address a)

lease_kind : (k : Key) (held : Row) → IsOne lease_key expiry_held lease_put expiries_after k held ⊎ IsNone lease_key expiry_held lease_put expiries_after k held
lease_kind (key.Lease m) held = inl (record {
  number = m.0;
  is = refl;
  puts = λ was ws. ap (λ (by : ℕ → ℕ). expiries_after by ws) (by_number (expiry_held held) m.0 was);
  tests = λ n. refl;
})
lease_kind k held = inr (record { puts = refl; tests = λ n. refl })

kept_expiry : (a : ℕ) (o : Option Row) → kept expiry_held o 0 ≡ read_expiry a o
kept_expiry a None = refl
kept_expiry a (Some held) = sym (put_expiry a held)

leases_read : (t : Tables) (a : ℕ) → expiries_after (λ b. 0) (leases_put t) a ≡ expiry_in t a
leases_read t a = rows_read lease_key expiry_held lease_put expiries_after (λ was. refl) lease_kind t 0 a ∙ kept_expiry a (row_at t (lease_key a))

-- ---- pools

pool_kind : (k : Key) (held : Row) → IsOne key.Pool fitting pool_put pools_after k held ⊎ IsNone key.Pool fitting pool_put pools_after k held
pool_kind (key.Pool m) held = inl (record { number = m; is = refl; puts = λ was ws. refl; tests = λ n. refl })
pool_kind k held = inr (record { puts = refl; tests = λ n. refl })

kept_pool : (n : ℕ) (o : Option Row) → kept fitting o None ≡ read_pool n o
kept_pool n None = refl
kept_pool n (Some held) = sym (put_pool n held)

pools_read : (t : Tables) (n : ℕ) → pools_after (λ q. None) (pools_put t) n ≡ pool_in t n
pools_read t n = rows_read key.Pool fitting pool_put pools_after (λ was. refl) pool_kind t None n ∙ kept_pool n (row_at t (key.Pool n))

-- a pool that is put is no lease and no hub
no_number_first : (put : Write → Option (ℕ × ℕ)) → ((n : ℕ) (held : Row) → put (Put (key.Pool n) held) ≡ None) → (k : Key) (held : Row) (was : ℕ → ℕ) (es : List (Key × Row))
    → numbers_after put was (filter_map pool_put es) ≡ was → numbers_after put was (filter_map pool_put ((k, held) ∷ es)) ≡ was
no_number_first put none (key.Pool n) held was es rest = ap (λ o. numbers_after put (numbers_by o was) (filter_map pool_put es)) (none n held) ∙ rest
no_number_first put none k held was es rest = rest

no_numbers : (put : Write → Option (ℕ × ℕ)) → ((n : ℕ) (held : Row) → put (Put (key.Pool n) held) ≡ None) → (was : ℕ → ℕ) (es : List (Key × Row))
    → numbers_after put was (filter_map pool_put es) ≡ was
no_numbers put none was [] = refl
no_numbers put none was (e ∷ es) = no_number_first put none e.0 e.1 was es (no_numbers put none was es)

pub pools_move : (t : Tables) → Moves (pools_put t) (λ n. None) no_ground (bare_ground t)
pools_move t = record {
  before_sorted = tt;
  before = λ n. refl;
  around = λ a h. absurd (omega (arith, h));
  homed = λ n h. absurd (omega (arith, h));
  after_sorted = pools_sorted t;
  after = λ n. pool_seen t n ∙ sym (pools_read t n);
  expiries = λ a. ap (λ (e : ℕ → ℕ). e a) (no_numbers lease_write (λ n held. refl) (λ b. 0) (map.entries t));
  hubs = λ n. ap (λ (h : ℕ → ℕ). h n) (no_numbers hub_write (λ m held. refl) (λ b. 0) (map.entries t));
}

-- ---- hubs

hub_kind : (k : Key) (held : Row) → IsOne key.PoolHub hub_held hub_put hubs_after k held ⊎ IsNone key.PoolHub hub_held hub_put hubs_after k held
hub_kind (key.PoolHub m) held = inl (record {
  number = m;
  is = refl;
  puts = λ was ws. ap (λ (by : ℕ → ℕ). hubs_after by ws) (by_number (hub_held held) m was);
  tests = λ n. refl;
})
hub_kind k held = inr (record { puts = refl; tests = λ n. refl })

kept_hub : (n : ℕ) (o : Option Row) → kept hub_held o 0 ≡ read_hub n o
kept_hub n None = refl
kept_hub n (Some held) = sym (put_hub n held)

hubs_read : (t : Tables) (n : ℕ) → hubs_after (λ q. 0) (hubs_put t) n ≡ pool_hub_in t n
hubs_read t n = rows_read key.PoolHub hub_held hub_put hubs_after (λ was. refl) hub_kind t 0 n ∙ kept_hub n (row_at t (key.PoolHub n))

pub none_kept : (pools : List PoolHeld) → pools ≡ [] → KeepsPools pools no_ground
none_kept pools none = subst (λ (ps : List PoolHeld). KeepsPools ps no_ground) (sym none) (record { heads_are = refl; leases = All-nil (HasLeases (λ a. 0)); hubs = All-nil (HasHub (λ n. 0)) })

-- ---- the walks

no_put : (k : Key) (held : Row) → ¬ (kind_of k ≡ 7) → lease_put (k, held) ≡ None
no_put (key.Lease a) held other = absurd (other refl)
no_put _ held other = refl

pub only_leases : OnlyAt 7 lease_put
only_leases = record { others = λ entry other. no_put entry.0 entry.1 other }

not_pool : (k : Key) (held : Row) → ¬ (kind_of k ≡ 6) → pool_put (k, held) ≡ None
not_pool (key.Pool n) held other = absurd (other refl)
not_pool _ held other = refl

pub only_pools : OnlyAt 6 pool_put
only_pools = record { others = λ entry other. not_pool entry.0 entry.1 other }

not_hub : (k : Key) (held : Row) → ¬ (kind_of k ≡ 11) → hub_put (k, held) ≡ None
not_hub (key.PoolHub n) held other = absurd (other refl)
not_hub _ held other = refl

pub only_hubs : OnlyAt 11 hub_put
only_hubs = record { others = λ entry other. not_hub entry.0 entry.1 other }

pub no_pools_yet : (place : Key) (found : List Write) (a : KeeperSeen) → kind_of place < 6 → found ≡ [] → Reads (Gathered pool_put pools_put found (Some place)) a a
no_pools_yet place found a lower none = reads_none (λ t.
    sym (ap (λ (v : List Write). v ++ left_of pool_put (Some place) t) none ∙ kind_begins only_pools place t lower))

pub after_append : (put : Write → Option (ℕ × ℕ)) (was : ℕ → ℕ) (ws vs : List Write) → numbers_after put was (ws ++ vs) ≡ numbers_after put (numbers_after put was ws) vs
after_append put was [] vs = refl
after_append put was (w ∷ ws) vs = after_append put (numbers_by (put w) was) ws vs

pub leases_then : (ws vs : List Write) (first old new : List PoolHeld) → LeasesTaken ws first old → LeasesTaken vs old new → LeasesTaken (ws ++ vs) first new
leases_then ws vs first old new before more = record {
  heads_are = more.heads_are ∙ before.heads_are;
  hubs = λ hub all. more.hubs hub (before.hubs hub all);
  leases = λ expiry all. subst (λ (e : ℕ → ℕ). All (HasLeases e) new) (sym (after_append lease_write expiry ws vs)) (more.leases (expiries_after expiry ws) (before.leases expiry all));
}

pub hubs_then : (ws vs : List Write) (first old new : List PoolHeld) → HubsTaken ws first old → HubsTaken vs old new → HubsTaken (ws ++ vs) first new
hubs_then ws vs first old new before more = record {
  heads_are = more.heads_are ∙ before.heads_are;
  leases = λ expiry all. more.leases expiry (before.leases expiry all);
  hubs = λ hub all. subst (λ (h : ℕ → ℕ). All (HasHub h) new) (sym (after_append hub_write hub ws vs)) (more.hubs (hubs_after hub ws) (before.hubs hub all));
}

joined : (given : Option Write) (xs ys : List Write) → xs ++ cons_option given ys ≡ (xs ++ cons_option given []) ++ ys
joined None xs ys = ap (λ (v : List Write). v ++ ys) (sym (append-nil xs))
joined (Some x) xs ys = sym (append_assoc xs (x ∷ []) ys)

-- what a walk for the rows of one kind has put, and what is left of it, are all of them
module _ (kind : ℕ) (put : Key × Row → Option Write) (only : OnlyAt kind put) (Taken : List Write → List PoolHeld → List PoolHeld → Type 0) where
  pub record TakenUpTo (start now : List PoolHeld) (place : Key) (t : Tables) : Type 0 where
    pub taken : List Write
    pub all : filter_map put (map.entries t) ≡ taken ++ left_of put (Some place) t
    pub done : Taken taken start now

  pub none_yet : ((ps : List PoolHeld) → Taken [] ps ps) → (place : Key) (pools : List PoolHeld) (t : Tables) → kind_of place < kind → TakenUpTo pools pools place t
  none_yet nothing place pools t lower = record { taken = []; all = sym (kind_begins only place t lower); done = nothing pools }

  pub one_more : ((ws vs : List Write) (first old new : List PoolHeld) → Taken ws first old → Taken vs old new → Taken (ws ++ vs) first new)
      → (start old new : List PoolHeld) (place : Key) (entry : Key × Row) (t : Tables) → TakenUpTo start old place t → Some entry ≡ next_entry (Some place) t
      → Taken (cons_option (put entry) []) old new → TakenUpTo start new entry.0 t
  one_more join start old new place entry t so_far next one = record {
    taken = so_far.taken ++ cons_option (put entry) [];
    all =
        so_far.all ∙ ap (λ (v : List Write). so_far.taken ++ v) (left_next put (Some place) entry t next)
        ∙ joined (put entry) so_far.taken (left_of put (Some entry.0) t);
    done = join so_far.taken (cons_option (put entry) []) start old new so_far.done one;
  }

  ended : (start now : List PoolHeld) (place : Key) (t : Tables) → TakenUpTo start now place t → left_of put (Some place) t ≡ [] → Taken (filter_map put (map.entries t)) start now
  ended start now place t so_far none =
      subst (λ (ws : List Write). Taken ws start now) (sym (so_far.all ∙ ap (λ (v : List Write). so_far.taken ++ v) none ∙ append-nil so_far.taken)) so_far.done

  pub at_end : (start now : List PoolHeld) (place : Key) (t : Tables) → TakenUpTo start now place t → None ≡ next_entry (Some place) t → Taken (filter_map put (map.entries t)) start now
  at_end start now place t so_far none = ended start now place t so_far (left_none put (Some place) t none)

  pub past_kind : (start now : List PoolHeld) (place : Key) (entry : Key × Row) (t : Tables) → TakenUpTo start now place t → Some entry ≡ next_entry (Some place) t → kind < kind_of entry.0
      → Taken (filter_map put (map.entries t)) start now
  past_kind start now place entry t so_far next past = ended start now place t so_far (kind_ends only (Some place) entry t past next)

-- ---- all three

pub leased_keeps : (t : Tables) (pools leased : List PoolHeld) → KeepsPools pools (bare_ground t) → LeasesTaken (leases_put t) pools leased → KeepsPools leased (leased_ground t)
leased_keeps t pools leased s taken = record {
  heads_are = taken.heads_are ∙ s.heads_are;
  leases = All-weaker (HasLeases (expiries_after (λ a. 0) (leases_put t))) (HasLeases (expiry_in t)) (λ p has a inside. has a inside ∙ leases_read t a) leased (taken.leases (λ a. 0) s.leases);
  hubs = taken.hubs (λ n. 0) s.hubs;
}

pub hubbed_keeps : (t : Tables) (pools hubbed : List PoolHeld) → KeepsPools pools (leased_ground t) → HubsTaken (hubs_put t) pools hubbed → KeepsPools hubbed (ground t)
hubbed_keeps t pools hubbed s taken = record {
  heads_are = taken.heads_are ∙ s.heads_are;
  leases = taken.leases (expiry_in t) s.leases;
  hubs = All-weaker (HasHub (hubs_after (λ n. 0) (hubs_put t))) (HasHub (pool_hub_in t)) (λ p has. has ∙ hubs_read t p.number) hubbed (taken.hubs (λ n. 0) s.hubs);
}
