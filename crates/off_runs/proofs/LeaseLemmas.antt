-- What writes make of pools, of expiries and of hubs, one after another.
use Rattle.std.proofs.Common.{◌≡◌, ℕ, zero, suc, ◌+◌, ◌==◌, Bool, true, false, cond, List, [], ◌∷◌, take, drop, Option, Some, None, refl, sym, ap, subst, ◌∙◌, arith}
use Rattle.std.specs.List.{All, slice_get}
use Rattle.off_defs.specs.declared.writes.Write.{Write}
use Rattle.off_defs.specs.declared.tables.Pool.{Pool}
use Rattle.off_runs.specs.Runs.{in_pool}
use Rattle.off_runs.specs.Held.{PoolHeld, head, expiry_at, HasLeases, HasHub}
use Rattle.off_runs.specs.Changes.{EachBecomes, Wrote, Rehubbed}
use Rattle.off_runs.specs.Leases.{pool_write, lease_write, hub_write, pools_by, pools_after, numbers_by, numbers_after, expiries_after, hubs_after, puts_pool, pool_puts, LeasesTaken, HubsTaken}
use Rattle.off_runs.proofs.EachLemmas.{becomes_all, becomes_map}
use Rattle.off_runs.proofs.StandLemmas.{same_head, same_hub}

pub pools_more : (by : ℕ → Option Pool) (ws : List Write) (i : ℕ) (w : Write) → slice_get ws i ≡ Some w → pools_after by (take (i + 1) ws) ≡ pools_by (pool_write w) (pools_after by (take i ws))
pools_more by ws i w is = ap (λ n. pools_after by (take n ws)) (next i) ∙ go by ws i is
  where
    next : (n : ℕ) → n + 1 ≡ suc n
    next n = omega arith

    go : (b : ℕ → Option Pool) (xs : List Write) (k : ℕ) → slice_get xs k ≡ Some w → pools_after b (take (suc k) xs) ≡ pools_by (pool_write w) (pools_after b (take k xs))
    go b [] k e = cc
    go b (x ∷ xs) zero e = let same : x ≡ w = cc in ap (λ (y : Write). pools_by (pool_write y) b) same
    go b (x ∷ xs) (suc k) e = go (pools_by (pool_write x) b) xs k e

pub puts_left : (ws : List Write) (i : ℕ) (w : Write) → slice_get ws i ≡ Some w → pool_puts (drop i ws) ≡ puts_pool w + pool_puts (drop (i + 1) ws)
puts_left ws i w is = go ws i is ∙ ap (λ n. puts_pool w + pool_puts (drop n ws)) (next i)
  where
    next : (n : ℕ) → suc n ≡ n + 1
    next n = omega arith

    go : (xs : List Write) (k : ℕ) → slice_get xs k ≡ Some w → pool_puts (drop k xs) ≡ puts_pool w + pool_puts (drop (suc k) xs)
    go [] k e = cc
    go (x ∷ xs) zero e = let same : x ≡ w = cc in ap (λ (y : Write). puts_pool y + pool_puts xs) same
    go (x ∷ xs) (suc k) e = go xs k e

numbers_more : (put : Write → Option (ℕ × ℕ)) (was : ℕ → ℕ) (ws : List Write) (i : ℕ) (w : Write) → slice_get ws i ≡ Some w
    → numbers_after put was (take (i + 1) ws) ≡ numbers_by (put w) (numbers_after put was (take i ws))
numbers_more put was ws i w is = ap (λ n. numbers_after put was (take n ws)) (next i) ∙ go was ws i is
  where
    next : (n : ℕ) → n + 1 ≡ suc n
    next n = omega arith

    go : (b : ℕ → ℕ) (xs : List Write) (k : ℕ) → slice_get xs k ≡ Some w → numbers_after put b (take (suc k) xs) ≡ numbers_by (put w) (numbers_after put b (take k xs))
    go b [] k e = cc
    go b (x ∷ xs) zero e = let same : x ≡ w = cc in ap (λ (y : Write). numbers_by (put y) b) same
    go b (x ∷ xs) (suc k) e = go (numbers_by (put x) b) xs k e

-- a write of no lease
pub none_taken : (w : Write) (ps : List PoolHeld) → lease_write w ≡ None → LeasesTaken (w ∷ []) ps ps
none_taken w ps is = record {
  heads_are = refl;
  hubs = λ hub all. all;
  leases = λ expiry all. subst (λ o. All (HasLeases (numbers_by o expiry)) ps) (sym is) all;
}

written_at : (b : Bool) (x was is : ℕ) → was ≡ is → cond b x was ≡ cond b x is
written_at true x was is e = refl
written_at false x was is e = e

wrote_leases : (expiry : ℕ → ℕ) (a ends : ℕ) (x y : PoolHeld) → Wrote a ends x y → HasLeases expiry x → HasLeases (λ b. cond (b == a) ends (expiry b)) y
wrote_leases expiry a ends x y w has b inside =
    let before : in_pool x.pool b ≡ true = ap (λ p. in_pool p b) (sym w.same.pool) ∙ inside in
    w.leases b before ∙ written_at (b == a) ends (expiry_at x b) (expiry b) (has b before)

pub one_taken : (w : Write) (a ends : ℕ) (old new : List PoolHeld) → lease_write w ≡ Some (a, ends) → EachBecomes (Wrote a ends) old new → LeasesTaken (w ∷ []) old new
one_taken w a ends old new is each = record {
  heads_are = becomes_map (Wrote a ends) head (λ x y r. same_head x y r.same) old new each;
  hubs = λ hub all. becomes_all (Wrote a ends) (HasHub hub) (HasHub hub) (λ x y r. same_hub hub x y r.same) old new each all;
  leases = λ expiry all.
      subst (λ o. All (HasLeases (numbers_by o expiry)) new) (sym is)
      (becomes_all (Wrote a ends) (HasLeases expiry) (HasLeases (λ b. cond (b == a) ends (expiry b))) (wrote_leases expiry a ends) old new each all);
}

pub nothing_taken : (ps : List PoolHeld) → LeasesTaken [] ps ps
nothing_taken ps = record { heads_are = refl; hubs = λ hub all. all; leases = λ expiry all. all }

pub taken_more : (ws : List Write) (i : ℕ) (w : Write) (first old new : List PoolHeld) → slice_get ws i ≡ Some w → LeasesTaken (take i ws) first old → LeasesTaken (w ∷ []) old new
    → LeasesTaken (take (i + 1) ws) first new
taken_more ws i w first old new is before one = record {
  heads_are = one.heads_are ∙ before.heads_are;
  hubs = λ hub all. one.hubs hub (before.hubs hub all);
  leases = λ expiry all.
      subst (λ (e : ℕ → ℕ). All (HasLeases e) new) (sym (numbers_more lease_write expiry ws i w is)) (one.leases (expiries_after expiry (take i ws)) (before.leases expiry all));
}

-- the same of hubs: a write of none
pub no_hub_taken : (w : Write) (ps : List PoolHeld) → hub_write w ≡ None → HubsTaken (w ∷ []) ps ps
no_hub_taken w ps is = record {
  heads_are = refl;
  leases = λ expiry all. all;
  hubs = λ hub all. subst (λ o. All (HasHub (numbers_by o hub)) ps) (sym is) all;
}

rehubbed_hub : (hub : ℕ → ℕ) (n is : ℕ) (x y : PoolHeld) → Rehubbed n is x y → HasHub hub x → HasHub (λ m. cond (m == n) is (hub m)) y
rehubbed_hub hub n is x y r has = subst (λ (p : PoolHeld). p.hub ≡ cond (p.number == n) is (hub p.number)) (sym r) (written_at (x.number == n) is x.hub (hub x.number) has)

pub one_hub_taken : (w : Write) (n is : ℕ) (old new : List PoolHeld) → hub_write w ≡ Some (n, is) → EachBecomes (Rehubbed n is) old new → HubsTaken (w ∷ []) old new
one_hub_taken w n is old new e each = record {
  heads_are = becomes_map (Rehubbed n is) head (λ x y r. ap head r) old new each;
  leases = λ expiry all. becomes_all (Rehubbed n is) (HasLeases expiry) (HasLeases expiry) (λ x y r has. subst (HasLeases expiry) (sym r) has) old new each all;
  hubs = λ hub all.
      subst (λ o. All (HasHub (numbers_by o hub)) new) (sym e)
      (becomes_all (Rehubbed n is) (HasHub hub) (HasHub (λ m. cond (m == n) is (hub m))) (rehubbed_hub hub n is) old new each all);
}

pub no_hubs_taken : (ps : List PoolHeld) → HubsTaken [] ps ps
no_hubs_taken ps = record { heads_are = refl; leases = λ expiry all. all; hubs = λ hub all. all }

pub hubs_taken_more : (ws : List Write) (i : ℕ) (w : Write) (first old new : List PoolHeld) → slice_get ws i ≡ Some w → HubsTaken (take i ws) first old → HubsTaken (w ∷ []) old new
    → HubsTaken (take (i + 1) ws) first new
hubs_taken_more ws i w first old new is before one = record {
  heads_are = one.heads_are ∙ before.heads_are;
  leases = λ expiry all. one.leases expiry (before.leases expiry all);
  hubs = λ hub all.
      subst (λ (h : ℕ → ℕ). All (HasHub h) new) (sym (numbers_more hub_write hub ws i w is)) (one.hubs (hubs_after hub (take i ws)) (before.hubs hub all));
}

pub puts_more : (ws : List Write) (i : ℕ) (w : Write) → slice_get ws i ≡ Some w → pool_puts (take (i + 1) ws) ≡ pool_puts (take i ws) + puts_pool w
puts_more ws i w is = ap (λ n. pool_puts (take n ws)) (next i) ∙ go ws i is
  where
    next : (n : ℕ) → n + 1 ≡ suc n
    next n = omega arith

    go : (xs : List Write) (k : ℕ) → slice_get xs k ≡ Some w → pool_puts (take (suc k) xs) ≡ pool_puts (take k xs) + puts_pool w
    go [] k e = cc
    go (x ∷ xs) zero e = let same : x ≡ w = cc in let put = ap puts_pool same in omega (arith, put)
    go (x ∷ xs) (suc k) e = let rest = go xs k e in omega (arith, rest)
