-- Pools come and go, one after another. What goes is put aside until all have come, since its
-- leases may lie in a pool that comes.
use Rattle.std.specs.Prelude.{◌≡◌, ℕ, ◌<◌, Bool, true, false, ◌||◌, T, List, [], ◌∷◌, Option, cond}
use Rattle.std.specs.List.{All}
use Rattle.std.specs.Ordering.{nat_cmp, is_eq, eq_by_cmp}
use Rattle.std.specs.FinMap.Entries as list
use Rattle.off_defs.specs.declared.tables.Pool.{Pool}
use Rattle.off_runs.specs.Held.{Ground, PoolHeld, heads, HasLeases, HasHub}
use Rattle.off_runs.specs.Changes.{surrounded, numbered}

-- in a list by number: what is left without the pool of a number, that pool, whether it stands in
-- front, and the list with one more
abbrev pub left_of : ℕ → List PoolHeld → List PoolHeld
left_of n [] = []
left_of n (p ∷ ps) = list.by_order (nat_cmp n p.number) (p ∷ ps) ps (p ∷ left_of n ps)

abbrev pub gone_of : ℕ → List PoolHeld → List PoolHeld
gone_of n [] = []
gone_of n (p ∷ ps) = list.by_order (nat_cmp n p.number) [] (p ∷ []) (gone_of n ps)

abbrev pub is_first : ℕ → List PoolHeld → Bool
is_first n [] = false
is_first n (p ∷ ps) = is_eq (nat_cmp n p.number)

abbrev pub placed : PoolHeld → List PoolHeld → List PoolHeld
placed f [] = f ∷ []
placed f (p ∷ ps) =
    list.by_order (nat_cmp f.number p.number) (f ∷ p ∷ ps) (f ∷ p ∷ ps) (p ∷ placed f ps)

-- the pools by number, after the write of one
abbrev pub with_pool : (ℕ → Option Pool) → ℕ → Option Pool → ℕ → Option Pool
with_pool by n pool q = cond (eq_by_cmp nat_cmp q n) pool (by q)

-- The pools that are there are those by number, and with those aside they have all leases and all
-- hubs of the ground, which is what stood before the first write.
pub record Shelved (g : Ground) (by : ℕ → Option Pool) (pools aside : List PoolHeld) : Type 0 where
  pub sorted : T (list.is_sorted nat_cmp (heads pools))
  pub found : (n : ℕ) → list.find nat_cmp n (heads pools) ≡ by n
  pub leases : All (HasLeases g.expiry) pools
  pub before : All (HasLeases g.expiry) aside
  pub around : (a : ℕ) → 0 < g.expiry a → (surrounded pools a || surrounded aside a) ≡ true
  pub hubs : All (HasHub g.hub) pools
  pub hubs_before : All (HasHub g.hub) aside
  pub homed : (n : ℕ) → 0 < g.hub n → (numbered pools n || numbered aside n) ≡ true
