-- What is kept stands for what is in the tables: what follows from it, and what keeps it.
use Rattle.std.proofs.Common.{◌≡◌, ℕ, Bool, true, false, cond, ◌&&◌, ◌||◌, nat_le, List, [], ◌∷◌, Option, Some, None, MatchOption, refl, sym, ap, subst, ◌∙◌}
use Rattle.std.specs.List.{AllByRecursion, find, list_any}
use Rattle.std.proofs.lemmas.List.Elements.{recursion_from_All}
use Rattle.std.specs.Option.{option_map}
use Rattle.off_defs.specs.declared.tables.Pool.{Pool}
use Rattle.off_runs.specs.Runs.{in_pool, is_open}
use Rattle.off_base.specs.declared.addresses.Ip4.{Ip4}
use Rattle.off_runs.specs.Held.{Ground, PoolHeld, head, heads, expiry_at, HasLeases, HasHub, KeepsPools, NoneOpen, IsLeastOpen, IsLeastOf}
use Rattle.off_runs.specs.Changes.{SamePool}

same_open : (b : Bool) (e f now : ℕ) → (b ≡ true → e ≡ f) → (b && nat_le e now) ≡ (b && nat_le f now)
same_open true e f now same = ap (λ n. nat_le n now) (same refl)
same_open false e f now same = refl

-- a pool that stays keeps its head, its hub and what its leases are
pub same_head : (x y : PoolHeld) → SamePool x y → head y ≡ head x
same_head x y s = let n = s.number in let p = s.pool in cc

pub same_hub : (hub : ℕ → ℕ) (x y : PoolHeld) → SamePool x y → HasHub hub x → HasHub hub y
same_hub hub x y s has = s.hub ∙ has ∙ ap hub (sym s.number)

-- the first pool that passes a test, by its head
find_heads : (t : ℕ × Pool → Bool) (ps : List PoolHeld) → find t (heads ps) ≡ option_map head (find (λ p. t (head p)) ps)
find_heads t [] = refl
find_heads t (p ∷ ps) = elim (t (head p)) as (λ b. cond b (Some (head p)) (find t (heads ps)) ≡ option_map head (cond b (Some p) (find (λ q. t (head q)) ps))) [ true ↦ refl | false ↦ find_heads t ps ]

found_all : {A : Type 0} (P : A → Type 0) (t : A → Bool) (xs : List A) (x : A) → AllByRecursion P xs → find t xs ≡ Some x → P x
found_all P t [] x all f = cc
found_all P t (y ∷ ys) x all f =
    elim (t y) as (λ b. cond b (Some y) (find t ys) ≡ Some x → P x) [
      | true ↦ λ e. let same : y ≡ x = cc in subst P same all.0
      | false ↦ λ e. found_all P t ys x all.1 e
    ] f

module _ (pools : List PoolHeld) (g : Ground) (s : KeepsPools pools g) where
  pub head_found : (t : ℕ × Pool → Bool) (o : Option PoolHeld) → o ≡ find (λ p. t (head p)) pools → find t g.pools ≡ option_map head o
  head_found t o is = ap (find t) (sym s.heads_are) ∙ find_heads t pools ∙ ap (option_map head) (sym is)

  pub number_found : (t : ℕ × Pool → Bool) (o : Option PoolHeld) → o ≡ find (λ p. t (head p)) pools → option_map (λ e. e.0) (find t g.pools) ≡ option_map (λ p. p.number) o
  number_found t None is = ap (option_map (λ e. e.0)) (head_found t None is)
  number_found t (Some p) is = ap (option_map (λ e. e.0)) (head_found t (Some p) is)

  pub pool_found : (t : ℕ × Pool → Bool) (o : Option PoolHeld) → o ≡ find (λ p. t (head p)) pools → option_map (λ e. e.1) (find t g.pools) ≡ option_map (λ p. p.pool) o
  pool_found t None is = ap (option_map (λ e. e.1)) (head_found t None is)
  pool_found t (Some p) is = ap (option_map (λ e. e.1)) (head_found t (Some p) is)

  pub hub_found : (t : ℕ × Pool → Bool) (o : Option PoolHeld) → o ≡ find (λ p. t (head p)) pools → option_map (λ e. g.hub e.0) (find t g.pools) ≡ option_map (λ p. p.hub) o
  hub_found t None is = ap (option_map (λ e. g.hub e.0)) (head_found t None is)
  hub_found t (Some p) is =
      ap (option_map (λ e. g.hub e.0)) (head_found t (Some p) is)
      ∙ ap Some (sym (found_all (HasHub g.hub) (λ q. t (head q)) pools p (recursion_from_All (HasHub g.hub) pools s.hubs) (sym is)))

  -- an address by the first pool that has it
  none_open : (now a : ℕ) (ps : List PoolHeld) → nat_le (g.expiry a) now ≡ false → list_any (λ e. is_open g.expiry now e.1 a) (heads ps) ≡ false
  none_open now a [] ended = refl
  none_open now a (p ∷ ps) ended = let rest = none_open now a ps ended in ap (λ b. (in_pool p.pool a && b) || list_any (λ e. is_open g.expiry now e.1 a) (heads ps)) ended ∙ aside (in_pool p.pool a) (list_any (λ e. is_open g.expiry now e.1 a) (heads ps)) rest
    where
      aside : (b c : Bool) → c ≡ false → ((b && false) || c) ≡ false
      aside true c e = e
      aside false c e = e

  abbrev open_by : ℕ → ℕ → Option PoolHeld → Bool
  open_by now a None = false
  open_by now a (Some p) = is_open g.expiry now p.pool a

  open_first : (now a : ℕ) (ps : List PoolHeld) → list_any (λ e. is_open g.expiry now e.1 a) (heads ps) ≡ open_by now a (find (λ p. in_pool p.pool a) ps)
  open_first now a [] = refl
  open_first now a (p ∷ ps) =
      elim (in_pool p.pool a) as (λ b. in_pool p.pool a ≡ b → ((b && nat_le (g.expiry a) now) || list_any (λ e. is_open g.expiry now e.1 a) (heads ps)) ≡ open_by now a (cond b (Some p) (find (λ q. in_pool q.pool a) ps))) [
        | true ↦ λ e.
            elim (nat_le (g.expiry a) now) as (λ c. nat_le (g.expiry a) now ≡ c → (c || list_any (λ e. is_open g.expiry now e.1 a) (heads ps)) ≡ (in_pool p.pool a && c)) [
              | true ↦ λ f. sym (ap (λ b. b && true) e)
              | false ↦ λ f. none_open now a ps f ∙ sym (ap (λ b. b && false) e)
            ] refl
        | false ↦ λ e. open_first now a ps
      ] refl

  pub open_found : (now a : ℕ) (o : Option PoolHeld) → o ≡ find (λ p. in_pool p.pool a) pools → list_any (λ e. is_open g.expiry now e.1 a) g.pools ≡ open_by now a o
  open_found now a o is = ap (list_any (λ e. is_open g.expiry now e.1 a)) (sym s.heads_are) ∙ open_first now a pools ∙ ap (open_by now a) (sym is)

  pub not_open : (now a : ℕ) → None ≡ find (λ p. in_pool p.pool a) pools → false ≡ list_any (λ e. is_open g.expiry now e.1 a) g.pools
  not_open now a is = sym (open_found now a None is)

  pub open_there : (now a : ℕ) (p : PoolHeld) → Some p ≡ find (λ p. in_pool p.pool a) pools → is_open (expiry_at p) now p.pool a ≡ list_any (λ e. is_open g.expiry now e.1 a) g.pools
  open_there now a p is =
      let has = found_all (HasLeases g.expiry) (λ q. in_pool q.pool a) pools p (recursion_from_All (HasLeases g.expiry) pools s.leases) (sym is) in
      same_open (in_pool p.pool a) (expiry_at p a) (g.expiry a) now (has a) ∙ sym (open_found now a (Some p) is)

  -- the least address by the expiries of its pool is the least by those of all
  least_by : (now : ℕ) (p : PoolHeld) (o : Option Ip4) → HasLeases g.expiry p → MatchOption o (NoneOpen (expiry_at p) now p.pool) (IsLeastOpen (expiry_at p) now p.pool)
      → MatchOption o (NoneOpen g.expiry now p.pool) (IsLeastOpen g.expiry now p.pool)
  least_by now p None has none = λ b. sym (same_open (in_pool p.pool b) (expiry_at p b) (g.expiry b) now (has b)) ∙ none b
  least_by now p (Some a) has least = record {
    free = sym (same_open (in_pool p.pool a.0) (expiry_at p a.0) (g.expiry a.0) now (has a.0)) ∙ least.free;
    least = λ b free. least.least b (same_open (in_pool p.pool b) (expiry_at p b) (g.expiry b) now (has b) ∙ free);
  }

  least_found : (now : ℕ) (t : ℕ × Pool → Bool) (pool : Pool) (p : PoolHeld) (o : Option Ip4) → Some p ≡ find (λ p. t (head p)) pools → option_map (λ e. e.1) (find t g.pools) ≡ Some pool
      → MatchOption o (NoneOpen (expiry_at p) now p.pool) (IsLeastOpen (expiry_at p) now p.pool) → MatchOption o (NoneOpen g.expiry now pool) (IsLeastOpen g.expiry now pool)
  least_found now t pool p o is there least =
      let here : option_map (λ e. e.1) (find t g.pools) ≡ Some p.pool = ap (option_map (λ e. e.1)) (head_found t (Some p) is) in
      let same : p.pool ≡ pool = cc in
      let has = found_all (HasLeases g.expiry) (λ q. t (head q)) pools p (recursion_from_All (HasLeases g.expiry) pools s.leases) (sym is) in
      subst (λ (q : Pool). MatchOption o (NoneOpen g.expiry now q) (IsLeastOpen g.expiry now q)) same (least_by now p o has least)

  none_found : (now : ℕ) (t : ℕ × Pool → Bool) (pool : Pool) → None ≡ find (λ p. t (head p)) pools → option_map (λ e. e.1) (find t g.pools) ≡ Some pool → NoneOpen g.expiry now pool
  none_found now t pool is there = let here : option_map (λ e. e.1) (find t g.pools) ≡ None = ap (option_map (λ e. e.1)) (head_found t None is) in cc

  -- the least of the pool that is found is the least of the ground's
  pub least_is : (now : ℕ) (t : ℕ × Pool → Bool) (o : Option PoolHeld) (least : Option Ip4) → o ≡ find (λ p. t (head p)) pools → IsLeastOf o now least
      → (pool : Pool) → option_map (λ e. e.1) (find t g.pools) ≡ Some pool → MatchOption least (NoneOpen g.expiry now pool) (IsLeastOpen g.expiry now pool)
  least_is now t None least is none pool there = subst (λ (r : Option Ip4). MatchOption r (NoneOpen g.expiry now pool) (IsLeastOpen g.expiry now pool)) (sym none) (none_found now t pool is there)
  least_is now t (Some p) least is of pool there = least_found now t pool p least is there of
