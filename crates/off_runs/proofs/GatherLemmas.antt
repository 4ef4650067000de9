-- A new pool takes the expiries of the pools that are there, one by one.
use Rattle.std.proofs.Common.{◌≡◌, ℕ, ◌+◌, ◌<◌, ◌≤◌, max, min, Bool, true, false, cond, ◌&&◌, ◌||◌, nat_le, List, ◌++◌, length, take, get_or, refl, sym, ap, subst, ◌∙◌, arith}
use Rattle.std.proofs.lemmas.Bool.Decides.{nat_tests}
use Rattle.off_defs.specs.declared.tables.Pool.{Pool}
use Rattle.std.proofs.lemmas.List.Folds.{list_any-append, list_any_more}
use Rattle.off_runs.specs.Runs.{in_pool}
use Rattle.off_runs.specs.Held.{PoolHeld, HasLeases, expiry_at}
use Rattle.off_runs.specs.Changes.{Copied, CopiedAll, HasPart, is_between, surrounded, surrounds}

-- one address, by whether the pool has it, and those before
one_address : (b s : Bool) (e p f new : ℕ) → new ≡ cond b p f → (b ≡ true → p ≡ e) → f ≡ cond s e 0 → new ≡ cond (s || b) e 0
one_address true true e p f new is has was = is ∙ has refl
one_address true false e p f new is has was = is ∙ has refl
one_address false true e p f new is has was = is ∙ was
one_address false false e p f new is has was = is ∙ was

or_assoc : (a b c : Bool) → ((a || b) || c) ≡ (a || (b || c))
or_assoc true b c = refl
or_assoc false b c = refl

seen_more : (seen pools : List PoolHeld) (i : ℕ) (p : PoolHeld) (a : ℕ) → i < length pools → p ≡ get_or pools i p
    → (surrounded (seen ++ take i pools) a || in_pool p.pool a) ≡ surrounded (seen ++ take (i + 1) pools) a
seen_more seen pools i p a within is =
    ap (λ b. b || in_pool p.pool a) (list_any-append (surrounds a) seen (take i pools))
    ∙ or_assoc (surrounded seen a) (surrounded (take i pools) a) (in_pool p.pool a)
    ∙ ap (λ (q : PoolHeld). surrounded seen a || (surrounded (take i pools) a || in_pool q.pool a)) is
    ∙ ap (λ b. surrounded seen a || b) (sym (list_any_more (surrounds a) pools i p within))
    ∙ sym (list_any-append (surrounds a) seen (take (i + 1) pools))

pub copied_more : (pools : List PoolHeld) (i : ℕ) (p first old new : PoolHeld) → i < length pools → p ≡ get_or pools i p
    → CopiedAll pools (take i pools) first old → Copied p old new → CopiedAll pools (take (i + 1) pools) first new
copied_more pools i p first old new within is all one = record {
  same = record { number = one.same.number ∙ all.same.number; pool = one.same.pool ∙ all.same.pool; hub = one.same.hub ∙ all.same.hub };
  leases = λ expiry seen have before a inside.
      let inside_old : in_pool old.pool a ≡ true = ap (λ q. in_pool q a) (sym one.same.pool) ∙ inside in
      let has : HasLeases expiry p = subst (HasLeases expiry) (sym is) (have i p within) in
      one_address (in_pool p.pool a) (surrounded (seen ++ take i pools) a) (expiry a) (expiry_at p a) (expiry_at old a) (expiry_at new a)
      (one.leases a inside_old) (has a) (all.leases expiry seen have before a inside_old)
      ∙ ap (λ b. cond b (expiry a) 0) (seen_more seen pools i p a within is);
}

-- the addresses that two pools share lie between the greater first and the lesser last
shared : (a first last from to : ℕ) → first ≤ a → a ≤ last → is_between (max first from) (min last to) a ≡ (nat_le from a && nat_le a to)
shared a first last from to low high = grind (arith, nat_tests)

in_bounds : (pool : Pool) (a : ℕ) → in_pool pool a ≡ true → (pool.first.0 ≤ a) × (a ≤ pool.last.0)
in_bounds pool a inside = (grind (arith, nat_tests), grind (arith, nat_tests))

-- where pools share addresses, their expiries are copied; where they share none, all stay
pub copied_part : (other old : PoolHeld) (low high : ℕ) (to : List ℕ) → low ≡ max old.pool.first.0 other.pool.first.0 → high ≡ min old.pool.last.0 other.pool.last.0
    → HasPart low high other.pool.first.0 other.expiries old.pool.first.0 old.expiries to → Copied other old (record old { expiries = to })
copied_part other old low high to is_low is_high part = record {
  same = record { number = refl; pool = refl; hub = refl };
  leases = λ a inside.
      let bounds = in_bounds old.pool a inside in
      let both : is_between low high a ≡ in_pool other.pool a =
      ap (λ l. is_between l high a) is_low ∙ ap (λ h. is_between (max old.pool.first.0 other.pool.first.0) h a) is_high
      ∙ shared a old.pool.first.0 old.pool.last.0 other.pool.first.0 other.pool.last.0 bounds.0 bounds.1 in
      part a bounds.0 ∙ ap (λ b. cond b (expiry_at other a) (expiry_at old a)) both;
}
