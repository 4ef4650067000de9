-- What the pools that are there and those aside have, as pools come and go.
use Rattle.std.proofs.Common.{◌≡◌, ℕ, zero, suc, ◌<◌, ◌==◌, Bool, true, false, cond, not, ◌||◌, T, List, [], ◌∷◌, ◌++◌, Option, Some, None, refl, sym, ap, subst, ◌∙◌, arith}
use Rattle.std.proofs.lemmas.Cmp.{nat_cmp_total}
use Rattle.std.proofs.lemmas.List.Elements.{recursion_from_All, All-from_recursion, All-append}
use Rattle.std.proofs.lemmas.List.Folds.{list_any-append}
use Rattle.std.specs.Cmp.{tied_itself}
use Rattle.std.specs.List.{AllByRecursion, find}
use Rattle.std.proofs.lemmas.Bool.{eqb-true}
use Rattle.std.specs.FinMap.{nat_cmp-IsAntisymmetric}
use Rattle.std.specs.FinMap.Entries as list
use Rattle.std.specs.Ordering.{nat_cmp, is_eq, eq_by_cmp, ordering_reverse}
use Rattle.std.specs.declared.cmp.Ordering.{Ordering}
use Rattle.std.specs.declared.cmp.Ordering.TheVariants.{Less, Equal, Greater}
use Rattle.off_defs.specs.declared.tables.Pool.{Pool}
use Rattle.off_runs.specs.Runs.{in_pool}
use Rattle.off_runs.specs.Held.{Ground, PoolHeld, heads, expiry_at, HasLeases, HasHub}
use Rattle.off_runs.specs.Changes.{Began, CopiedAll, HasGathered, surrounded, surrounds, numbered, is_numbered, hub_or_0}
use Rattle.off_runs.specs.Shelf.{left_of, gone_of, placed, with_pool, Shelved}
use Rattle.off_runs.proofs.WriteLemmas.{same_number}
use Rattle.off_runs.proofs.ListedLemmas.{left_all, gone_all, placed_all, none_lost, placed_more, heads_left, heads_placed}

turned : (o : Ordering) → is_eq (ordering_reverse o) ≡ is_eq o
turned Less = refl
turned Equal = refl
turned Greater = refl

eq_turned : (a b : ℕ) → eq_by_cmp nat_cmp a b ≡ eq_by_cmp nat_cmp b a
eq_turned a b = ap is_eq (nat_cmp_total.antisymm a b) ∙ turned (nat_cmp b a)

but_one : {X : Type 0} (b : Bool) (x : Option X) → cond (not b) x None ≡ cond b None x
but_one true x = refl
but_one false x = refl

still_around : (l gone o a : Bool) → (gone || l) ≡ o → (o || a) ≡ true → (l || (a || gone)) ≡ true
still_around true gone o a is h = refl
still_around false true o true is h = refl
still_around false true o false is h = refl
still_around false false o true is h = refl
still_around false false o false is h = cc

more_around : (one b a : Bool) → (b || a) ≡ true → ((one || b) || a) ≡ true
more_around true b a h = refl
more_around false b a h = h

one_by : {X : Type 0} (b : Bool) (x y : Option X) → cond b x (cond b None y) ≡ cond b x y
one_by true x y = refl
one_by false x y = refl

all_or_none : (b : Bool) (e : ℕ) → (0 < e → b ≡ true) → cond b e 0 ≡ e
all_or_none true e h = refl
all_or_none false zero h = refl
all_or_none false (suc k) h = let f : false ≡ true = h (omega arith) in cc

module _ (g : Ground) (by : ℕ → Option Pool) (ps aside : List PoolHeld) (s : Shelved g by ps aside) where
  -- a pool goes
  pub shelved_left : (n : ℕ) → Shelved g (with_pool by n None) (left_of n ps) (aside ++ gone_of n ps)
  shelved_left n =
      let is : heads (left_of n ps) ≡ list.where_key nat_cmp (λ x. not (eq_by_cmp nat_cmp n x)) (heads ps) = heads_left n ps s.sorted in record {
        sorted = subst (λ (es : List (ℕ × Pool)). T (list.is_sorted nat_cmp es)) (sym is) (list.is_sorted-where_key nat_cmp (λ x. not (eq_by_cmp nat_cmp n x)) (heads ps) s.sorted);
        found = λ q.
            ap (list.find nat_cmp q) is
            ∙ list.find-where_key nat_cmp (λ x. not (eq_by_cmp nat_cmp n x)) q (λ x e. ap (λ y. not (eq_by_cmp nat_cmp n y)) (sym (nat_cmp-IsAntisymmetric q x e))) (heads ps)
            ∙ ap (λ b. cond (not b) (list.find nat_cmp q (heads ps)) None) (eq_turned n q)
            ∙ but_one (eq_by_cmp nat_cmp q n) (list.find nat_cmp q (heads ps))
            ∙ ap (λ o. cond (eq_by_cmp nat_cmp q n) None o) (s.found q);
        leases = All-from_recursion (HasLeases g.expiry) (left_of n ps) (left_all (HasLeases g.expiry) n ps (recursion_from_All (HasLeases g.expiry) ps s.leases));
        before = All-append (HasLeases g.expiry) aside (gone_of n ps) s.before
            (All-from_recursion (HasLeases g.expiry) (gone_of n ps) (gone_all (HasLeases g.expiry) n ps (recursion_from_All (HasLeases g.expiry) ps s.leases)));
        around = λ a h.
            ap (λ b. surrounded (left_of n ps) a || b) (list_any-append (surrounds a) aside (gone_of n ps))
            ∙ still_around (surrounded (left_of n ps) a) (surrounded (gone_of n ps) a) (surrounded ps a) (surrounded aside a) (none_lost (surrounds a) n ps) (s.around a h);
        hubs = All-from_recursion (HasHub g.hub) (left_of n ps) (left_all (HasHub g.hub) n ps (recursion_from_All (HasHub g.hub) ps s.hubs));
        hubs_before = All-append (HasHub g.hub) aside (gone_of n ps) s.hubs_before
            (All-from_recursion (HasHub g.hub) (gone_of n ps) (gone_all (HasHub g.hub) n ps (recursion_from_All (HasHub g.hub) ps s.hubs)));
        homed = λ q h.
            ap (λ b. numbered (left_of n ps) q || b) (list_any-append (is_numbered q) aside (gone_of n ps))
            ∙ still_around (numbered (left_of n ps) q) (numbered (gone_of n ps) q) (numbered ps q) (numbered aside q) (none_lost (is_numbered q) n ps) (s.homed q h);
      }

  -- a pool comes
  pub shelved_placed : (f : PoolHeld) → by f.number ≡ None → HasLeases g.expiry f → HasHub g.hub f → Shelved g (with_pool by f.number (Some f.pool)) (placed f ps) aside
  shelved_placed f none leases hub =
      let is : heads (placed f ps) ≡ list.put nat_cmp f.number f.pool (heads ps) = heads_placed f ps (s.found f.number ∙ none) in record {
        sorted = subst (λ (es : List (ℕ × Pool)). T (list.is_sorted nat_cmp es)) (sym is) (list.is_sorted-put nat_cmp nat_cmp_total f.number f.pool (heads ps) s.sorted);
        found = λ q.
            ap (list.find nat_cmp q) is
            ∙ list.find-put nat_cmp nat_cmp_total q f.number f.pool (heads ps)
            ∙ ap (λ o. cond (eq_by_cmp nat_cmp q f.number) (Some f.pool) o) (s.found q);
        leases = All-from_recursion (HasLeases g.expiry) (placed f ps) (placed_all (HasLeases g.expiry) f ps leases (recursion_from_All (HasLeases g.expiry) ps s.leases));
        before = s.before;
        around = λ a h. ap (λ b. b || surrounded aside a) (placed_more (surrounds a) f ps) ∙ more_around (in_pool f.pool a) (surrounded ps a) (surrounded aside a) (s.around a h);
        hubs = All-from_recursion (HasHub g.hub) (placed f ps) (placed_all (HasHub g.hub) f ps hub (recursion_from_All (HasHub g.hub) ps s.hubs));
        hubs_before = s.hubs_before;
        homed = λ q h. ap (λ b. b || numbered aside q) (placed_more (is_numbered q) f ps) ∙ more_around (is_numbered q f) (numbered ps q) (numbered aside q) (s.homed q h);
      }

  -- one that took the expiries of all pools has all leases of its addresses
  pub has_gathered : (first second third : PoolHeld) → ((a : ℕ) → expiry_at first a ≡ 0) → CopiedAll ps ps first second → CopiedAll aside aside second third → HasLeases g.expiry third
  has_gathered first second third none one two a inside =
      let start : HasGathered g.expiry [] first = λ x h. none x in
      let all : HasGathered g.expiry (([] ++ ps) ++ aside) third = two.leases g.expiry ([] ++ ps) s.before (one.leases g.expiry [] s.leases start) in
      all a inside ∙ all_or_none (surrounded (([] ++ ps) ++ aside) a) (g.expiry a) (λ h. list_any-append (surrounds a) ps aside ∙ s.around a h)

pub same_by : (g : Ground) (by other : ℕ → Option Pool) (ps aside : List PoolHeld) → ((q : ℕ) → by q ≡ other q) → Shelved g by ps aside → Shelved g other ps aside
same_by g by other ps aside same s =
    record { sorted = s.sorted; found = λ n. s.found n ∙ same n; leases = s.leases; before = s.before; around = s.around; hubs = s.hubs; hubs_before = s.hubs_before; homed = s.homed }

own_number : (n : ℕ) (by : ℕ → Option Pool) → with_pool by n None n ≡ None
own_number n by = go (eq_by_cmp nat_cmp n n) (ap is_eq (tied_itself nat_cmp_total n))
  where
    go : (b : Bool) → b ≡ true → cond b None (by n) ≡ None
    go true e = refl
    go false e = cc

-- the hub of a number is that of a pool that has it, or else it's 0
hub_kept : (hub : ℕ → ℕ) (n : ℕ) (qs : List PoolHeld) → AllByRecursion (HasHub hub) qs → (0 < hub n → numbered qs n ≡ true) → hub_or_0 (find (is_numbered n) qs) ≡ hub n
hub_kept hub n [] all homed = none (hub n) refl
  where
    none : (k : ℕ) → hub n ≡ k → 0 ≡ hub n
    none zero e = sym e
    none (suc k) e = let lost : false ≡ true = homed (omega (arith, e)) in cc
hub_kept hub n (p ∷ ps) all homed =
    elim (p.number == n) as (λ b. (p.number == n) ≡ b → hub_or_0 (cond b (Some p) (find (is_numbered n) ps)) ≡ hub n) [
      | true ↦ λ e. all.0 ∙ ap hub (eqb-true p.number n e)
      | false ↦ λ e. hub_kept hub n ps all.1 (λ h. ap (λ b. b || numbered ps n) (sym e) ∙ homed h)
    ] refl

-- no pool of a list has a number that isn't found there
not_numbered : (n : ℕ) (ps : List PoolHeld) → list.find nat_cmp n (heads ps) ≡ None → numbered ps n ≡ false
not_numbered n [] e = refl
not_numbered n (p ∷ ps) e =
    elim (eq_by_cmp nat_cmp n p.number) as (λ b. eq_by_cmp nat_cmp n p.number ≡ b → cond b (Some p.pool) (list.find nat_cmp n (heads ps)) ≡ None → ((p.number == n) || numbered ps n) ≡ false) [
      | true ↦ λ is f. cc
      | false ↦ λ is f. ap (λ b. b || numbered ps n) (sym (same_number p.number n) ∙ eq_turned p.number n ∙ is) ∙ not_numbered n ps f
    ] refl e

-- what is aside, once a pool went, has the hub of its number
own_hub : (g : Ground) (by : ℕ → Option Pool) (n : ℕ) (ps aside : List PoolHeld) → Shelved g by ps aside → hub_or_0 (find (is_numbered n) (aside ++ gone_of n ps)) ≡ g.hub n
own_hub g by n ps aside s =
    let left = shelved_left g by ps aside s n in
    let none : numbered (left_of n ps) n ≡ false = not_numbered n (left_of n ps) (left.found n ∙ own_number n by) in
    hub_kept g.hub n (aside ++ gone_of n ps) (recursion_from_All (HasHub g.hub) (aside ++ gone_of n ps) left.hubs_before)
    (λ h. ap (λ b. b || numbered (aside ++ gone_of n ps) n) (sym none) ∙ left.homed n h)

-- a pool takes the place of another
pub shelved_taken : (g : Ground) (by : ℕ → Option Pool) (n : ℕ) (pool : Pool) (hub : ℕ) (ps aside : List PoolHeld) (first second third : PoolHeld)
    → Shelved g by ps aside → hub ≡ hub_or_0 (find (is_numbered n) (aside ++ gone_of n ps)) → Began n pool hub first
    → CopiedAll (left_of n ps) (left_of n ps) first second → CopiedAll (aside ++ gone_of n ps) (aside ++ gone_of n ps) second third
    → Shelved g (with_pool by n (Some pool)) (placed third (left_of n ps)) (aside ++ gone_of n ps)
shelved_taken g by n pool hub ps aside first second third s is_hub b one two =
    let left = shelved_left g by ps aside s n in
    let number : third.number ≡ n = two.same.number ∙ one.same.number ∙ b.number_is in
    let same : third.pool ≡ pool = two.same.pool ∙ one.same.pool ∙ b.pool_is in
    let hubs : HasHub g.hub third = two.same.hub ∙ one.same.hub ∙ b.hub_is ∙ is_hub ∙ own_hub g by n ps aside s ∙ ap g.hub (sym number) in
    same_by g (with_pool (with_pool by n None) third.number (Some third.pool)) (with_pool by n (Some pool)) (placed third (left_of n ps)) (aside ++ gone_of n ps)
    (λ q.
    ap (λ k. cond (eq_by_cmp nat_cmp q k) (Some third.pool) (with_pool by n None q)) number
    ∙ ap (λ (p : Pool). cond (eq_by_cmp nat_cmp q n) (Some p) (with_pool by n None q)) same
    ∙ one_by (eq_by_cmp nat_cmp q n) (Some pool) (by q))
    (shelved_placed g (with_pool by n None) (left_of n ps) (aside ++ gone_of n ps) left third
    (ap (with_pool by n None) number ∙ own_number n by)
    (has_gathered g (with_pool by n None) (left_of n ps) (aside ++ gone_of n ps) left first second third b.none one two)
    hubs)
