-- What was kept for the ground before writes is kept for the ground after them.
use Rattle.std.proofs.Common.{◌≡◌, ℕ, ◌==◌, true, ◌||◌, T, List, [], ◌∷◌, Option, refl, sym, ap, subst, ◌∙◌}
use Rattle.std.proofs.lemmas.Cmp.{nat_cmp_total}
use Rattle.std.proofs.lemmas.List.Elements.{All-nil, All-weaker}
use Rattle.std.specs.List.{All, list_any}
use Rattle.std.specs.FinMap.{nat_cmp-IsAntisymmetric}
use Rattle.std.specs.FinMap.Entries as list
use Rattle.std.specs.Ordering.{nat_cmp}
use Rattle.off_defs.specs.declared.writes.Write.{Write}
use Rattle.off_defs.specs.declared.tables.Pool.{Pool}
use Rattle.off_runs.specs.Runs.{in_pool}
use Rattle.off_runs.specs.Held.{Ground, PoolHeld, heads, HasLeases, HasHub, KeepsPools}
use Rattle.off_runs.specs.Changes.{surrounded, numbered}
use Rattle.off_runs.specs.Shelf.{Shelved}
use Rattle.off_runs.specs.Leases.{LeasesTaken, HubsTaken, Moves, pools_after, expiries_after, hubs_after}

by_numbers : (n : ℕ) (ps : List PoolHeld) → list_any (λ (e : ℕ × Pool). e.0 == n) (heads ps) ≡ numbered ps n
by_numbers n [] = refl
by_numbers n (p ∷ ps) = ap (λ b. (p.number == n) || b) (by_numbers n ps)

by_heads : (a : ℕ) (ps : List PoolHeld) → list_any (λ (e : ℕ × Pool). in_pool e.1 a) (heads ps) ≡ surrounded ps a
by_heads a [] = refl
by_heads a (p ∷ ps) = ap (λ b. in_pool p.pool a || b) (by_heads a ps)

module _ (writes : List Write) (by : ℕ → Option Pool) (g k : Ground) (m : Moves writes by g k) where
  -- before the first write none is aside
  pub begun_shelved : (pools aside : List PoolHeld) → aside ≡ [] → KeepsPools pools g → Shelved g by pools aside
  begun_shelved pools aside none s = record {
    sorted = subst (λ (es : List (ℕ × Pool)). T (list.is_sorted nat_cmp es)) (sym s.heads_are) m.before_sorted;
    found = λ n. ap (list.find nat_cmp n) s.heads_are ∙ m.before n;
    leases = s.leases;
    before = subst (λ (ps : List PoolHeld). All (HasLeases g.expiry) ps) (sym none) (All-nil (HasLeases g.expiry));
    around = λ a lower.
        let here : surrounded pools a ≡ true = sym (by_heads a pools) ∙ ap (list_any (λ e. in_pool e.1 a)) s.heads_are ∙ m.around a lower in
        ap (λ b. b || surrounded aside a) here;
    hubs = s.hubs;
    hubs_before = subst (λ (ps : List PoolHeld). All (HasHub g.hub) ps) (sym none) (All-nil (HasHub g.hub));
    homed = λ n lower.
        let here : numbered pools n ≡ true = sym (by_numbers n pools) ∙ ap (list_any (λ e. e.0 == n)) s.heads_are ∙ m.homed n lower in
        ap (λ b. b || numbered aside n) here;
  }

  -- behind the last one
  pub applied_keeps : (shelf aside leased hubbed : List PoolHeld) → Shelved g (pools_after by writes) shelf aside → LeasesTaken writes shelf leased → HubsTaken writes leased hubbed → KeepsPools hubbed k
  applied_keeps shelf aside leased hubbed done taken homes =
      let same : heads shelf ≡ k.pools =
      list.same_entries nat_cmp nat_cmp_total nat_cmp-IsAntisymmetric (heads shelf) k.pools done.sorted m.after_sorted (λ q. done.found q ∙ sym (m.after q)) in record {
        heads_are = homes.heads_are ∙ taken.heads_are ∙ same;
        leases = All-weaker (HasLeases (expiries_after g.expiry writes)) (HasLeases k.expiry) (λ p has a inside. has a inside ∙ m.expiries a) hubbed
            (homes.leases (expiries_after g.expiry writes) (taken.leases g.expiry done.leases));
        hubs = All-weaker (HasHub (hubs_after g.hub writes)) (HasHub k.hub) (λ p has. has ∙ m.hubs p.number) hubbed (homes.hubs g.hub (taken.hubs g.hub done.hubs));
      }
