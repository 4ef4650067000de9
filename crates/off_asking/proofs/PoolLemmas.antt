-- The pool of a message, among pools with their numbers, by how the message came.
use Rattle.std.proofs.Common.{◌≡◌, ℕ, ◌==◌, Bool, true, false, cond, ◌&&◌, List, [], ◌∷◌, Some, None, option_map, refl, sym, ap, ◌∙◌, subst, arith}
use Rattle.std.proofs.lemmas.Bool.Decides.{nat_tests}
use Rattle.std.specs.List.{find}
use Rattle.off_defs.specs.declared.tables.Pool.{Pool}
use Rattle.off_dhcp.specs.Datagram.{Received}
use Rattle.off_account_rules.specs.Rows.{has_address}
use Rattle.off_asking.specs.Asking.{ip, is_discover, is_request}
use Rattle.off_asking.specs.Choice.{is_renewal, numbered_among, pool_among}

abbrev Pools : Type 0
Pools = List (ℕ × Pool)

abbrev serves_by : Received → Bool → Bool → Pool → Bool
serves_by m direct renews pool = cond direct (renews && has_address pool (ip m.ciaddr)) (pool.relay.0 == m.giaddr)

by_cases : (m : Received) (es : Pools) (direct renews : Bool) → (m.giaddr == 0) ≡ direct → is_renewal m ≡ renews → numbered_among es m ≡ find (λ e. serves_by m direct renews e.1) es
by_cases m es direct renews d r =
    ap (λ b. find (λ (e : ℕ × Pool). serves_by m b (is_renewal m) e.1) es) d ∙ ap (λ b. find (λ (e : ℕ × Pool). serves_by m direct b e.1) es) r

pub relay_pool : (m : Received) (es : Pools) → (m.giaddr == 0) ≡ false → numbered_among es m ≡ find (λ e. e.1.relay.0 == m.giaddr) es
relay_pool m es d = by_cases m es false (is_renewal m) d refl

pub renewed_pool : (m : Received) (es : Pools) → (m.giaddr == 0) ≡ true → is_renewal m ≡ true → numbered_among es m ≡ find (λ e. has_address e.1 (ip m.ciaddr)) es
renewed_pool m es d r = by_cases m es true true d r

pub not_zero : (r g : ℕ) → r ≡ g → (r ≡ 0 → ⊥) → (g == 0) ≡ false
not_zero r g is never = subst (λ n. (n == 0) ≡ false) is (grind (arith, nat_tests, never))

pub zero_too : (r g : ℕ) → r ≡ g → r ≡ 0 → (g == 0) ≡ true
zero_too r g is none = let e : g ≡ 0 = sym is ∙ none in ap (λ n. n == 0) e

none_served : (es : Pools) → find (λ e. false) es ≡ None
none_served [] = refl
none_served (e ∷ es) = none_served es

pub no_pool : (m : Received) (es : Pools) → (m.giaddr == 0) ≡ true → is_renewal m ≡ false → numbered_among es m ≡ None
no_pool m es d r = by_cases m es true false d r ∙ none_served es

-- a DISCOVER renews nothing, so its pool is the one behind its relay
discovers_only : (m : Received) (b : Bool) → is_discover m ≡ true → (is_request m && b) ≡ false
discovers_only m b d = grind (arith, nat_tests)

pub discovered : (m : Received) (es : Pools) (pool : Pool) → is_discover m ≡ true → Some pool ≡ pool_among es m
    → option_map (λ (e : ℕ × Pool). e.1) (find (λ e. e.1.relay.0 == m.giaddr) es) ≡ Some pool
discovered m es pool d is =
    elim (m.giaddr == 0) as (λ b. (m.giaddr == 0) ≡ b → option_map (λ (e : ℕ × Pool). e.1) (find (λ e. e.1.relay.0 == m.giaddr) es) ≡ Some pool) [
      | true ↦ λ e. let none : pool_among es m ≡ None = ap (option_map (λ (e : ℕ × Pool). e.1)) (no_pool m es e (discovers_only m _ d)) in cc
      | false ↦ λ e. ap (option_map (λ (e : ℕ × Pool). e.1)) (sym (relay_pool m es e)) ∙ sym is
    ] refl
