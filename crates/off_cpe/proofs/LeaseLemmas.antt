-- The lease of an address that is chosen is the device's own, or it has ended.
use Rattle.std.proofs.Common.{◌≡◌, ◌==◌, ℕ, ◌⊎◌, inl, inr, Bool, true, false, cond, ◌&&◌, nat_lt, nat_le, List, [], ◌∷◌, Option, Some, None, option_map, option_and_then, refl, sym, ap, subst, ◌∙◌, arith}
use Rattle.std.proofs.lemmas.Bool.{and_parts}
use Rattle.std.proofs.lemmas.Bool.Decides.{nat_tests}
use Rattle.std.specs.List.{find}
use Rattle.std.specs.Option.{option_or}
use Rattle.off_base.specs.declared.addresses.Ip4.{Ip4}
use Rattle.off_defs.specs.declared.tables.Pool.{Pool}
use Rattle.off_defs.specs.declared.tables.DeviceLease.{DeviceLease}
use Rattle.off_defs.specs.State.{Tables}
use Rattle.off_dhcp.specs.Datagram.{Received}
use Rattle.off_account_rules.specs.Rows.{passes, device_in, has_address}
use Rattle.off_asking.specs.Asking.{ip, is_discover, at_address, named_address, claimed}
use Rattle.off_asking.specs.Choice.{addresses, least_of, provided, choice_by}
use Rattle.off_behind.specs.Neighbours.{StandsIn}
use Rattle.off_cpe_rules.specs.Behind.{has_ended, is_free, chosen_in}
use Rattle.off_cpe_rules.specs.Steps.{is_bound, is_live_bound}
use Rattle.off_cpe_rules.specs.declared.cases.DeviceCase.{DeviceCase}
use Rattle.off_cpe.specs.Stages.{lease_at, own_lease}

found_passes : (p : Ip4 → Bool) (xs : List Ip4) (a : Ip4) → find p xs ≡ Some a → p a ≡ true
found_passes p [] a e = cc
found_passes p (x ∷ xs) a e =
    elim (p x) as (λ b. p x ≡ b → cond b (Some x) (find p xs) ≡ Some a → p a ≡ true) [
      | true ↦ λ h f. let same : a ≡ x = cc in ap p same ∙ h
      | false ↦ λ h f. found_passes p xs a f
    ] refl e

no_longer : (bound : Bool) (now expiry : ℕ) → nat_le expiry now ≡ true → (bound && nat_lt now expiry) ≡ false
no_longer true now expiry ended = grind (arith, nat_tests)
no_longer false now expiry ended = refl

module _ (t : Tables) (now : ℕ) where
  not_lasting : (lease : Option DeviceLease) → has_ended now lease ≡ true → false ≡ passes (is_live_bound now) lease
  not_lasting None ended = refl
  not_lasting (Some lease) ended = sym (no_longer (is_bound lease.hold) now lease.expiry.0 ended)

  free_of : (pool : Pool) (asked : Option Ip4) (a : Ip4) → option_or (provided (is_free t now pool) asked) (least_of (is_free t now pool) pool) ≡ Some a → is_free t now pool a ≡ true
  unfolding least_of
  free_of pool None a e = found_passes (is_free t now pool) (addresses pool) a e
  free_of pool (Some x) a e =
      elim (is_free t now pool x) as (λ b. is_free t now pool x ≡ b → option_or (cond b (Some x) None) (find (is_free t now pool) (addresses pool)) ≡ Some a → is_free t now pool a ≡ true) [
        | true ↦ λ h f. let same : a ≡ x = cc in ap (is_free t now pool) same ∙ h
        | false ↦ λ h f. found_passes (is_free t now pool) (addresses pool) a f
      ] refl e

  -- what is chosen of a pool is the device's own address, or free
  chosen_of : (pool : Pool) (own asked : Option Ip4) (a : Ip4) → choice_by (is_free t now pool) pool own asked ≡ Some a → (own ≡ Some a) ⊎ (is_free t now pool a ≡ true)
  chosen_of pool None asked a e = inr (free_of pool asked a e)
  chosen_of pool (Some o) asked a e =
      elim (has_address pool o) as (λ b. option_or (cond b (Some o) None) (option_or (provided (is_free t now pool) asked) (least_of (is_free t now pool) pool)) ≡ Some a
      → (Some o ≡ Some a) ⊎ (is_free t now pool a ≡ true)) [
        | true ↦ λ f. inl f
        | false ↦ λ f. inr (free_of pool asked a f)
      ] e

  ended_at : (own : Option Ip4) (pool : Pool) (a : Ip4) → (own ≡ Some a) ⊎ (is_free t now pool a ≡ true) → (own ≡ Some a) ⊎ (has_ended now (device_in t a) ≡ true)
  ended_at own pool a (inl mine) = inl mine
  ended_at own pool a (inr free) = inr (and_parts (has_address pool a) (has_ended now (device_in t a)) free).1

  chosen_by_pool : (own asked : Option Ip4) (pool : Option Pool) (a : Ip4) → option_and_then (λ (p : Pool). choice_by (is_free t now p) p own asked) pool ≡ Some a
      → (own ≡ Some a) ⊎ (has_ended now (device_in t a) ≡ true)
  chosen_by_pool own asked None a e = cc
  chosen_by_pool own asked (Some pool) a e = ended_at own pool a (chosen_of pool own asked a e)

  chosen_ended : (m : Received) (c : DeviceCase) (a : Ip4) → is_discover m ≡ true → Some a ≡ chosen_in t now m c → (c.own ≡ Some a) ⊎ (has_ended now (device_in t a) ≡ true)
  chosen_ended m c a d e =
      let asked = at_address (named_address m) in
      chosen_by_pool c.own asked c.pool a
      (ap (λ b. cond b (option_and_then (λ (p : Pool). choice_by (is_free t now p) p c.own asked) c.pool) (claimed m)) (sym d) ∙ sym e)

  -- where the address that is chosen isn't that of the device's lease, its lease has ended
  aside_ended : (own : Option Ip4) (a : Ip4) → (own ≡ Some a → ⊥) → (own ≡ Some a) ⊎ (has_ended now (device_in t a) ≡ true) → false ≡ passes (is_live_bound now) (device_in t a)
  aside_ended own a other (inl mine) = absurd (other mine)
  aside_ended own a other (inr ended) = not_lasting (device_in t a) ended

  own_at : (lease : Ip4 × DeviceLease) (a : Ip4) → (lease.0.0 == a.0) ≡ true → device_in t lease.0 ≡ Some lease.1 → Some lease.1 ≡ device_in t a
  own_at lease a same stands = let numbers : lease.0.0 ≡ a.0 = grind (arith, nat_tests) in sym stands ∙ ap (λ n. device_in t (ip n)) numbers

  other_at : (lease : Ip4 × DeviceLease) (a : Ip4) → (lease.0.0 == a.0) ≡ false → Some lease.0 ≡ Some a → ⊥
  other_at lease a differs e = let same : lease.0 ≡ a = cc in let numbers : lease.0.0 ≡ a.0 = ap (λ (x : Ip4). x.0) same in grind (arith, nat_tests)

  by_own : (own : Option (Ip4 × DeviceLease)) (a : Ip4) → StandsIn own t → (option_map (λ (lease : Ip4 × DeviceLease). lease.0) own ≡ Some a) ⊎ (has_ended now (device_in t a) ≡ true)
      → passes (is_live_bound now) (own_lease own (Some a)) ≡ passes (is_live_bound now) (device_in t a)
  by_own None a stands ended = aside_ended None a (λ e. cc) ended
  by_own (Some lease) a stands ended =
      elim (lease.0.0 == a.0) as (λ b. (lease.0.0 == a.0) ≡ b → passes (is_live_bound now) (cond b (Some lease.1) None) ≡ passes (is_live_bound now) (device_in t a)) [
        | true ↦ λ same. ap (passes (is_live_bound now)) (own_at lease a same stands)
        | false ↦ λ differs. aside_ended (Some lease.0) a (other_at lease a differs) ended
      ] refl

  -- the device's own lease says of an address that is chosen what its lease says
  pub own_lasts : (m : Received) (c : DeviceCase) (own : Option (Ip4 × DeviceLease)) (chosen : Option Ip4) → c.own ≡ option_map (λ lease. lease.0) own → StandsIn own t
      → chosen ≡ chosen_in t now m c → is_discover m ≡ true → passes (is_live_bound now) (own_lease own chosen) ≡ passes (is_live_bound now) (option_and_then (device_in t) chosen)
  own_lasts m c None None mine stands is d = refl
  own_lasts m c (Some lease) None mine stands is d = refl
  own_lasts m c own (Some a) mine stands is d =
      by_own own a stands (subst (λ (o : Option Ip4). (o ≡ Some a) ⊎ (has_ended now (device_in t a) ≡ true)) mine (chosen_ended m c a d is))
