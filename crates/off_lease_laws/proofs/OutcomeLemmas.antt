-- Each message has one of five outcomes.
use Rattle.std.proofs.Common.{◌≡◌, ℕ, true, false, cond, not, ◌&&◌, ◌||◌, Option, Some, None, is_none, option_map, option_and_then, refl, sym, ap, ◌∙◌}
use Rattle.std.proofs.lemmas.Bool.{and_parts, or_parts, or_left, or_right, not-false}
use Rattle.off_base.specs.declared.addresses.Ip4.{Ip4}
use Rattle.off_defs.specs.declared.tables.Site.{Site}
use Rattle.off_defs.specs.declared.tables.Pool.{Pool}
use Rattle.off_defs.specs.declared.tables.Lease.{Lease}
use Rattle.off_defs.specs.State.{Tables}
use Rattle.off_dhcp.specs.Datagram.{Received}
use Rattle.off_account_rules.specs.Rows.{passes, lease_in, has_address}
use Rattle.off_lease_rules.specs.declared.words.DhcpWord.{DhcpWord}
use Rattle.off_asking.specs.Asking.{client, is_discover, is_request, is_decline, is_release, asks, gives_back, named_address, at_address, is_selecting, form_of, claimed}
use Rattle.off_lease_rules.specs.Free.{case_of, choice, chosen_in}
use Rattle.off_asking.specs.Claims.{claims_own, claims_in_pool, refused_by}
use Rattle.off_lease_rules.specs.Rules.{rules_for}
use Rattle.off_lease_rules.specs.Steps.{offered, bound, set_aside, given_up, offer_to, offers, acknowledges, declines, releases, accepts, unless_refused, lease_step_for, lease_step}
use Rattle.off_asking.specs.Choice.{for_some}
use Rattle.off_lease_laws.specs.Outcomes.{Outcome, refusal, offering, binding, declining, releasing}
use Rattle.off_lease_laws.proofs.Tests.{second_false, second_true, some_of, held_claim}
use Rattle.off_lease_laws.proofs.RuleLemmas.{Unbroken, unbroken, refusals}

-- a reply where all is there
reply_there : (kind : ℕ) (m : Received) (sites : Option Site) (pools : Option Pool) (chosen : Option Ip4) (site : Site) (pool : Pool) (address : Ip4)
    → sites ≡ Some site → pools ≡ Some pool → chosen ≡ Some address
    → option_and_then (λ s. option_and_then (λ p. option_map (offer_to kind m s p) chosen) pools) sites ≡ Some (offer_to kind m site pool address)
reply_there kind m sites pools chosen site pool address e f g =
    ap (option_and_then (λ s. option_and_then (λ p. option_map (offer_to kind m s p) chosen) pools)) e
    ∙ ap (option_and_then (λ p. option_map (offer_to kind m site p) chosen)) f
    ∙ ap (option_map (offer_to kind m site pool)) g

module _ (t : Tables) (now : ℕ) (m : Received) where
  abbrev chosen : Option Ip4
  chosen = chosen_in t now m (case_of t m)

  abbrev lease : Option Lease
  lease = option_and_then (lease_in t) chosen

  -- which address is chosen
  for_discover : is_discover m ≡ true → chosen ≡ option_and_then (λ (pool : Pool). choice t now pool (case_of t m).held (at_address (named_address m))) (case_of t m).pool
  for_discover d = ap (λ b. cond b (option_and_then (λ (pool : Pool). choice t now pool (case_of t m).held (at_address (named_address m))) (case_of t m).pool) (claimed m)) d

  for_others : is_discover m ≡ false → chosen ≡ claimed m
  for_others d = ap (λ b. cond b (option_and_then (λ (pool : Pool). choice t now pool (case_of t m).held (at_address (named_address m))) (case_of t m).pool) (claimed m)) d

  offered_outcome : is_discover m ≡ true → Unbroken m (case_of t m) chosen → Outcome t now m (offers now m (case_of t m) chosen lease)
  unfolding case_of
  offered_outcome d u =
      let asking = or_left (is_discover m) (is_request m) d in
      let site = some_of (case_of t m).site (second_false (asks m) (is_none (case_of t m).site) asking u.site) in
      let pool = some_of (case_of t m).pool (second_false (asks m) (is_none (case_of t m).pool) (or_left (is_discover m) (is_request m) d) u.pool) in
      let address = some_of chosen (second_false (is_discover m) (is_none chosen) d u.full) in
      offering (record {
        site = site.0;
        pool = pool.0;
        address = address.0;
        site_is = site.1;
        pool_is = pool.1;
        asking = asking;
        chosen = sym (ap (option_and_then (λ (p : Pool). choice t now p (case_of t m).held (at_address (named_address m)))) pool.1) ∙ sym (for_discover d) ∙ address.1;
        said = refl;
        writes = ap (λ o. for_some (λ a. offered now (client m) (case_of t m).held a (option_and_then (lease_in t) o)) o) address.1;
        reply = reply_there 2 m (case_of t m).site (case_of t m).pool chosen site.0 pool.0 address.0 site.1 pool.1 address.1;
      })

  claim_held : claims_own m (case_of t m).held ≡ true → (address : Ip4) × (claimed m ≡ Some address) × ((case_of t m).held ≡ Some address)
  claim_held h = held_claim (claimed m) (case_of t m).held h

  claim_within : (pool : Pool) (address : Ip4) → (case_of t m).pool ≡ Some pool → claimed m ≡ Some address → claims_in_pool m (case_of t m).pool ≡ true → has_address pool address ≡ true
  claim_within pool address p a h =
      sym (ap (λ (o : Option Pool). passes (λ q. has_address q address) o) p)
      ∙ sym (ap (λ (o : Option Ip4). passes (λ b. passes (λ q. has_address q b) (case_of t m).pool) o) a)
      ∙ h

  bound_outcome : is_discover m ≡ false → is_request m ≡ true → Unbroken m (case_of t m) chosen → Outcome t now m (acknowledges now m (case_of t m) chosen)
  unfolding case_of
  bound_outcome d r u =
      let asking = or_right (is_discover m) (is_request m) r in
      let site = some_of (case_of t m).site (second_false (asks m) (is_none (case_of t m).site) asking u.site) in
      let pool = some_of (case_of t m).pool (second_false (asks m) (is_none (case_of t m).pool) (or_right (is_discover m) (is_request m) r) u.pool) in
      let right = and_parts (claims_own m (case_of t m).held) (claims_in_pool m (case_of t m).pool)
      (not-false (claims_own m (case_of t m).held && claims_in_pool m (case_of t m).pool)
      (second_false (is_request m) (not (claims_own m (case_of t m).held && claims_in_pool m (case_of t m).pool)) r u.own)) in
      let claim = claim_held right.0 in
      let address : chosen ≡ Some claim.0 = for_others d ∙ claim.1 in
      binding (record {
        site = site.0;
        pool = pool.0;
        address = claim.0;
        site_is = site.1;
        pool_is = pool.1;
        asking = asking;
        claim = claim.1;
        held = claim.2;
        within = claim_within pool.0 claim.0 pool.1 claim.1 right.1;
        said = refl;
        writes = ap (for_some (λ a. for_some (bound now (client m) a) (case_of t m).site)) address ∙ ap (for_some (bound now (client m) claim.0)) site.1;
        reply = reply_there 5 m (case_of t m).site (case_of t m).pool chosen site.0 pool.0 claim.0 site.1 pool.1 address;
      })

  -- who gives an address back holds it
  given_back : gives_back m ≡ true → Unbroken m (case_of t m) chosen → claims_own m (case_of t m).held ≡ true
  given_back g u =
      not-false (claims_own m (case_of t m).held)
      (second_false (gives_back m) (not (claims_own m (case_of t m).held)) g
      (or_parts (is_request m && not (is_selecting (form_of m)) && is_none (case_of t m).held) (gives_back m && not (claims_own m (case_of t m).held)) u.known).1)

  declined_outcome : is_discover m ≡ false → is_decline m ≡ true → Unbroken m (case_of t m) chosen → Outcome t now m (declines now m chosen)
  unfolding case_of
  declined_outcome d e u =
      let claim = claim_held (given_back (or_left (is_decline m) (is_release m) e) u) in
      declining (record {
        address = claim.0;
        claim = claim.1;
        held = claim.2;
        said = refl;
        writes = ap (for_some (set_aside now (client m))) (for_others d ∙ claim.1);
        reply = refl;
      })

  released_outcome : is_discover m ≡ false → gives_back m ≡ true → Unbroken m (case_of t m) chosen → Outcome t now m (releases m chosen)
  unfolding case_of
  released_outcome d g u =
      let claim = claim_held (given_back g u) in
      releasing (record {
        address = claim.0;
        claim = claim.1;
        held = claim.2;
        said = refl;
        writes = ap (for_some (given_up (client m))) (for_others d ∙ claim.1);
        reply = refl;
      })

  -- what is served and doesn't ask gives back
  gives_if_not_asks : is_discover m ≡ false → is_request m ≡ false → Unbroken m (case_of t m) chosen → gives_back m ≡ true
  gives_if_not_asks d r u =
      let served = not-false (asks m || gives_back m) u.served in
      let asks_not : asks m ≡ false = ap (λ b. b || is_request m) d ∙ r in
      second_true (asks m) (gives_back m) asks_not served

  accepted_outcome : Unbroken m (case_of t m) chosen → Outcome t now m (accepts now m (case_of t m) chosen lease)
  accepted_outcome u =
      elim (is_discover m) as (λ b. is_discover m ≡ b → Outcome t now m (cond b (offers now m (case_of t m) chosen lease)
      (cond (is_request m) (acknowledges now m (case_of t m) chosen) (cond (is_decline m) (declines now m chosen) (releases m chosen))))) [
        | true ↦ λ d. offered_outcome d u
        | false ↦ λ d.
            elim (is_request m) as (λ b. is_request m ≡ b → Outcome t now m (cond b (acknowledges now m (case_of t m) chosen) (cond (is_decline m) (declines now m chosen) (releases m chosen)))) [
              | true ↦ λ r. bound_outcome d r u
              | false ↦ λ r.
                  elim (is_decline m) as (λ b. is_decline m ≡ b → Outcome t now m (cond b (declines now m chosen) (releases m chosen))) [
                    | true ↦ λ e. declined_outcome d e u
                    | false ↦ λ e. released_outcome d (gives_if_not_asks d r u) u
                  ] refl
            ] refl
      ] refl

  pub outcome : Outcome t now m (lease_step t now m)
  unfolding lease_step lease_step_for
  outcome =
      elim (refused_by (rules_for m (case_of t m) chosen)) as (λ (o : Option DhcpWord). refused_by (rules_for m (case_of t m) chosen) ≡ o
      → Outcome t now m (unless_refused m (case_of t m) (accepts now m (case_of t m) chosen lease) o)) [
        | None ↦ λ e. accepted_outcome (unbroken m (case_of t m) chosen e)
        | Some w ↦ λ e. refusal (record { said = refusals m (case_of t m) chosen w e; writes = refl; reply = refl })
      ] refl
