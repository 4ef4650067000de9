-- At which address a device's message aims: one that was chosen for it in its pool, or its own that it claims.
use Rattle.std.proofs.Common.{◌≡◌, ℕ, Bool, true, false, cond, not, ◌&&◌, ◌||◌, Option, Some, None, option_and_then, [], refl, sym, ap, subst, ◌∙◌}
use Rattle.std.proofs.lemmas.Bool.{and_parts, or_parts, not-false}
use Rattle.off_base.specs.declared.addresses.Ip4.{Ip4}
use Rattle.off_base.specs.declared.macs.Mac.{Mac}
use Rattle.off_defs.specs.declared.tables.Site.{Site}
use Rattle.off_defs.specs.declared.tables.Pool.{Pool}
use Rattle.off_defs.specs.State.{Tables}
use Rattle.off_dhcp.specs.Datagram.{Received}
use Rattle.off_account_rules.specs.Rows.{device_in, device_pools, devices}
use Rattle.off_asking.specs.Asking.{client, claimed, named_address, at_address, is_discover, is_request, is_decline, is_release, gives_back}
use Rattle.off_asking.specs.Choice.{pool_among, choice_by, for_some}
use Rattle.off_asking.specs.Claims.{is_served, claims_own, claims_in_pool, refused_by}
use Rattle.off_lease_laws.proofs.Tests.{held_claim, second_false}
use Rattle.off_cpe_rules.specs.Behind.{is_free, own_among, device_case, chosen_in}
use Rattle.off_cpe_rules.specs.Rules.{rules_for}
use Rattle.off_cpe_rules.specs.Steps.{offered, bound, set_aside, given_up, offers, acknowledges, declines, releases, accepts, unless_refused, device_step_for, step_behind}
use Rattle.off_cpe_rules.specs.declared.cases.DeviceCase.{DeviceCase}
use Rattle.off_cpe_rules.specs.declared.results.DeviceStep.{DeviceStep}
use Rattle.off_cpe_rules.specs.declared.words.DeviceWord.{DeviceWord}
use Rattle.off_cpe_rules.specs.declared.words.DeviceWord.TheVariants as word
use Rattle.off_cpe_laws.proofs.RuleLemmas.{unbroken}
use Rattle.off_cpe_laws.proofs.WriteLemmas.{chosen_fits}

-- by the pool of the message, and the address that is the device's own
pub data Aims (t : Tables) (now : ℕ) (modem : Mac) (m : Received) (among : Option Pool) (own : Option Ip4) (step : DeviceStep) : Type 0 where
  idle : step.writes ≡ [] → Aims t now modem m among own step
  offering : (pool : Pool) (address : Ip4) → is_discover m ≡ true → among ≡ Some pool
      → choice_by (is_free t now pool) pool own (at_address (named_address m)) ≡ Some address
      → step.writes ≡ offered now modem (client m) own address (device_in t address) → step.word ≡ word.Offer → Aims t now modem m among own step
  binding : (address : Ip4) (site : Site) → own ≡ Some address → step.writes ≡ bound now modem (client m) address site → step.word ≡ word.Ack
      → Aims t now modem m among own step
  resting : (address : Ip4) → is_decline m ≡ true → claimed m ≡ Some address → own ≡ Some address → step.writes ≡ set_aside now address
      → Aims t now modem m among own step
  freeing : (address : Ip4) → is_release m ≡ true → claimed m ≡ Some address → own ≡ Some address → step.writes ≡ given_up address
      → Aims t now modem m among own step

first_unbroken : (b : Bool) (said : DeviceWord) (rest : Option DeviceWord) → cond b (Some said) rest ≡ None → b ≡ false
first_unbroken true said rest e = cc
first_unbroken false said rest e = refl

-- who neither asks nor declines releases
third : (a b c d : Bool) → ((a || b) || (c || d)) ≡ true → a ≡ false → b ≡ false → c ≡ false → d ≡ true
third true b c d e p q r = cc
third false true c d e p q r = cc
third false false true d e p q r = cc
third false false false d e p q r = e

module _ (t : Tables) (now : ℕ) (modem : Mac) (m : Received) (c : DeviceCase) (chosen : Option Ip4)
    (chooses : is_discover m ≡ true → chosen ≡ option_and_then (λ (pool : Pool). choice_by (is_free t now pool) pool c.own (at_address (named_address m))) c.pool)
    (claims : is_discover m ≡ false → chosen ≡ claimed m) where
  abbrev A : DeviceStep → Type 0
  A step = Aims t now modem m c.pool c.own step

  offer_aims : is_discover m ≡ true → (o : Option Ip4) → chosen ≡ o → A (offers now modem m c o (option_and_then (device_in t) o))
  offer_aims d None e = idle refl
  offer_aims d (Some address) e = by_pool c.pool refl (sym (chooses d) ∙ e)
    where
      by_pool : (p : Option Pool) → c.pool ≡ p → option_and_then (λ (pool : Pool). choice_by (is_free t now pool) pool c.own (at_address (named_address m))) p ≡ Some address
          → A (offers now modem m c (Some address) (device_in t address))
      by_pool None is f = cc
      by_pool (Some pool) is f = offering pool address d is f refl refl

  -- a claim of its own
  own_is : (o : Option Ip4) (address : Ip4) → claimed m ≡ o → o ≡ Some address → claims_own m c.own ≡ true → c.own ≡ Some address
  own_is o address is e h =
      let found = held_claim (claimed m) c.own h in
      let same : ◌≡◌ {A = Option Ip4} (Some found.0) (Some address) = sym found.1 ∙ is ∙ e in
      found.2 ∙ same

  bind_aims : claims_own m c.own ≡ true → (o : Option Ip4) → claimed m ≡ o → (site : Option Site) → c.site ≡ site → A (acknowledges now modem m c o)
  bind_aims h None is site there = idle refl
  bind_aims h (Some address) is None there = idle (ap (λ (s : Option Site). for_some (bound now modem (client m) address) s) there)
  bind_aims h (Some address) is (Some site) there =
      binding address site (own_is (Some address) address is refl h) (ap (λ (s : Option Site). for_some (bound now modem (client m) address) s) there) refl

  decline_aims : is_decline m ≡ true → claims_own m c.own ≡ true → (o : Option Ip4) → claimed m ≡ o → A (declines now o)
  decline_aims k h None is = idle refl
  decline_aims k h (Some address) is = resting address k is (own_is (Some address) address is refl h) refl

  release_aims : is_release m ≡ true → claims_own m c.own ≡ true → (o : Option Ip4) → claimed m ≡ o → A (releases o)
  release_aims k h None is = idle refl
  release_aims k h (Some address) is = freeing address k is (own_is (Some address) address is refl h) refl

  by_release : (b : Bool) → is_decline m ≡ b → is_discover m ≡ false → is_request m ≡ false → refused_by (rules_for m c chosen) ≡ None
      → A (cond b (declines now chosen) (releases chosen))
  by_release true k d r none =
      let u = unbroken m c chosen none in
      let h = not-false (claims_own m c.own) (second_false (gives_back m) (not (claims_own m c.own)) (ap (λ b. b || is_release m) k) (or_parts _ _ u.known).1) in
      subst (λ (o : Option Ip4). A (declines now o)) (sym (claims d)) (decline_aims k h (claimed m) refl)
  by_release false k d r none =
      let u = unbroken m c chosen none in
      let served = not-false (is_served m) (first_unbroken (not (is_served m)) _ _ none) in
      let released : is_release m ≡ true = third (is_discover m) (is_request m) (is_decline m) (is_release m) served d r k in
      let back : gives_back m ≡ true = ap (λ b. is_decline m || b) released ∙ or_true (is_decline m) in
      let h = not-false (claims_own m c.own) (second_false (gives_back m) (not (claims_own m c.own)) back (or_parts _ _ u.known).1) in
      subst (λ (o : Option Ip4). A (releases o)) (sym (claims d)) (release_aims released h (claimed m) refl)
    where
      or_true : (b : Bool) → (b || true) ≡ true
      or_true true = refl
      or_true false = refl

  by_request : (b : Bool) → is_request m ≡ b → is_discover m ≡ false → refused_by (rules_for m c chosen) ≡ None
      → A (cond b (acknowledges now modem m c chosen) (cond (is_decline m) (declines now chosen) (releases chosen)))
  by_request true r d none =
      let u = unbroken m c chosen none in
      let both = not-false (claims_own m c.own && claims_in_pool m c.pool) (second_false (is_request m) (not (claims_own m c.own && claims_in_pool m c.pool)) r u.own) in
      subst (λ (o : Option Ip4). A (acknowledges now modem m c o)) (sym (claims d))
      (bind_aims (and_parts (claims_own m c.own) (claims_in_pool m c.pool) both).0 (claimed m) refl c.site refl)
  by_request false r d none = by_release (is_decline m) refl d r none

  accept_aims : (b : Bool) → is_discover m ≡ b → refused_by (rules_for m c chosen) ≡ None
      → A (cond b (offers now modem m c chosen (option_and_then (device_in t) chosen)) (cond (is_request m) (acknowledges now modem m c chosen) (cond (is_decline m) (declines now chosen) (releases chosen))))
  accept_aims true d none = offer_aims d chosen refl
  accept_aims false d none = by_request (is_request m) refl d none

  settled_by : (o : Option DeviceWord) → refused_by (rules_for m c chosen) ≡ o
      → A (unless_refused m c (accepts now modem m c chosen (option_and_then (device_in t) chosen)) o)
  settled_by None none = accept_aims (is_discover m) refl none
  settled_by (Some said) broken = idle refl

  settled_aims : A (device_step_for now modem m c chosen (option_and_then (device_in t) chosen))
  unfolding device_step_for
  settled_aims = settled_by (refused_by (rules_for m c chosen)) refl

chooses_in : (t : Tables) (now : ℕ) (m : Received) (c : DeviceCase) → is_discover m ≡ true
    → chosen_in t now m c ≡ option_and_then (λ (pool : Pool). choice_by (is_free t now pool) pool c.own (at_address (named_address m))) c.pool
chooses_in t now m c d = ap (λ b. cond b (option_and_then (λ (pool : Pool). choice_by (is_free t now pool) pool c.own (at_address (named_address m))) c.pool) (claimed m)) d

pub aims : (t : Tables) (now : ℕ) (m : Received) (modem : Mac) → Aims t now modem m (pool_among (device_pools t) m) (own_among modem (client m) (devices t)) (step_behind t now m modem)
unfolding step_behind device_case
aims t now m modem =
    let c = device_case t now m modem in
    settled_aims t now modem m c (chosen_in t now m c) (chooses_in t now m c) (chosen_fits t now m c)
