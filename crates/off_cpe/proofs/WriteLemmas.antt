-- How many rows a message writes, and how many of them are elsewhere than at the device's own address.
use Rattle.std.proofs.Common.{◌≡◌, ◌==◌, ℕ, ◌≤◌, Bool, true, false, cond, not, ◌&&◌, ◌||◌, is_none, List, [], ◌∷◌, ◌++◌, length, Option, Some, None, option_map, refl, sym, ap, subst, ◌∙◌, arith, true≢false}
use Rattle.std.proofs.lemmas.Bool.{eq-eqb}
use Rattle.off_base.specs.declared.addresses.Ip4.{Ip4}
use Rattle.off_base.specs.declared.macs.Mac.{Mac}
use Rattle.off_defs.specs.declared.keys.Key.TheVariants as key
use Rattle.off_defs.specs.declared.writes.Write.{Write}
use Rattle.off_defs.specs.declared.writes.Write.TheVariants.{Drop}
use Rattle.off_defs.specs.declared.tables.DeviceHold.TheVariants.{Offered, Bound, Declined}
use Rattle.off_defs.specs.declared.tables.DeviceLease.{DeviceLease}
use Rattle.off_defs.specs.declared.tables.Site.{Site}
use Rattle.off_dhcp.specs.Datagram.{Received}
use Rattle.off_account_rules.specs.Rows.{passes}
use Rattle.off_account_rules.specs.Good.{is_address}
use Rattle.off_asking.specs.Asking.{client, is_discover, is_request, is_decline, gives_back, is_selecting, form_of, claimed}
use Rattle.off_asking.specs.Claims.{is_served, has_no_form, refused_by, claims_own, claims_in_pool, lacks_record, claims_wrongly}
use Rattle.off_behind.specs.Neighbours.{is_elsewhere, elsewhere}
use Rattle.off_cpe_rules.specs.Rules.{early, late, rules_for}
use Rattle.off_cpe_rules.specs.Steps.{is_live_bound, device_row, own_drop, own_elsewhere, offered, bound, device_step_for, accepts, refuses, offers, acknowledges, declines, releases, unless_refused}
use Rattle.off_asking.specs.Choice.{for_some}
use Rattle.off_cpe_rules.specs.declared.cases.DeviceCase.{DeviceCase}
use Rattle.off_cpe_rules.specs.declared.results.DeviceStep.{DeviceStep}
use Rattle.off_cpe_rules.specs.declared.words.DeviceWord.{DeviceWord}
use Rattle.off_cpe_rules.specs.declared.words.DeviceWord.TheVariants as word
use Rattle.off_cpe.specs.Calls.{most_elsewhere}
use Rattle.off_cpe.specs.Stages.{row_rules}
use Rattle.off_asking.proofs.ClaimLemmas.{refused_none}

abbrev pub IsFew : DeviceStep → Type 0
IsFew step = length step.writes ≤ 2

dropped : (address : Option Ip4) (write : Write) → length (own_drop address ++ write ∷ []) ≤ 2
dropped None write = omega arith
dropped (Some address) write = omega arith

unless_live : (live : Bool) (writes : List Write) → length writes ≤ 2 → length (cond live [] writes) ≤ 2
unless_live true writes few = omega arith
unless_live false writes few = few

offered_few : (now : ℕ) (modem device : Mac) (own : Option Ip4) (address : Ip4) (lease : Option DeviceLease) → length (offered now modem device own address lease) ≤ 2
offered_few now modem device own address lease = unless_live (passes (is_live_bound now) lease) _ (dropped (own_elsewhere address own) _)

for_some_few : {X : Type 0} (writes : X → List Write) (x : Option X) → ((y : X) → length (writes y) ≤ 2) → length (for_some writes x) ≤ 2
for_some_few writes None few = omega arith
for_some_few writes (Some x) few = few x

module _ (now : ℕ) (modem : Mac) (m : Received) (c : DeviceCase) (chosen : Option Ip4) (lease : Option DeviceLease) where
  offers_few : IsFew (offers now modem m c chosen lease)
  offers_few = for_some_few _ chosen (λ address. offered_few now modem (client m) c.own address lease)

  acknowledges_few : IsFew (acknowledges now modem m c chosen)
  acknowledges_few = for_some_few _ chosen (λ address. for_some_few _ c.site (λ site. omega arith))

  declines_few : IsFew (declines now chosen)
  declines_few = for_some_few _ chosen (λ address. omega arith)

  releases_few : IsFew (releases chosen)
  releases_few = for_some_few _ chosen (λ address. omega arith)

  either : (b : Bool) (x y : DeviceStep) → IsFew x → IsFew y → IsFew (cond b x y)
  either true x y few others = few
  either false x y few others = others

  accepts_few : IsFew (accepts now modem m c chosen lease)
  accepts_few =
      either (is_discover m) _ _ offers_few
      (either (is_request m) _ _ acknowledges_few (either (is_decline m) _ _ declines_few releases_few))

  unless_few : (step : DeviceStep) (word : Option DeviceWord) → IsFew step → IsFew (unless_refused m c step word)
  unless_few step None few = few
  unless_few step (Some word) few = omega arith

  pub settled_few : IsFew (device_step_for now modem m c chosen lease)
  unfolding device_step_for
  settled_few = unless_few (accepts now modem m c chosen lease) (refused_by (rules_for m c chosen)) accepts_few

-- ---- and how many of them are elsewhere than at the device's own address

is_own_address : (own : Option (Ip4 × DeviceLease)) (a : Ip4) → passes (is_address a) (option_map (λ (lease : Ip4 × DeviceLease). lease.0) own) ≡ passes (λ (lease : Ip4 × DeviceLease). is_address a lease.0) own
is_own_address None a = refl
is_own_address (Some lease) a = refl

first_aside : (own : Option (Ip4 × DeviceLease)) (write : Write) → length (elsewhere own (write ∷ [])) ≤ 1
first_aside own write = elim (is_elsewhere own write) as (λ b. length (cond b (write ∷ []) []) ≤ 1) [ true ↦ omega arith | false ↦ omega arith ]

none_aside : (own : Option (Ip4 × DeviceLease)) (write : Write) → is_elsewhere own write ≡ false → length (elsewhere own (write ∷ [])) ≤ 0
none_aside own write here = subst (λ b. length (cond b (write ∷ []) []) ≤ 0) (sym here) (omega arith)

dropped_aside : (lease : Ip4 × DeviceLease) (write : Write) → length (elsewhere (Some lease) (Drop (key.Device lease.0) ∷ write ∷ [])) ≤ 1
dropped_aside lease write =
    subst (λ b. length (cond (not b) (Drop (key.Device lease.0) ∷ elsewhere (Some lease) (write ∷ [])) (elsewhere (Some lease) (write ∷ []))) ≤ 1) (sym (eq-eqb lease.0.0 lease.0.0 refl))
    (first_aside (Some lease) write)

offered_aside : (now : ℕ) (modem device : Mac) (own : Option (Ip4 × DeviceLease)) (address : Ip4) (lease : Option DeviceLease)
    → length (elsewhere own (offered now modem device (option_map (λ (l : Ip4 × DeviceLease). l.0) own) address lease)) ≤ 1
offered_aside now modem device None address lease =
    elim (passes (is_live_bound now) lease) as (λ b. length (elsewhere None (cond b [] (device_row address (Offered modem device) 120 now ∷ []))) ≤ 1) [
      | true ↦ omega arith
      | false ↦ first_aside None (device_row address (Offered modem device) 120 now)
    ]
offered_aside now modem device (Some own) address lease =
    let put = device_row address (Offered modem device) 120 now in
    elim (passes (is_live_bound now) lease) as (λ b. length (elsewhere (Some own) (cond b [] (own_drop (own_elsewhere address (Some own.0)) ++ put ∷ []))) ≤ 1) [
      | true ↦ omega arith
      | false ↦
          elim (own.0.0 == address.0) as (λ b. length (elsewhere (Some own) (own_drop (cond (not b) (Some own.0) None) ++ put ∷ [])) ≤ 1) [
            | true ↦ first_aside (Some own) put
            | false ↦ dropped_aside own put
          ]
    ]

-- who passes the rules and asks for no address that is chosen claims its own
claims : (d r g o p s n : Bool) → d ≡ false → not ((d || r) || g) ≡ false → ((r && not s && n) || (g && not o)) ≡ false → (r && not (o && p)) ≡ false → o ≡ true
claims d r g true p s n e served lacks wrong = refl
claims d true g false p s n e served lacks wrong = absurd (true≢false wrong)
claims d false true false p s n e served lacks wrong = absurd (true≢false lacks)
claims true false false false p s n e served lacks wrong = absurd (true≢false e)
claims false false false false p s n e served lacks wrong = absurd (true≢false served)

late_pass : (a b d : Bool) (x y z : DeviceWord) → refused_by ((x, a) ∷ (y, b) ∷ (z, d) ∷ []) ≡ None → (b ≡ false) × (d ≡ false)
late_pass true b d x y z none = cc
late_pass false true d x y z none = cc
late_pass false false true x y z none = cc
late_pass false false false x y z none = (refl, refl)

first_passes : (x : DeviceWord) (a : Bool) (rules : List (DeviceWord × Bool)) → refused_by ((x, a) ∷ rules) ≡ None → a ≡ false
first_passes x true rules none = cc
first_passes x false rules none = refl

module _ (now : ℕ) (modem : Mac) (m : Received) (c : DeviceCase) (own : Option (Ip4 × DeviceLease)) (mine : c.own ≡ option_map (λ (lease : Ip4 × DeviceLease). lease.0) own) where
  abbrev Aside : DeviceStep → ℕ → Type 0
  Aside step n = length (elsewhere own step.writes) ≤ n

  claims_own_address : (chosen : Option Ip4) → refused_by (early m c) ≡ None → refused_by (late m c chosen) ≡ None → is_discover m ≡ false → claims_own m c.own ≡ true
  claims_own_address chosen early_none late_none d =
      let late_rules = late_pass (is_discover m && is_none chosen) (lacks_record m c.own) (claims_wrongly m c.own c.pool) word.PoolFull word.NoRecord word.NotYours late_none in
      claims (is_discover m) (is_request m) (gives_back m) (claims_own m c.own) (claims_in_pool m c.pool) (is_selecting (form_of m)) (is_none c.own) d
      (first_passes word.NotServed (not (is_served m)) ((word.Form, has_no_form m) ∷ row_rules m c) early_none) late_rules.0 late_rules.1

  at_own : (a : Ip4) → passes (is_address a) c.own ≡ true → passes (λ (lease : Ip4 × DeviceLease). is_address a lease.0) own ≡ true
  at_own a is = sym (is_own_address own a) ∙ ap (passes (is_address a)) (sym mine) ∙ is

  at_own_aside : (a : Ip4) (write : Write) → is_elsewhere own write ≡ not (passes (λ (lease : Ip4 × DeviceLease). is_address a lease.0) own) → passes (is_address a) c.own ≡ true
      → length (elsewhere own (write ∷ [])) ≤ 0
  at_own_aside a write same is = none_aside own write (same ∙ ap not (at_own a is))

  for_own : (writes : Ip4 → List Write) (chosen : Option Ip4) → passes (λ a. passes (is_address a) c.own) chosen ≡ true
      → ((a : Ip4) → passes (is_address a) c.own ≡ true → length (elsewhere own (writes a)) ≤ 0) → length (elsewhere own (for_some writes chosen)) ≤ 0
  for_own writes None is each = omega arith
  for_own writes (Some a) is each = each a is

  offers_aside : (chosen : Option Ip4) (lease : Option DeviceLease) → Aside (offers now modem m c chosen lease) 1
  offers_aside None lease = omega arith
  offers_aside (Some a) lease =
      subst (λ (o : Option Ip4). length (elsewhere own (offered now modem (client m) o a lease)) ≤ 1) (sym mine) (offered_aside now modem (client m) own a lease)

  bound_aside : (site : Option Site) (a : Ip4) → passes (is_address a) c.own ≡ true → length (elsewhere own (for_some (bound now modem (client m) a) site)) ≤ 0
  bound_aside None a is = omega arith
  bound_aside (Some site) a is = at_own_aside a (device_row a (Bound modem (client m)) site.lease now) refl is

  others_aside : (chosen : Option Ip4) → passes (λ a. passes (is_address a) c.own) chosen ≡ true
      → Aside (cond (is_request m) (acknowledges now modem m c chosen) (cond (is_decline m) (declines now chosen) (releases chosen))) 0
  others_aside chosen is =
      either_aside (is_request m) _ _ (for_own _ chosen is (bound_aside c.site))
      (either_aside (is_decline m) _ _ (for_own _ chosen is (λ a i. at_own_aside a (device_row a Declined 600 now) refl i))
      (for_own _ chosen is (λ a i. at_own_aside a (Drop (key.Device a)) refl i)))
    where
      either_aside : (b : Bool) (x y : DeviceStep) → Aside x 0 → Aside y 0 → Aside (cond b x y) 0
      either_aside true x y few others = few
      either_aside false x y few others = others

  accepts_aside : (chosen : Option Ip4) (lease : Option DeviceLease) → (is_discover m ≡ false → passes (λ a. passes (is_address a) c.own) chosen ≡ true)
      → Aside (accepts now modem m c chosen lease) (most_elsewhere m)
  accepts_aside chosen lease claimed_own =
      elim (is_discover m) as (λ b. is_discover m ≡ b → Aside (cond b (offers now modem m c chosen lease)
      (cond (is_request m) (acknowledges now modem m c chosen) (cond (is_decline m) (declines now chosen) (releases chosen)))) (cond b 1 0)) [
        | true ↦ λ d. offers_aside chosen lease
        | false ↦ λ d. others_aside chosen (claimed_own d)
      ] refl

  refused_aside : (word : DeviceWord) → Aside (refuses m c word) (most_elsewhere m)
  refused_aside word = omega arith

  unless_aside : (chosen : Option Ip4) (lease : Option DeviceLease) (word : Option DeviceWord) → refused_by (rules_for m c chosen) ≡ word → refused_by (early m c) ≡ None → (is_discover m ≡ false → chosen ≡ claimed m)
      → Aside (unless_refused m c (accepts now modem m c chosen lease) word) (most_elsewhere m)
  unless_aside chosen lease (Some word) is passed claims_it = refused_aside word
  unless_aside chosen lease None is passed claims_it =
      accepts_aside chosen lease (λ d. ap (λ (o : Option Ip4). passes (λ a. passes (is_address a) c.own) o) (claims_it d)
      ∙ claims_own_address chosen passed (sym (refused_none (early m c) (late m c chosen) passed) ∙ is) d)

  pub settled_aside : (chosen : Option Ip4) (lease : Option DeviceLease) → refused_by (early m c) ≡ None → (is_discover m ≡ false → chosen ≡ claimed m)
      → Aside (device_step_for now modem m c chosen lease) (most_elsewhere m)
  unfolding device_step_for
  settled_aside chosen lease passed claims_it = unless_aside chosen lease (refused_by (rules_for m c chosen)) refl passed claims_it
