-- What is decided by a part of the rules is what is decided by all.
use Rattle.std.proofs.Common.{◌≡◌, ℕ, Bool, true, false, cond, [], ◌∷◌, ◌++◌, Option, Some, None, option_and_then, refl, sym, ap, ◌∙◌}
use Rattle.off_base.specs.declared.addresses.Ip4.{Ip4}
use Rattle.off_base.specs.declared.macs.Mac.{Mac}
use Rattle.off_defs.specs.declared.tables.DeviceHold.TheVariants.{Offered}
use Rattle.off_defs.specs.declared.tables.DeviceLease.{DeviceLease}
use Rattle.off_defs.specs.State.{Tables}
use Rattle.off_dhcp.specs.Datagram.{Received}
use Rattle.off_account_rules.specs.Rows.{passes, device_in, device_pools}
use Rattle.off_asking.specs.Asking.{client, is_discover, is_request, is_decline}
use Rattle.off_asking.specs.Choice.{pool_among, for_some}
use Rattle.off_asking.specs.Claims.{refused_by}
use Rattle.off_asking.proofs.ClaimLemmas.{refused_none, refused_some, refused_passes}
use Rattle.off_cpe_rules.specs.Behind.{device_case, chosen_in}
use Rattle.off_cpe_rules.specs.Rules.{early, late, rules_for}
use Rattle.off_cpe_rules.specs.Steps.{is_live_bound, own_drop, own_elsewhere, device_row, reply_for, device_step_for, device_step_in, step_behind, accepts, offers, acknowledges, declines, releases, refuses, reply_to_refused, step_by, unless_refused}
use Rattle.off_cpe_rules.specs.declared.cases.DeviceCase.{DeviceCase}
use Rattle.off_cpe_rules.specs.declared.results.DeviceStep.{DeviceStep}
use Rattle.off_cpe_rules.specs.declared.words.DeviceWord.{DeviceWord}
use Rattle.off_cpe_rules.specs.declared.words.DeviceWord.TheVariants as word
use Rattle.off_cpe.specs.Stages.{own_rules, row_rules}

-- who is refused by what it says itself gets no reply
abbrev silent : DeviceWord → Bool
silent word.NotYours = false
silent w = true

silent_reply : (m : Received) (c : DeviceCase) (w : DeviceWord) → silent w ≡ true → reply_to_refused m c w ≡ None
silent_reply m c word.NotYours is = cc
silent_reply m c w is = refl

own_refuses : (m : Received) (c : DeviceCase) (w : DeviceWord) → refused_by (own_rules m) ≡ Some w → step_by w [] None ≡ refuses m c w
own_refuses m c w broken = ap (step_by w []) (sym (silent_reply m c w (refused_passes silent (own_rules m) w refl broken)))

-- the early rules, in their two parts
early_broken : (m : Received) (c : DeviceCase) (w : DeviceWord) → refused_by (own_rules m) ≡ None → refused_by (row_rules m c) ≡ Some w → refused_by (early m c) ≡ Some w
early_broken m c w own rows = refused_none (own_rules m) (row_rules m c) own ∙ rows

module _ (now : ℕ) (modem : Mac) (m : Received) (c : DeviceCase) where
  -- who is refused early is refused whatever address is chosen
  settled_early : (chosen : Option Ip4) (lease : Option DeviceLease) (w : DeviceWord) → refused_by (early m c) ≡ Some w → device_step_for now modem m c chosen lease ≡ refuses m c w
  unfolding device_step_for
  settled_early chosen lease w broken =
      ap (unless_refused m c (accepts now modem m c chosen lease)) (refused_some (early m c) (late m c chosen) w broken)

  settled_late : (chosen : Option Ip4) (lease : Option DeviceLease) → refused_by (early m c) ≡ None
      → device_step_for now modem m c chosen lease ≡ unless_refused m c (accepts now modem m c chosen lease) (refused_by (late m c chosen))
  unfolding device_step_for
  settled_late chosen lease passed =
      ap (unless_refused m c (accepts now modem m c chosen lease)) (refused_none (early m c) (late m c chosen) passed)

  pub late_refuses : (chosen : Option Ip4) (lease : Option DeviceLease) (w : DeviceWord) → refused_by (early m c) ≡ None → refused_by (late m c chosen) ≡ Some w
      → refuses m c w ≡ device_step_for now modem m c chosen lease
  late_refuses chosen lease w passed broken =
      sym (settled_late chosen lease passed ∙ ap (unless_refused m c (accepts now modem m c chosen lease)) broken)

  pub late_accepts : (chosen : Option Ip4) (lease : Option DeviceLease) → refused_by (early m c) ≡ None → refused_by (late m c chosen) ≡ None
      → accepts now modem m c chosen lease ≡ device_step_for now modem m c chosen lease
  late_accepts chosen lease passed none =
      sym (settled_late chosen lease passed ∙ ap (unless_refused m c (accepts now modem m c chosen lease)) none)

  -- the lease matters to a DISCOVER alone, and there by whether it's bound and lasts
  abbrev lasts : Option DeviceLease → Bool
  lasts lease = passes (is_live_bound now) lease

  abbrev offers_by : Option Ip4 → Bool → DeviceStep
  offers_by chosen lasts =
      step_by word.Offer (for_some
      (λ address. cond lasts [] (own_drop (own_elsewhere address c.own) ++ device_row address (Offered modem (client m)) 120 now ∷ [])) chosen) (reply_for 2 m c chosen)

  accepts_same : (chosen : Option Ip4) (lease other : Option DeviceLease) → (is_discover m ≡ true → lasts lease ≡ lasts other)
      → accepts now modem m c chosen lease ≡ accepts now modem m c chosen other
  accepts_same chosen lease other same =
      let rest = cond (is_request m) (acknowledges now modem m c chosen) (cond (is_decline m) (declines now chosen) (releases chosen)) in
      elim (is_discover m) as (λ b. (b ≡ true → lasts lease ≡ lasts other) → cond b (offers now modem m c chosen lease) rest ≡ cond b (offers now modem m c chosen other) rest) [
        | true ↦ λ s. ap (offers_by chosen) (s refl)
        | false ↦ λ s. refl
      ] same

  lease_matters : (chosen : Option Ip4) (lease other : Option DeviceLease) → (is_discover m ≡ true → lasts lease ≡ lasts other)
      → device_step_for now modem m c chosen lease ≡ device_step_for now modem m c chosen other
  unfolding device_step_for
  lease_matters chosen lease other same = ap (λ s. unless_refused m c s (refused_by (rules_for m c chosen))) (accepts_same chosen lease other same)

  pub case_answered : (t : Tables) (chosen : Option Ip4) (lease : Option DeviceLease) → chosen ≡ chosen_in t now m c
      → (is_discover m ≡ true → lasts lease ≡ lasts (option_and_then (device_in t) chosen))
      → device_step_for now modem m c chosen lease ≡ device_step_in t now modem m c (chosen_in t now m c)
  case_answered t chosen lease chose leased =
      lease_matters chosen lease (option_and_then (device_in t) chosen) leased ∙ ap (device_step_in t now modem m c) chose

-- ---- what is answered is what a message does

abbrev in_full : Tables → ℕ → Mac → Received → DeviceCase → DeviceStep
in_full t now modem m c = device_step_in t now modem m c (chosen_in t now m c)

pub own_step : (t : Tables) (now : ℕ) (modem : Mac) (m : Received) (w : DeviceWord) → Some w ≡ refused_by (own_rules m) → step_by w [] None ≡ step_behind t now m modem
unfolding step_behind
own_step t now modem m w broken =
    let c = device_case t now m modem in
    own_refuses m c w (sym broken) ∙ sym (settled_early now modem m c _ _ w (refused_some (own_rules m) (row_rules m c) w (sym broken)))

pub row_step : (t : Tables) (now : ℕ) (modem : Mac) (m : Received) (c : DeviceCase) (w : DeviceWord) → c ≡ device_case t now m modem → refused_by (own_rules m) ≡ None
    → Some w ≡ refused_by (row_rules m c) → refuses m c w ≡ step_behind t now m modem
unfolding step_behind
row_step t now modem m c w seen passed broken =
    sym (settled_early now modem m c (chosen_in t now m c) (option_and_then (device_in t) (chosen_in t now m c)) w (early_broken m c w passed (sym broken)))
    ∙ ap (in_full t now modem m) seen

-- the case that is seen has its pool
pub cased_pool : (t : Tables) (now : ℕ) (modem : Mac) (m : Received) (c : DeviceCase) → c ≡ device_case t now m modem → c.pool ≡ pool_among (device_pools t) m
unfolding device_case
cased_pool t now modem m c seen = ap (λ (v : DeviceCase). v.pool) seen

pub late_step : (t : Tables) (now : ℕ) (modem : Mac) (m : Received) (c : DeviceCase) (step : DeviceStep) → c ≡ device_case t now m modem
    → step ≡ device_step_in t now modem m c (chosen_in t now m c) → step ≡ step_behind t now m modem
unfolding step_behind
late_step t now modem m c step seen is = is ∙ ap (in_full t now modem m) seen

-- once the early rules are passed, the late ones say what becomes of a message
pub ruleset late_ways = (late_refuses, late_accepts)
