-- What a word says of a step: one that is refused writes nothing, and who is offered or acknowledged an address has a subscriber with service.
use Rattle.std.proofs.Common.{◌≡◌, ◌⊎◌, ℕ, true, false, cond, not, ◌&&◌, Option, Some, None, option_and_then, [], refl, sym, ap, ◌∙◌, true≢false}
use Rattle.off_base.specs.declared.addresses.Ip4.{Ip4}
use Rattle.off_base.specs.declared.macs.Mac.{Mac}
use Rattle.off_defs.specs.declared.tables.Subscriber.{Subscriber}
use Rattle.off_defs.specs.declared.tables.DeviceLease.{DeviceLease}
use Rattle.off_defs.specs.State.{Tables}
use Rattle.off_dhcp.specs.Datagram.{Received}
use Rattle.off_account_rules.specs.Rows.{passes, device_in}
use Rattle.off_asking.specs.Asking.{is_discover, is_request, is_decline}
use Rattle.off_asking.specs.Claims.{refused_by}
use Rattle.off_cpe_rules.specs.Words.{acts}
use Rattle.off_cpe_rules.specs.Behind.{device_case, chosen_in}
use Rattle.off_cpe_rules.specs.Rules.{has_service, rules_for}
use Rattle.off_cpe_rules.specs.Steps.{offers, acknowledges, declines, releases, accepts, unless_refused, device_step_for, step_behind}
use Rattle.off_cpe_rules.specs.declared.cases.DeviceCase.{DeviceCase}
use Rattle.off_cpe_rules.specs.declared.words.DeviceWord.TheVariants as word
use Rattle.off_cpe_laws.proofs.RuleLemmas.{unbroken, refusals}
use Rattle.off_cpe_laws.proofs.LimitLemmas.{Says, no_refusal, said_asks}
use Rattle.std.proofs.lemmas.Bool.{not-false}

there : (o : Option Subscriber) → passes (λ (s : Subscriber). s.active) o ≡ true → (s : Subscriber) × (o ≡ Some s)
there None e = cc
there (Some s) e = (s, refl)

module _ (now : ℕ) (modem : Mac) (m : Received) (c : DeviceCase) (chosen : Option Ip4) (lease : Option DeviceLease) where
  accepted_acts : acts (accepts now modem m c chosen lease).word ≡ true
  accepted_acts =
      elim (is_discover m) as (λ b. acts (cond b (offers now modem m c chosen lease) (cond (is_request m) (acknowledges now modem m c chosen) (cond (is_decline m) (declines now chosen) (releases chosen)))).word ≡ true) [
        | true ↦ refl
        | false ↦ elim (is_request m) as (λ b. acts (cond b (acknowledges now modem m c chosen) (cond (is_decline m) (declines now chosen) (releases chosen))).word ≡ true) [
          | true ↦ refl
          | false ↦ elim (is_decline m) as (λ b. acts (cond b (declines now chosen) (releases chosen)).word ≡ true) [
            | true ↦ refl
            | false ↦ refl
          ]
        ]
      ]

  settled_quiet : acts (device_step_for now modem m c chosen lease).word ≡ false → (device_step_for now modem m c chosen lease).writes ≡ []
  unfolding device_step_for
  settled_quiet refused =
      elim (refused_by (rules_for m c chosen)) as (λ o. acts (unless_refused m c (accepts now modem m c chosen lease) o).word ≡ false → (unless_refused m c (accepts now modem m c chosen lease) o).writes ≡ []) [
        | None ↦ λ r. absurd (true≢false (sym accepted_acts ∙ r))
        | Some w ↦ λ r. refl
      ] refused

  service : Says now modem m c chosen lease (device_step_for now modem m c chosen lease).word → has_service c ≡ true
  unfolding device_step_for
  service says =
      elim (refused_by (rules_for m c chosen)) as (λ o. refused_by (rules_for m c chosen) ≡ o → Says now modem m c chosen lease (unless_refused m c (accepts now modem m c chosen lease) o).word → has_service c ≡ true) [
        | None ↦ λ none s.
            let u = unbroken m c chosen none in
            let asked : (true && not (has_service c)) ≡ false = ap (λ b. b && not (has_service c)) (sym (said_asks now modem m c chosen lease s)) ∙ u.service in
            not-false (has_service c) asked
        | Some w ↦ λ broken s. absurd (no_refusal now modem m c chosen lease w (refusals m c chosen w broken) s)
      ] refl says

pub refused_writes : (t : Tables) (now : ℕ) (m : Received) (modem : Mac) → acts (step_behind t now m modem).word ≡ false → (step_behind t now m modem).writes ≡ []
unfolding step_behind
refused_writes t now m modem refused =
    let c = device_case t now m modem in
    let chosen = chosen_in t now m c in
    settled_quiet now modem m c chosen (option_and_then (device_in t) chosen) refused

pub has_subscriber : (t : Tables) (now : ℕ) (m : Received) (modem : Mac) → ((step_behind t now m modem).word ≡ word.Offer) ⊎ ((step_behind t now m modem).word ≡ word.Ack)
    → (subscriber : Subscriber) × ((device_case t now m modem).subscriber ≡ Some subscriber)
unfolding step_behind
has_subscriber t now m modem says =
    let c = device_case t now m modem in
    let chosen = chosen_in t now m c in
    there c.subscriber (service now modem m c chosen (option_and_then (device_in t) chosen) says)
