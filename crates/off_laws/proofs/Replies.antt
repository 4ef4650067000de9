-- What is sent for a message of a device goes from the DHCP port.
use Rattle.std.proofs.Common.{ℕ, true, false, cond, Option, Some, None, option_map, option_and_then}
use Rattle.off_base.specs.declared.addresses.Ip4.{Ip4}
use Rattle.off_base.specs.declared.macs.Mac.{Mac}
use Rattle.off_defs.specs.declared.tables.Site.{Site}
use Rattle.off_defs.specs.declared.tables.Pool.{Pool}
use Rattle.off_defs.specs.declared.tables.DeviceLease.{DeviceLease}
use Rattle.off_defs.specs.State.{Tables}
use Rattle.off_dhcp.specs.Datagram.{Received}
use Rattle.off_account_rules.specs.Rows.{device_in}
use Rattle.off_asking.specs.Asking.{is_discover, is_request, is_decline}
use Rattle.off_asking.specs.Claims.{refused_by}
use Rattle.off_asking.specs.Sending.{nak_to, offer_named, reply_to}
use Rattle.off_cpe_rules.specs.Behind.{device_case, chosen_in}
use Rattle.off_cpe_rules.specs.Rules.{rules_for}
use Rattle.off_cpe_rules.specs.Steps.{no_name, reply_to_refused, offers, acknowledges, declines, releases, accepts, unless_refused, device_step_for, step_behind}
use Rattle.off_cpe_rules.specs.declared.cases.DeviceCase.{DeviceCase}
use Rattle.off_cpe_rules.specs.declared.words.DeviceWord.{DeviceWord}
use Rattle.off_cpe_rules.specs.declared.words.DeviceWord.TheVariants as word
use Rattle.off_laws.proofs.Queries.{IsOfDhcp}

module _ (m : Received) where
  nak_goes : (site : Option Site) → IsOfDhcp (option_map (nak_to m) site)
  nak_goes None = tt
  nak_goes (Some site) = tt

  offer_goes : (kind : ℕ) (site : Option Site) (pool : Option Pool) (chosen : Option Ip4)
      → IsOfDhcp (option_and_then (λ (s : Site). option_and_then (λ (p : Pool). option_map (λ (a : Ip4). reply_to m (offer_named kind s p no_name a)) chosen) pool) site)
  offer_goes kind None pool chosen = tt
  offer_goes kind (Some site) None chosen = tt
  offer_goes kind (Some site) (Some pool) None = tt
  offer_goes kind (Some site) (Some pool) (Some address) = tt

  refused_goes : (c : DeviceCase) (w : DeviceWord) → IsOfDhcp (reply_to_refused m c w)
  refused_goes c word.NotYours = nak_goes c.site
  refused_goes c w = tt

  module _ (now : ℕ) (modem : Mac) (c : DeviceCase) (chosen : Option Ip4) (lease : Option DeviceLease) where
    accepted_goes : IsOfDhcp (accepts now modem m c chosen lease).reply
    accepted_goes =
        elim (is_discover m) as (λ b. IsOfDhcp (cond b (offers now modem m c chosen lease) (cond (is_request m) (acknowledges now modem m c chosen) (cond (is_decline m) (declines now chosen) (releases chosen)))).reply) [
          | true ↦ offer_goes 2 c.site c.pool chosen
          | false ↦ elim (is_request m) as (λ b. IsOfDhcp (cond b (acknowledges now modem m c chosen) (cond (is_decline m) (declines now chosen) (releases chosen))).reply) [
            | true ↦ offer_goes 5 c.site c.pool chosen
            | false ↦ elim (is_decline m) as (λ b. IsOfDhcp (cond b (declines now chosen) (releases chosen)).reply) [
              | true ↦ tt
              | false ↦ tt
            ]
          ]
        ]

    judged_goes : (refused : Option DeviceWord) → IsOfDhcp (unless_refused m c (accepts now modem m c chosen lease) refused).reply
    judged_goes None = accepted_goes
    judged_goes (Some w) = refused_goes c w

    settled_goes : IsOfDhcp (device_step_for now modem m c chosen lease).reply
    unfolding device_step_for
    settled_goes = judged_goes (refused_by (rules_for m c chosen))

pub device_goes : (t : Tables) (now : ℕ) (m : Received) (modem : Mac) → IsOfDhcp (step_behind t now m modem).reply
unfolding step_behind
device_goes t now m modem =
    let c = device_case t now m modem in
    let chosen = chosen_in t now m c in
    settled_goes m now modem c chosen (option_and_then (device_in t) chosen)
