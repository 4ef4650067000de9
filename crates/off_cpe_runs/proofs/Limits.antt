-- Behind an address for a device its modem's devices are within the subscriber's limit.
use Rattle.std.proofs.Common.{◌≡◌, ◌≤◌, ◌⊎◌, ℕ, Option, Some, None, option_and_then, refl, sym, ap, subst, ◌∙◌}
use Rattle.off_base.specs.declared.macs.Mac.{Mac}
use Rattle.off_defs.specs.declared.keys.Key.TheVariants as key
use Rattle.off_defs.specs.declared.events.Event.{Event}
use Rattle.off_defs.specs.declared.tables.Row.{Row}
use Rattle.off_defs.specs.declared.tables.Modem.{Modem}
use Rattle.off_defs.specs.declared.tables.Subscriber.{Subscriber}
use Rattle.off_defs.specs.State.{Tables, State, Effect, at_moment}
use Rattle.off_dhcp.specs.Datagram.{Received}
use Rattle.off_account_rules.specs.Rows.{possible, as_subscriber, as_modem, subscriber_in, modem_in, devices}
use Rattle.off_account_rules.specs.Good.{Good}
use Rattle.off_order_laws.proofs.DevicePools.{is_no_device}
use Rattle.off_table_laws.proofs.TableLaws.{one_address_a_device}
use Rattle.off_cpe_rules.specs.Behind.{device_case, behind_among}
use Rattle.off_cpe_rules.specs.Steps.{step_behind}
use Rattle.off_cpe_rules.specs.declared.words.DeviceWord.TheVariants as word
use Rattle.off_cpe_laws.specs.Laws.{after_step}
use Rattle.off_cpe_laws.proofs.LimitLemmas.{limit_holds}
use Rattle.off_cpe_laws.proofs.WordLemmas.{has_subscriber}
use Rattle.off_book.specs.Dhcp.{device_effect}
use Rattle.off_book.specs.Step.{Step}
use Rattle.off_book.specs.Run.{Turn, effect_of}
use Rattle.off_laws.proofs.Devices.{device_told, row_aside}
use Rattle.off_laws.proofs.Lines.{line_is}
use Rattle.off_cpe_runs.specs.Holding.{Grants, subscriber_of, IsWithinLimit}
use Rattle.off_cpe_runs.specs.Laws.{GrantsAreWithinLimits}
use Rattle.off_cpe_runs.proofs.Granted.{granting, same_grants, WasGranted, does_granted}

module _ (t : Tables) (now : ℕ) (m : Received) (modem : Mac) where
  abbrev after : Tables
  after = after_step t now m modem

  -- the subscriber stays
  subscriber_stays : (n : ℕ) → subscriber_in after n ≡ subscriber_in t n
  unfolding is_no_device
  subscriber_stays n = ap (λ (o : Option Row). option_and_then as_subscriber (possible (key.Subscriber n) o)) (row_aside t now m modem (key.Subscriber n) refl)

  modem_stays : modem_in after modem ≡ modem_in t modem
  unfolding is_no_device
  modem_stays = ap (λ (o : Option Row). option_and_then as_modem (possible (key.Modem modem) o)) (row_aside t now m modem (key.Modem modem) refl)

  each_stays : (o : Option Modem) → option_and_then (λ (row : Modem). subscriber_in after row.subscriber) o ≡ option_and_then (λ (row : Modem). subscriber_in t row.subscriber) o
  each_stays None = refl
  each_stays (Some row) = subscriber_stays row.subscriber

  same_subscriber : subscriber_of after modem ≡ subscriber_of t modem
  same_subscriber = ap (option_and_then (λ (row : Modem). subscriber_in after row.subscriber)) modem_stays ∙ each_stays (modem_in t modem)

  -- the limit holds behind the message
  module _ (good : Good t) (says : ((step_behind t now m modem).word ≡ word.Offer) ⊎ ((step_behind t now m modem).word ≡ word.Ack)) where
    pub granted_to : (subscriber : Subscriber) × ((subscriber_of after modem ≡ Some subscriber) × (behind_among now modem (devices after) ≤ subscriber.cpes))
    unfolding device_case
    granted_to =
        let there = has_subscriber t now m modem says in
        (there.0, (same_subscriber ∙ there.1, limit_holds t now m modem there.0 (one_address_a_device t good) says there.1))

granted_within : (s : State) (event : Event) (turn : Turn) (after : State) → Good s.tables → turn.event ≡ event
    → WasGranted (at_moment s event.at.0) event.what turn.outcome (effect_of turn after) → Grants turn.said.line → IsWithinLimit s turn after
granted_within s event turn after good own g grants =
    let here = at_moment s event.at.0 in
    let now = here.held.now in
    let d = device_told s.tables now g.bytes g.step g.of_device in
    let is : effect_of turn after ≡ device_effect here (step_behind s.tables now d.message d.modem) = g.does ∙ ap (device_effect here) d.does in
    let says = granting (step_behind s.tables now d.message d.modem).word (same_grants turn.said.line _ (line_is (effect_of turn after) _ is) grants) in
    let to = granted_to s.tables now d.message d.modem good says in
    record {
      message = d.message;
      modem = d.modem;
      subscriber = to.0;
      takes = record { from = g.from; bytes = g.bytes; came = ap (λ (e : Event). e.what) own ∙ g.came; read = d.read };
      behind = d.behind;
      subscriber_is = ap (λ (e : Effect). subscriber_of e.after.tables d.modem) is ∙ to.1.0;
      within = subst (λ (e : Effect). behind_among e.after.held.now d.modem (devices e.after.tables) ≤ to.0.cpes) (sym is) to.1.1;
    }

pub grants_are_within_limits : GrantsAreWithinLimits
unfolding Step
grants_are_within_limits s after turn good step grants =
    granted_within s turn.event turn after good refl
    (does_granted (at_moment s turn.event.at.0) turn.event.what turn.outcome (effect_of turn after) step grants) grants
