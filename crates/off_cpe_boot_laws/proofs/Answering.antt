-- What a device is offered or acknowledged, by the turn that took its message.
use Rattle.std.proofs.Common.{◌≡◌, ◌⊎◌, inl, inr, ℕ, ◌<◌, ◌==◌, true, false, cond, List, [], Option, Some, None, option_and_then, Ok, refl, sym, ap, subst, ◌∙◌, arith}
use Rattle.std.proofs.lemmas.Bool.{and_parts, and_from, leb-true, le-leb, ltb-true}
use Rattle.off_base.specs.declared.addresses.Ip4.{Ip4}
use Rattle.off_base.specs.declared.macs.Mac.{Mac}
use Rattle.off_defs.specs.declared.events.Service.TheVariants.{Dhcp}
use Rattle.off_defs.specs.declared.events.What.{What}
use Rattle.off_defs.specs.declared.events.What.TheVariants.{Datagram}
use Rattle.off_defs.specs.declared.results.Outcome.{Outcome}
use Rattle.off_defs.specs.declared.results.Outcome.TheVariants.{Did}
use Rattle.off_defs.specs.declared.tables.Pool.{Pool}
use Rattle.off_defs.specs.declared.tables.DeviceHold.{DeviceHold}
use Rattle.off_defs.specs.declared.tables.DeviceHold.TheVariants.{Offered, Bound, Declined}
use Rattle.off_defs.specs.declared.tables.DeviceLease.{DeviceLease}
use Rattle.off_defs.specs.declared.writes.Write.{Write}
use Rattle.off_defs.specs.Clock.{later_by}
use Rattle.off_defs.specs.State.{Tables, State, Effect, at_moment}
use Rattle.off_defs.specs.Tables.{write_all}
use Rattle.off_dhcp.specs.Datagram.{Received, message_of}
use Rattle.off_account_rules.specs.Rows.{passes, device_in, devices, has_address}
use Rattle.off_account_rules.specs.Good.{device_owner}
use Rattle.off_table_laws.specs.Laws.{device_owner_in}
use Rattle.off_table_laws.proofs.TableLaws.{one_address_a_device}
use Rattle.off_asking.specs.Asking.{client, named_address, at_address}
use Rattle.off_asking.specs.Choice.{choice_by}
use Rattle.off_query_laws.proofs.KindLemmas.{no_query}
use Rattle.off_cpe_rules.specs.Behind.{has_ended, is_free, is_live, own_among, modem_behind}
use Rattle.off_cpe_rules.specs.Steps.{lease_for, own_elsewhere, is_bound, is_live_bound, offered, step_behind}
use Rattle.off_cpe_laws.proofs.WriteLemmas.{the_own}
use Rattle.off_book.specs.Dhcp.{MessageDid, DatagramDid, DhcpDid, device_effect}
use Rattle.off_book.specs.Step.{Step, Does}
use Rattle.off_book.specs.Run.{Turn, effect_of}
use Rattle.off_laws.specs.Leases.{TakesMessage, moment_of}
use Rattle.off_boot_laws.proofs.Messages.{right_server}
use Rattle.off_laws.proofs.Devices.{device_is}
use Rattle.off_cpe_boot_laws.specs.Stages.{device_until, IsFreeForAny, DevicesAreOffered, DevicesAreAcknowledged}
use Rattle.off_cpe_boot_laws.proofs.Behind.{is_behind}
use Rattle.off_cpe_boot_laws.proofs.Owning.{own_is, given_here}
use Rattle.off_cpe_boot_laws.proofs.Choosing.{chosen_opens, own_chosen, is_chosen}
use Rattle.off_cpe_boot_laws.proofs.Messages.{known_of, discover_is, request_is}

-- ---- the turn does what the message asks

device_did : (s : State) (bytes : List ℕ) (effect : Effect) (m : Received) (modem : Mac) → message_of bytes ≡ Ok m → (m.kind == 10) ≡ false → modem_behind s.tables m ≡ Some modem
    → DhcpDid s bytes effect → effect ≡ device_effect s (step_behind s.tables s.held.now m modem)
device_did s bytes effect m modem read other behind did =
    subst (MessageDid s bytes effect) (device_is s.tables s.held.now bytes m modem read behind) (subst (DatagramDid s bytes effect) (no_query bytes m read other) did)

pub device_acts : (s after : State) (turn : Turn) (m : Received) (modem : Mac) → Step s turn.event turn.outcome (effect_of turn after) → TakesMessage m turn → turn.outcome ≡ Did
    → (m.kind == 10) ≡ false → modem_behind s.tables m ≡ Some modem
    → effect_of turn after ≡ device_effect (at_moment s turn.event.at.0) (step_behind s.tables (moment_of s turn) m modem)
unfolding Step
device_acts s after turn m modem step takes did other behind =
    device_did (at_moment s turn.event.at.0) takes.bytes (effect_of turn after) m modem takes.read other behind
    (subst (λ (o : Outcome). Does (at_moment s turn.event.at.0) (Datagram Dhcp takes.from takes.bytes) o (effect_of turn after)) did
    (subst (λ (what : What). Does (at_moment s turn.event.at.0) what turn.outcome (effect_of turn after)) takes.came step))

-- ---- what an offer leaves

-- until when the address is the device's
pub record Lasts (now : ℕ) (modem device : Mac) (address : Ip4) (u : Tables) : Type 0 where
  pub expiry : ℕ
  pub lasts : ((expiry ≡ later_by 120 now) × (device_in u address ≡ Some (device_until (Offered modem device) expiry)))
      ⊎ ((now < expiry) × (device_in u address ≡ Some (device_until (Bound modem device) expiry)))

bound_to : (hold : DeviceHold) (modem device : Mac) → is_bound hold ≡ true → device_owner hold ≡ Some (modem, device) → hold ≡ Bound modem device
bound_to (Offered one other) modem device b o = cc
bound_to (Bound one other) modem device b o =
    let pair : ◌≡◌ {A = Mac × Mac} (one, other) (modem, device) = cc in
    λ i. Bound (pair i).0 (pair i).1
bound_to Declined modem device b o = cc

-- a lease that has ended isn't live
pub not_both : (now : ℕ) (o : Option DeviceLease) → passes (is_live now) o ≡ true → has_ended now o ≡ true → ⊥
not_both now None h e = cc
not_both now (Some lease) h e =
    let live = ltb-true now lease.expiry.0 h in
    let ended = leb-true lease.expiry.0 now e in
    omega (arith, live, ended)

live_of : (now : ℕ) (o : Option DeviceLease) → passes (is_live_bound now) o ≡ true → passes (is_live now) o ≡ true
live_of now None h = cc
live_of now (Some lease) h = (and_parts (is_bound lease.hold) (is_live now lease) h).1

already : (now : ℕ) (modem device : Mac) (o : Option DeviceLease) → passes (is_live_bound now) o ≡ true → option_and_then (λ (lease : DeviceLease). device_owner lease.hold) o ≡ Some (modem, device)
    → (expiry : ℕ) × (now < expiry) × (o ≡ Some (device_until (Bound modem device) expiry))
already now modem device None h own = cc
already now modem device (Some lease) h own =
    let parts = and_parts (is_bound lease.hold) (is_live now lease) h in
    let hold = bound_to lease.hold modem device parts.0 own in
    (lease.expiry.0, ltb-true now lease.expiry.0 parts.1, λ i. Some (device_until (hold i) lease.expiry.0))

module _ (t : Tables) (now : ℕ) (modem device : Mac) (pool : Pool) (asked : Option Ip4) (address : Ip4)
    (chosen : choice_by (is_free t now pool) pool (own_among modem device (devices t)) asked ≡ Some address) where
  abbrev own : Option Ip4
  own = own_among modem device (devices t)

  abbrev writes : List Write
  writes = offered now modem device own address (device_in t address)

  -- a live lease of the chosen address is its own
  its_own : passes (is_live_bound now) (device_in t address) ≡ true → device_owner_in t address ≡ Some (modem, device)
  its_own live =
      elim (chosen_opens (is_free t now pool) pool own asked address chosen) as (λ c. device_owner_in t address ≡ Some (modem, device)) [
        | inl mine ↦ the_own t modem device address mine.0
        | inr free ↦ absurd (not_both now (device_in t address) (live_of now (device_in t address) live) (and_parts (has_address pool address) (has_ended now (device_in t address)) free).1)
      ]

  offer_lasts : Lasts now modem device address (write_all t writes)
  offer_lasts =
      elim (passes (is_live_bound now) (device_in t address)) as (λ b. passes (is_live_bound now) (device_in t address) ≡ b → (ws : List Write) → writes ≡ ws
      → Lasts now modem device address (write_all t writes)) [
        | true ↦ λ live ws e.
            let same : writes ≡ [] = ap (λ b. cond b [] (offered now modem device own address None)) live in
            let bound = already now modem device (device_in t address) live (its_own live) in
            record { expiry = bound.0; lasts = inr (bound.1, ap (λ (w : List Write). device_in (write_all t w) address) same ∙ bound.2) }
        | false ↦ λ idle ws e.
            let same : writes ≡ offered now modem device own address None = ap (λ b. cond b [] (offered now modem device own address None)) idle in
            record {
              expiry = later_by 120 now;
              lasts = inl (refl, ap (λ (w : List Write). device_in (write_all t w) address) same ∙ given_here t (lease_for (Offered modem device) 120 now) address (own_elsewhere address own));
            }
      ] refl writes refl

-- ---- the laws

free_for : (t : Tables) (now : ℕ) (address : Ip4) → IsFreeForAny t now address → (o : Option DeviceLease) → device_in t address ≡ o → has_ended now o ≡ true
free_for t now address free None is = refl
free_for t now address free (Some lease) is = le-leb lease.expiry.0 now (free lease is)

pub devices_are_offered : DevicesAreOffered
unfolding known_of
devices_are_offered s after turn m good step well d =
    let t = s.tables in
    let now = moment_of s turn in
    let modem = d.known.modem in
    let k = known_of t now m good d.known d.below in
    let own : Option Ip4 = own_among modem (client m) (devices t) in
    let asked : Option Ip4 = at_address (named_address m) in
    let one = one_address_a_device t good in
    let opens : (own ≡ Some d.address) ⊎ (is_free t now d.known.pool d.address ≡ true) =
    elim d.opens as (λ c. (own ≡ Some d.address) ⊎ (is_free t now d.known.pool d.address ≡ true)) [
      | inl mine ↦ inl (own_is t one modem (client m) d.address mine)
      | inr free ↦ inr (and_from (has_address d.known.pool d.address) (has_ended now (device_in t d.address)) d.within (free_for t now d.address free (device_in t d.address) refl))
    ] in
    let chosen = is_chosen (is_free t now d.known.pool) d.known.pool own asked d.address d.within opens in
    let a : Ip4 = chosen.0 in
    let is = device_acts s after turn m modem step d.takes well.did (ap (λ k. k == 10) d.kind) (is_behind t m modem d.known.behind)
    ∙ ap (device_effect (at_moment s turn.event.at.0)) (discover_is t now modem m d.kind k a chosen.1) in
    let lasts = offer_lasts t now modem (client m) d.known.pool asked a chosen.1 in
    let after_is = ap (λ (e : Effect). device_in e.after.tables a) is in
    record {
      address = a;
      expiry = lasts.expiry;
      within = elim (chosen_opens (is_free t now d.known.pool) d.known.pool own asked a chosen.1) as (λ c. has_address d.known.pool a ≡ true) [
        | inl mine ↦ mine.1
        | inr free ↦ (and_parts (has_address d.known.pool a) (has_ended now (device_in t a)) free).0
      ];
      own = λ held mine within.
          let first = own_chosen (is_free t now d.known.pool) d.known.pool own asked held (own_is t one modem (client m) held mine) within in
          let both : Some a ≡ Some held = sym chosen.1 ∙ first in
          cc;
      line = ap (λ (e : Effect). e.said.line) is;
      sent = well.sent ∙ ap (λ (e : Effect). e.said.items) is;
      lasts = elim lasts.lasts as (λ c. ((lasts.expiry ≡ later_by 120 now) × (device_in after.tables a ≡ Some (device_until (Offered modem (client m)) lasts.expiry)))
          ⊎ ((now < lasts.expiry) × (device_in after.tables a ≡ Some (device_until (Bound modem (client m)) lasts.expiry)))) [
            | inl p ↦ inl (p.0, after_is ∙ p.1)
            | inr p ↦ inr (p.0, after_is ∙ p.1)
          ];
    }

pub devices_are_acknowledged : DevicesAreAcknowledged
unfolding known_of
devices_are_acknowledged s after turn m address good step well r below own =
    let t = s.tables in
    let now = moment_of s turn in
    let modem = r.known.modem in
    let k = known_of t now m good r.known below in
    let mine = own_is t (one_address_a_device t good) modem (client m) address own in
    let is = device_acts s after turn m modem step r.takes well.did (ap (λ k. k == 10) r.kind) (is_behind t m modem r.known.behind)
    ∙ ap (device_effect (at_moment s turn.event.at.0)) (request_is t now modem m r.kind k address mine (right_server m r.known.site r.server) r.claim r.within) in
    record {
      line = ap (λ (e : Effect). e.said.line) is;
      sent = well.sent ∙ ap (λ (e : Effect). e.said.items) is;
      bound = ap (λ (e : Effect). device_in e.after.tables address) is ∙ given_here t (lease_for (Bound modem (client m)) r.known.site.lease now) address None;
    }
