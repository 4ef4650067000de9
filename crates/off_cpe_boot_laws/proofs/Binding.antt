-- A device that asks is bound to an address, and one that asks again keeps it; and so where every turn goes well.
use Rattle.std.proofs.Common.{◌≡◌, inl, inr, ℕ, ◌<◌, ◌==◌, true, List, [], ◌∷◌, ◌++◌, All, Some, option_and_then, append_assoc, refl, sym, ap, subst, ◌∙◌, arith}
use Rattle.off_base.specs.declared.addresses.Ip4.{Ip4}
use Rattle.off_base.specs.declared.macs.Mac.{Mac}
use Rattle.off_defs.specs.declared.tables.DeviceHold.TheVariants.{Offered, Bound}
use Rattle.off_defs.specs.declared.tables.DeviceLease.{DeviceLease}
use Rattle.off_defs.specs.State.{State, Effect}
use Rattle.off_dhcp.specs.Datagram.{Received}
use Rattle.off_account_rules.specs.Rows.{device_in, has_address}
use Rattle.off_account_rules.specs.Good.{Good, device_owner}
use Rattle.off_table_laws.specs.Laws.{device_owner_in}
use Rattle.off_asking.specs.Asking.{client}
use Rattle.off_book.specs.Step.{Step}
use Rattle.off_book.specs.Run.{Turn, effect_of}
use Rattle.off_laws.specs.Leases.{moment_of}
use Rattle.off_laws.proofs.StepLaws.{moment_is_greatest, step_good}
use Rattle.off_laws.proofs.RunLaws.{run_keeps_good}
use Rattle.off_boot_laws.specs.Went.{GoesWell, Anyhow}
use Rattle.off_boot_laws.proofs.Booting.{SoWell, second_place}
use Rattle.off_boot_laws.proofs.Went.{well_at}
use Rattle.off_cpe_boot_laws.specs.Known.{AreFewOthers, IsOfDevice, IsBelowLimit}
use Rattle.off_cpe_boot_laws.specs.Limit.{NeverMayHaveMore}
use Rattle.off_cpe_boot_laws.specs.Stages.{device_until, DeviceDiscovers, IsOfferedAddress}
use Rattle.off_cpe_boot_laws.specs.Waiting.{DoesNotServeDevice, DeviceWaits}
use Rattle.off_cpe_boot_laws.specs.Binding.{DeviceCourse, KeepsPlace, GetsWhatItRequests, DeviceBindsBy, DevicesThatAskAreBound}
use Rattle.off_cpe_boot_laws.specs.Keeping.{DeviceGetsAnswers, DeviceKeepsBy, DevicesThatAskAgainKeep}
use Rattle.off_cpe_boot_laws.specs.Served.{DevicesAreServed, AllDevicesAreServed}
use Rattle.off_cpe_boot_laws.proofs.Behind.{is_behind}
use Rattle.off_cpe_boot_laws.proofs.Answering.{device_acts, devices_are_offered, devices_are_acknowledged}
use Rattle.off_cpe_boot_laws.proofs.Limits.{unless_granted, few_wider, never_on, waiting_devices_keep_their_place}
use Rattle.off_cpe_boot_laws.proofs.Waiting.{waiting_devices_keep, devices_left_alone_wait}

-- ---- the lease of an offer

record IsLeased (modem device : Mac) (address : Ip4) (expiry : ℕ) (s : State) : Type 0 where
  lease : DeviceLease
  is : device_in s.tables address ≡ Some lease
  owned : device_owner lease.hold ≡ Some (modem, device)
  ends : lease.expiry.0 ≡ expiry

module _ (s : State) (m : Received) (turn : Turn) (d : DeviceDiscovers s m turn) (after : State) (offer : IsOfferedAddress s m turn d.known after) where
  abbrev Leased : Type 0
  Leased = IsLeased d.known.modem (client m) offer.address offer.expiry after

  leased : Leased
  leased =
      elim offer.lasts as (λ c. Leased) [
        | inl p ↦ record { lease = device_until (Offered d.known.modem (client m)) offer.expiry; is = p.1; owned = refl; ends = refl }
        | inr p ↦ record { lease = device_until (Bound d.known.modem (client m)) offer.expiry; is = p.1; owned = refl; ends = refl }
      ]

  own_after : device_owner_in after.tables offer.address ≡ Some (d.known.modem, client m)
  own_after = ap (option_and_then (λ (lease : DeviceLease). device_owner lease.hold)) leased.is ∙ leased.owned

-- ---- who asks is bound

module _ (Well : Turn → Type 0) (s : State) (turns : List Turn) (good : Good s.tables) (so : SoWell Well turns) (c : DeviceCourse s turns)
    (m n : Received) (sender : client n ≡ client m) where
  good0 : Good c.s0.tables
  good0 = run_keeps_good s c.s0 c.before c.up_to good

  good_first : Good c.first.0.tables
  good_first = step_good c.s0 c.discovers.event c.discovers.outcome (effect_of c.discovers c.first.0) c.first.1.0 good0

  good1 : Good c.s1.tables
  good1 = run_keeps_good c.s0 c.s1 (c.discovers ∷ c.between) c.first good0

  is_offered : Well c.discovers → (d : DeviceDiscovers c.s0 m c.discovers) → IsOfferedAddress c.s0 m c.discovers d.known c.first.0
  is_offered well d =
      devices_are_offered c.s0 c.first.0 c.discovers m good0 c.first.1.0 (so c.before (c.between ++ c.requests ∷ c.later) c.discovers c.parts well) d

  module _ (d : DeviceDiscovers c.s0 m c.discovers) (offer : IsOfferedAddress c.s0 m c.discovers d.known c.first.0) where
    abbrev now0 : ℕ
    now0 = moment_of c.s0 c.discovers

    abbrev now1 : ℕ
    now1 = moment_of c.s1 c.requests

    -- the DISCOVER itself gives others nothing
    few_first : Well c.discovers → (most : ℕ) → AreFewOthers c.s0.tables now0 d.known.modem (client m) most
        → AreFewOthers c.first.0.tables c.first.0.held.now d.known.modem (client m) most
    few_first well most few =
        let goes = so c.before (c.between ++ c.requests ∷ c.later) c.discovers c.parts well in
        let is =
        device_acts c.s0 c.first.0 c.discovers m d.known.modem c.first.1.0 d.takes goes.did (ap (λ k. k == 10) d.kind) (is_behind c.s0.tables m d.known.modem d.known.behind) in
        subst (λ (n : ℕ). AreFewOthers c.first.0.tables n d.known.modem (client m) most)
        (sym (moment_is_greatest c.s0 c.discovers.event c.discovers.outcome (effect_of c.discovers c.first.0) c.first.1.0))
        (subst (λ (e : Effect). AreFewOthers e.after.tables now0 d.known.modem (client m) most) (sym is)
        (unless_granted d.known.modem (client m) c.s0.tables now0 m d.known.modem most (λ says same aside. aside refl) few))

    -- so its place is its own until it requests
    few_then : Well c.discovers → DeviceWaits d.known.modem (client m) offer.address c.first.0 c.between → (most : ℕ) → NeverMayHaveMore most d.known.modem c.s0 (c.discovers ∷ c.between)
        → AreFewOthers c.s1.tables now1 d.known.modem (client m) most
    few_then well waits most never =
        let may = never [] c.between c.discovers c.s0 refl refl d.known.row d.known.subscriber d.known.row_is d.known.subscriber_is in
        waiting_devices_keep_their_place c.first.0 c.s1 c.between d.known.modem (client m) offer.address good_first c.first.1.1 (own_after c.s0 m c.discovers d c.first.0 offer) waits most now1
        (never_on most d.known.modem c.s0 c.first.0 c.discovers c.between c.first.1.0 never)
        (few_first well most (few_wider d.known.modem (client m) c.s0.tables now0 d.known.subscriber.cpes most may d.below)) (omega arith)

    below_then : Well c.discovers → DeviceWaits d.known.modem (client m) offer.address c.first.0 c.between → (known : IsOfDevice c.s1.tables now1 n) → known.modem ≡ d.known.modem
        → KeepsPlace s turns c n known → IsBelowLimit c.s1.tables now1 n known
    below_then well waits known same (inr below) = below
    below_then well waits known same (inl never) =
        subst (λ (w : Mac). AreFewOthers c.s1.tables now1 w (client n) known.subscriber.cpes) (sym same)
        (subst (λ (w : Mac). AreFewOthers c.s1.tables now1 d.known.modem w known.subscriber.cpes) (sym sender)
        (few_then well waits known.subscriber.cpes (subst (λ (w : Mac). NeverMayHaveMore known.subscriber.cpes w c.s0 (c.discovers ∷ c.between)) same never)))

    who_waits : Well c.discovers → DeviceWaits d.known.modem (client m) offer.address c.first.0 c.between → GetsWhatItRequests Well s turns c m n d offer
    who_waits first waits well r same place =
        let kept =
        waiting_devices_keep c.first.0 c.s1 c.between d.known.modem (client m) offer.address good_first c.first.1.1 (own_after c.s0 m c.discovers d c.first.0 offer) waits in
        devices_are_acknowledged c.s1 c.second.0 c.requests n offer.address good1 c.second.1.0
        (so (c.before ++ c.discovers ∷ c.between) c.later c.requests (c.parts ∙ second_place c.before c.between c.discovers c.requests c.later) well) r
        (below_then first waits r.known same place) (kept.owned ∙ (λ i. Some (sym same i, sym sender i)))

    who_is_soon : Well c.discovers → All (DoesNotServeDevice (client m)) c.between → moment_of c.s1 c.requests < offer.expiry → GetsWhatItRequests Well s turns c m n d offer
    who_is_soon first quiet soon =
        let l = leased c.s0 m c.discovers d c.first.0 offer in
        let ends = l.ends in
        let live : c.s1.held.now < l.lease.expiry.0 = omega (arith, soon, ends) in
        who_waits first (devices_left_alone_wait c.first.0 c.s1 c.between d.known.modem (client m) offer.address l.lease good_first c.first.1.1 l.is l.owned quiet live)

binds_by : (Well : Turn → Type 0) (s : State) (turns : List Turn) → Good s.tables → SoWell Well turns → DeviceBindsBy Well s turns
binds_by Well s turns good so c m n sender well d =
    let offer = is_offered Well s turns good so c m n sender well d in
    (offer, who_waits Well s turns good so c m n sender d offer well, who_is_soon Well s turns good so c m n sender d offer well)

pub devices_that_ask_are_bound : DevicesThatAskAreBound
devices_that_ask_are_bound s turns good = binds_by GoesWell s turns good (λ before later turn parts well. well)

-- ---- who asks again keeps

module _ (s after : State) (turn : Turn) (modem device : Mac) (address : Ip4) (good : Good s.tables) (step : Step s turn.event turn.outcome (effect_of turn after))
    (owned : device_owner_in s.tables address ≡ Some (modem, device)) where
  own_by : (m : Received) (other : Mac) → client m ≡ device → other ≡ modem → device_owner_in s.tables address ≡ Some (other, client m)
  own_by m other sender same = owned ∙ (λ i. Some (sym same i, sym sender i))

  offered_again : (m : Received) → GoesWell turn → client m ≡ device → (d : DeviceDiscovers s m turn) → d.known.modem ≡ modem → has_address d.known.pool address ≡ true
      → (offer : IsOfferedAddress s m turn d.known after) × (offer.address ≡ address)
  offered_again m well sender d same within =
      let offer : IsOfferedAddress s m turn d.known after = devices_are_offered s after turn m good step well d in
      (offer, offer.own address (own_by m d.known.modem sender same) within)

  answered : (Well : Turn → Type 0) → (Well turn → GoesWell turn) → DeviceGetsAnswers Well modem device address s turn after
  answered Well so = record {
    offered = λ m well sender d same within. offered_again m (so well) sender d same within;
    acknowledged = λ m well sender r same below. devices_are_acknowledged s after turn m address good step (so well) r below (own_by m r.known.modem sender same);
  }

keeps_by : (Well : Turn → Type 0) (s : State) (turns : List Turn) → Good s.tables → SoWell Well turns → DeviceKeepsBy Well s turns
keeps_by Well s turns good so before stretch later from to modem device address parts up_to onward owned waits =
    let good_from = run_keeps_good s from before up_to good in
    let good_to = run_keeps_good from to stretch onward good_from in
    let kept = waiting_devices_keep from to stretch modem device address good_from onward owned waits in
    record {
      keeps = kept;
      place = waiting_devices_keep_their_place from to stretch modem device address good_from onward owned waits;
      answered = λ turn turns after is step.
          answered to after turn modem device address good_to step kept.owned Well
          (so (before ++ stretch) turns turn (parts ∙ ap (λ (l : List Turn). before ++ (stretch ++ l)) is ∙ sym (append_assoc before stretch (turn ∷ turns))));
    }

pub devices_that_ask_again_keep : DevicesThatAskAgainKeep
devices_that_ask_again_keep s turns good = keeps_by GoesWell s turns good (λ before later turn parts well. well)

-- ---- a run as a whole

pub devices_are_served : (s : State) (turns : List Turn) → Good s.tables → DevicesAreServed GoesWell s turns
devices_are_served s turns good = record { binds = devices_that_ask_are_bound s turns good; keeps = devices_that_ask_again_keep s turns good }

pub all_devices_are_served : AllDevicesAreServed
all_devices_are_served s turns good all =
    let so : SoWell Anyhow turns = λ before later turn parts anyhow. well_at turns before later turn all parts in
    record { binds = binds_by Anyhow s turns good so; keeps = keeps_by Anyhow s turns good so }
