-- What a message of a device makes of an address whose lease lasts: it stays, or it's the device's own, which keeps it or gives it up.
use Rattle.std.proofs.Common.{◌≡◌, ◌⊎◌, inl, inr, ℕ, ◌<◌, true, false, cond, not, eqb, Option, Some, None, option_and_then, List, [], ◌∷◌, ◌++◌, refl, sym, ap, subst, ◌∙◌}
use Rattle.std.proofs.lemmas.Bool.{and_parts, eqb-true, lt-ltb}
use Rattle.off_base.specs.declared.addresses.Ip4.{Ip4}
use Rattle.off_base.specs.declared.macs.Mac.{Mac}
use Rattle.off_defs.specs.declared.keys.Key.TheVariants as key
use Rattle.off_defs.specs.declared.tables.Row.TheVariants as row
use Rattle.off_defs.specs.declared.tables.Pool.{Pool}
use Rattle.off_defs.specs.declared.tables.DeviceHold.TheVariants.{Offered, Bound, Declined}
use Rattle.off_defs.specs.declared.tables.DeviceLease.{DeviceLease}
use Rattle.off_defs.specs.declared.writes.Write.{Write}
use Rattle.off_defs.specs.declared.writes.Write.TheVariants.{Put}
use Rattle.off_defs.specs.Clock.{later_by}
use Rattle.off_defs.specs.State.{Tables}
use Rattle.off_defs.specs.Tables.{write_all}
use Rattle.off_dhcp.specs.Datagram.{Received}
use Rattle.off_account_rules.specs.Rows.{passes, device_in, device_pools, devices, has_address}
use Rattle.off_account_rules.specs.Good.{Good, device_owner}
use Rattle.off_table_laws.specs.Laws.{device_owner_in}
use Rattle.off_asking.specs.Asking.{client, named_address, at_address, is_discover}
use Rattle.off_asking.specs.Choice.{pool_among, choice_by}
use Rattle.off_lease_laws.proofs.ChoiceLemmas.{provided_is}
use Rattle.off_lease_laws.proofs.Tests.{ip_or, some_or}
use Rattle.off_cpe_rules.specs.Behind.{has_ended, is_free, is_live, own_among}
use Rattle.off_cpe_rules.specs.Steps.{lease_for, own_drop, own_elsewhere, is_live_bound, offered, bound, set_aside, given_up, step_behind}
use Rattle.off_cpe_rules.specs.declared.results.DeviceStep.{DeviceStep}
use Rattle.off_cpe_laws.specs.Laws.{after_step}
use Rattle.off_cpe_laws.proofs.WriteLemmas.{the_own}
use Rattle.off_cpe_boot_laws.specs.Stages.{device_until}
use Rattle.off_cpe_boot_laws.specs.Waiting.{Leaves, GivesBack, IsDeviceBound, DeviceKeeps}
use Rattle.off_cpe_boot_laws.proofs.Pooling.{pool_is_found}
use Rattle.off_cpe_boot_laws.proofs.Owning.{given_here, given_other, dropped_other}
use Rattle.off_cpe_boot_laws.proofs.Choosing.{chosen_opens, own_chosen}
use Rattle.off_cpe_boot_laws.proofs.Aims.{Aims, idle, offering, binding, resting, freeing, aims}
use Rattle.off_cpe_boot_laws.proofs.Answering.{not_both}

pub data Fate (t : Tables) (m : Received) (modem : Mac) (owner : Mac × Mac) (address : Ip4) (u : Tables) : Type 0 where
  stays : device_in u address ≡ device_in t address → Fate t m modem owner address u
  keeps : (modem, client m) ≡ owner → DeviceKeeps owner.0 owner.1 address t u → Fate t m modem owner address u
  gives : (modem, client m) ≡ owner → Leaves t m address ⊎ GivesBack m address → Fate t m modem owner address u

module _ (t : Tables) (good : Good t) (now : ℕ) (m : Received) (modem : Mac) (owner : Mac × Mac) (address : Ip4) (lease : DeviceLease)
    (there : device_in t address ≡ Some lease) (owned : device_owner lease.hold ≡ Some owner) (live : now < lease.expiry.0) where
  abbrev own : Option Ip4
  own = own_among modem (client m) (devices t)

  abbrev F : List Write → Type 0
  F writes = Fate t m modem owner address (write_all t writes)

  owner_is : device_owner_in t address ≡ Some owner
  owner_is = ap (option_and_then (λ (l : DeviceLease). device_owner l.hold)) there ∙ owned

  -- who has the address as its own is its owner
  is_owner : own ≡ Some address → (modem, client m) ≡ owner
  is_owner mine = let both : Some (modem, client m) ≡ Some owner = sym (the_own t modem (client m) address mine) ∙ owner_is in cc

  not_free : has_ended now (device_in t address) ≡ true → ⊥
  not_free ended = not_both now (device_in t address) (ap (passes (is_live now)) there ∙ lt-ltb now lease.expiry.0 live) ended

  same_writes : (writes other : List Write) → writes ≡ other → F other → F writes
  same_writes writes other e f = subst F (sym e) f

  unwritten : (writes : List Write) → writes ≡ [] → F writes
  unwritten writes e = same_writes writes [] e (stays refl)

  -- a lease of its own that is put there
  put_keeps : (fresh : DeviceLease) (o : Option Ip4) → own ≡ Some address → device_owner fresh.hold ≡ Some (modem, client m)
      → (IsDeviceBound owner.0 owner.1 address t → (expiry : ℕ) × (fresh ≡ device_until (Bound owner.0 owner.1) expiry))
      → F (own_drop o ++ Put (key.Device address) (row.Device fresh) ∷ [])
  put_keeps fresh o mine is stays_bound =
      let here = given_here t fresh address o in
      keeps (is_owner mine) (record {
        owned = ap (option_and_then (λ (l : DeviceLease). device_owner l.hold)) here ∙ is ∙ ap Some (is_owner mine);
        bound = λ b. let again = stays_bound b in record { expiry = again.0; is = here ∙ ap Some again.1 };
      })

  -- ---- a DISCOVER

  leaves : (pool : Pool) → is_discover m ≡ true → pool_among (device_pools t) m ≡ Some pool → has_address pool address ≡ false → Leaves t m address
  leaves pool d among without = record {
    kind = eqb-true m.kind 1 d;
    elsewhere = λ n other is pooled within.
        let both : Some pool ≡ Some other = sym among ∙ pool_is_found t m n other good is pooled in
        let same : pool ≡ other = cc in
        let clash : true ≡ false = sym within ∙ ap (λ (p : Pool). has_address p address) (sym same) ∙ without in
        cc;
  }

  module _ (pool : Pool) (a : Ip4) (d : is_discover m ≡ true) (among : pool_among (device_pools t) m ≡ Some pool)
      (chosen : choice_by (is_free t now pool) pool own (at_address (named_address m)) ≡ Some a) where
    abbrev fresh : DeviceLease
    fresh = lease_for (Offered modem (client m)) 120 now

    -- the address isn't its own
    offer_aside : (own ≡ Some address → ⊥) → F (own_drop (own_elsewhere a own) ++ Put (key.Device a) (row.Device fresh) ∷ [])
    offer_aside apart =
        stays (given_other t fresh a (own_elsewhere a own) address
        (λ same.
        elim (chosen_opens (is_free t now pool) pool own (at_address (named_address m)) a chosen) as (λ c. ⊥) [
          | inl mine ↦ apart (mine.0 ∙ ap Some (sym same))
          | inr free ↦ not_free (ap (λ (x : Ip4). has_ended now (device_in t x)) same ∙ (and_parts (has_address pool a) (has_ended now (device_in t a)) free).1)
        ])
        (λ e. apart (provided_is (λ (other : Ip4). not (eqb other.0 a.0)) own address e).0))

    -- the address is its own, and the pool has it: it's offered again, where it isn't bound
    offer_again : own ≡ Some address → has_address pool address ≡ true → passes (is_live_bound now) (device_in t a) ≡ false
        → F (own_drop (own_elsewhere a own) ++ Put (key.Device a) (row.Device fresh) ∷ [])
    offer_again mine within unbound =
        let first = own_chosen (is_free t now pool) pool own (at_address (named_address m)) address mine within in
        let both : Some a ≡ Some address = sym chosen ∙ first in
        let same : a ≡ address = cc in
        subst (λ (x : Ip4). F (own_drop (own_elsewhere a own) ++ Put (key.Device x) (row.Device fresh) ∷ [])) (sym same)
        (put_keeps fresh (own_elsewhere a own) mine refl (λ b.
        let row : Some lease ≡ Some (device_until (Bound owner.0 owner.1) b.expiry) = sym there ∙ b.is in
        let is : lease ≡ device_until (Bound owner.0 owner.1) b.expiry = cc in
        let lives : now < b.expiry = subst (λ (l : DeviceLease). now < l.expiry.0) is live in
        let bound : passes (is_live_bound now) (device_in t a) ≡ true = ap (λ (x : Ip4). passes (is_live_bound now) (device_in t x)) same ∙ ap (passes (is_live_bound now)) b.is ∙ lt-ltb now b.expiry lives in
        let clash : true ≡ false = sym bound ∙ unbound in
        cc))

    offer_own : own ≡ Some address → passes (is_live_bound now) (device_in t a) ≡ false → F (own_drop (own_elsewhere a own) ++ Put (key.Device a) (row.Device fresh) ∷ [])
    offer_own mine unbound =
        elim (has_address pool address) as (λ b. has_address pool address ≡ b → F (own_drop (own_elsewhere a own) ++ Put (key.Device a) (row.Device fresh) ∷ [])) [
          | true ↦ λ within. offer_again mine within unbound
          | false ↦ λ without. gives (is_owner mine) (inl (leaves pool d among without))
        ] refl

    offer_fate : (writes : List Write) → writes ≡ offered now modem (client m) own a (device_in t a) → F writes
    offer_fate writes is =
        elim (passes (is_live_bound now) (device_in t a)) as (λ b. passes (is_live_bound now) (device_in t a) ≡ b
        → writes ≡ cond b [] (own_drop (own_elsewhere a own) ++ Put (key.Device a) (row.Device fresh) ∷ []) → F writes) [
          | true ↦ λ bound e. unwritten writes e
          | false ↦ λ unbound e.
              same_writes writes _ e
              (elim (some_or ip_or own address) as (λ c. F (own_drop (own_elsewhere a own) ++ Put (key.Device a) (row.Device fresh) ∷ [])) [
                | inl mine ↦ offer_own mine unbound
                | inr apart ↦ offer_aside apart
              ])
        ] refl is

  -- ---- what it claims is its own

  claim_fate : (a : Ip4) (writes : List Write) → own ≡ Some a → (a ≡ address → F writes) → ((address ≡ a → ⊥) → F writes) → F writes
  claim_fate a writes mine here aside =
      elim (ip_or a address) as (λ c. F writes) [
        | inl same ↦ here same
        | inr apart ↦ aside (λ same. apart (sym same))
      ]

  step_fate : (step : DeviceStep) → Aims t now modem m (pool_among (device_pools t) m) own step → F step.writes
  step_fate step (idle e) = unwritten step.writes e
  step_fate step (offering pool a d among chosen e said) = offer_fate pool a d among chosen step.writes e
  step_fate step (binding a site mine e said) =
      let ws : List Write = bound now modem (client m) a site in
      same_writes step.writes ws e
      (claim_fate a ws mine
      (λ same.
      let its : own ≡ Some address = mine ∙ ap Some same in
      subst (λ (x : Ip4). F (Put (key.Device x) (row.Device (lease_for (Bound modem (client m)) site.lease now)) ∷ [])) (sym same)
      (put_keeps (lease_for (Bound modem (client m)) site.lease now) None its refl
      (λ b. (later_by site.lease now, λ i. device_until (Bound (is_owner its i).0 (is_owner its i).1) (later_by site.lease now)))))
      (λ apart. stays (given_other t (lease_for (Bound modem (client m)) site.lease now) a None address apart (λ f. cc))))
  step_fate step (resting a k claim mine e) =
      let ws : List Write = set_aside now a in
      same_writes step.writes ws e
      (claim_fate a ws mine
      (λ same. gives (is_owner (mine ∙ ap Some same)) (inr (record { kind = inl (eqb-true m.kind 4 k); claim = claim ∙ ap Some same })))
      (λ apart. stays (given_other t (lease_for Declined 600 now) a None address apart (λ f. cc))))
  step_fate step (freeing a k claim mine e) =
      let ws : List Write = given_up a in
      same_writes step.writes ws e
      (claim_fate a ws mine
      (λ same. gives (is_owner (mine ∙ ap Some same)) (inr (record { kind = inr (eqb-true m.kind 7 k); claim = claim ∙ ap Some same })))
      (λ apart. stays (dropped_other t a address apart)))

  pub fate : Fate t m modem owner address (after_step t now m modem)
  fate = step_fate (step_behind t now m modem) (aims t now m modem)
