-- What a turn of a modem that waits leaves of its address: it's still its own, and bound where it was bound.
use Rattle.std.proofs.Common.{◌≡◌, ◌⊎◌, ℕ, ◌<◌, true, List, [], Option, Some, None, option_and_then, inl, inr, refl, sym, ap, subst, ◌∙◌}
use Rattle.std.proofs.lemmas.Bool.{lt-ltb}
use Rattle.off_base.specs.declared.addresses.Ip4.{Ip4}
use Rattle.off_base.specs.declared.addresses.Peer.{Peer}
use Rattle.off_base.specs.declared.macs.Mac.{Mac}
use Rattle.off_defs.specs.declared.events.Service.TheVariants.{Dhcp}
use Rattle.off_defs.specs.declared.events.What.{What}
use Rattle.off_defs.specs.declared.events.What.TheVariants.{Datagram}
use Rattle.off_defs.specs.declared.results.Outcome.{Outcome}
use Rattle.off_defs.specs.declared.results.Outcome.TheVariants.{Did, Memory, Keeper}
use Rattle.off_defs.specs.declared.tables.Pool.{Pool}
use Rattle.off_defs.specs.declared.tables.Lease.{Lease}
use Rattle.off_defs.specs.Clock.{later_by}
use Rattle.off_defs.specs.State.{Tables, State, Effect, at_moment}
use Rattle.off_defs.specs.Tables.{write_all}
use Rattle.off_dhcp.specs.Datagram.{Received}
use Rattle.off_account_rules.specs.Rows.{passes, lease_in, held_in, has_address}
use Rattle.off_account_rules.specs.Good.{Good, owner_of, is_live_bound}
use Rattle.off_table_laws.specs.Laws.{owner_in}
use Rattle.off_lease_rules.specs.declared.cases.Case.{Case}
use Rattle.off_lease_rules.specs.declared.results.LeaseStep.{LeaseStep}
use Rattle.off_lease_rules.specs.declared.words.DhcpWord.{DhcpWord}
use Rattle.off_lease_rules.specs.declared.words.DhcpWord.TheVariants as word
use Rattle.off_asking.specs.Asking.{client, claimed}
use Rattle.off_lease_rules.specs.Free.{pool_for, case_of, chosen_in}
use Rattle.off_asking.specs.Claims.{refused_by}
use Rattle.off_lease_rules.specs.Rules.{rules_for}
use Rattle.off_lease_rules.specs.Steps.{accepts, unless_refused, lease_step_for, lease_step, dhcp_step}
use Rattle.off_lease_laws.specs.Outcomes.{WasOffered}
use Rattle.off_lease_laws.specs.Effects.{bound_until, IsBoundBy}
use Rattle.off_lease_laws.proofs.EffectLemmas.{acks_bind}
use Rattle.off_lease_laws.proofs.OutcomeLemmas.{outcome}
use Rattle.off_lease_laws.proofs.LawLemmas.{messages_do}
use Rattle.off_lease_laws.proofs.GoodLemmas.{good_agree}
use Rattle.off_query_rules.specs.Asked.{query_of}
use Rattle.off_cpe_rules.specs.declared.results.DeviceStep.{DeviceStep}
use Rattle.off_book.specs.Dhcp.{MessageDid, DatagramDid, device_of, device_effect}
use Rattle.off_laws.proofs.Devices.{device_told, lease_aside}
use Rattle.off_book.specs.Step.{Step, Does}
use Rattle.off_book.specs.Run.{Turn, effect_of}
use Rattle.off_laws.specs.Leases.{TakesMessage, DoesNotServe, moment_of}
use Rattle.off_laws.proofs.StepLaws.{moment_is_greatest}
use Rattle.off_laws.proofs.Outlasting.{turn_outlasts}
use Rattle.off_boot_laws.specs.Waiting.{IsDiscoverFor, IsRequestFor, AsksAgain, LeaseLasts, IsBoundTo, KeepsAddress}
use Rattle.off_boot_laws.proofs.Pooling.{pool_is_found}
use Rattle.off_boot_laws.proofs.Messages.{of_kind, kind_is, offering_of, own_chosen, bound_stays, offers_one, same_address}

-- ---- a message of a kind is refused, or has its word

abbrev IsRefusedOr : DhcpWord → LeaseStep → Type 0
IsRefusedOr said step = (step.writes ≡ []) ⊎ (step.word ≡ said)

refused_or : (m : Received) (c : Case) (step : LeaseStep) (o : Option DhcpWord) → IsRefusedOr step.word (unless_refused m c step o)
refused_or m c step None = inr refl
refused_or m c step (Some said) = inl refl

module _ (t : Tables) (now : ℕ) (m : Received) where
  abbrev chosen : Option Ip4
  chosen = chosen_in t now m (case_of t m)

  abbrev accepted : LeaseStep
  accepted = accepts now m (case_of t m) chosen (option_and_then (lease_in t) chosen)

  settled_or : IsRefusedOr accepted.word (lease_step t now m)
  unfolding lease_step lease_step_for
  settled_or = refused_or m (case_of t m) accepted (refused_by (rules_for m (case_of t m) chosen))

module _ (t : Tables) (now : ℕ) (m : Received) where
  discover_of : IsRefusedOr word.Offer (lease_step t now (of_kind 1 m))
  discover_of = settled_or t now (of_kind 1 m)

  request_of : IsRefusedOr word.Ack (lease_step t now (of_kind 3 m))
  request_of = settled_or t now (of_kind 3 m)

  discover_offers : m.kind ≡ 1 → IsRefusedOr word.Offer (lease_step t now m)
  discover_offers kind = subst (λ (n : Received). IsRefusedOr word.Offer (lease_step t now n)) (kind_is m 1 kind) discover_of

  request_binds : m.kind ≡ 3 → IsRefusedOr word.Ack (lease_step t now m)
  request_binds kind = subst (λ (n : Received). IsRefusedOr word.Ack (lease_step t now n)) (kind_is m 3 kind) request_of

-- ---- who owns a lease

pub record Owned (mac : Mac) (o : Option Lease) : Type 0 where
  pub lease : Lease
  pub is : o ≡ Some lease
  pub owned : owner_of lease.hold ≡ Some mac

pub owned_lease : (mac : Mac) (o : Option Lease) → option_and_then (λ (lease : Lease). owner_of lease.hold) o ≡ Some mac → Owned mac o
owned_lease mac None e = cc
owned_lease mac (Some lease) e = record { lease = lease; is = refl; owned = e }

pub bound_owned : (mac : Mac) (address : Ip4) (t : Tables) → IsBoundTo mac address t → owner_in t address ≡ Some mac
bound_owned mac address t b = ap (option_and_then (λ (lease : Lease). owner_of lease.hold)) b.is

same_lease : (mac : Mac) (address : Ip4) (t u : Tables) → lease_in u address ≡ lease_in t address → owner_in t address ≡ Some mac → KeepsAddress mac address t u
same_lease mac address t u same owned = record {
  owned = ap (option_and_then (λ (lease : Lease). owner_of lease.hold)) same ∙ owned;
  bound = λ b. record { expiry = b.expiry; is = same ∙ b.is };
}

same_tables : (mac : Mac) (address : Ip4) (t u : Tables) → u ≡ t → owner_in t address ≡ Some mac → KeepsAddress mac address t u
same_tables mac address t u same owned = same_lease mac address t u (ap (λ (v : Tables). lease_in v address) same) owned

bound_keeps : (mac : Mac) (address : Ip4) (expiry : ℕ) (t u : Tables) → lease_in u address ≡ Some (bound_until mac expiry) → KeepsAddress mac address t u
bound_keeps mac address expiry t u there = record {
  owned = ap (option_and_then (λ (lease : Lease). owner_of lease.hold)) there;
  bound = λ b. record { expiry = expiry; is = there };
}

-- ---- its own message again

pub one_pool : (a b : Pool) (o : Option Pool) → o ≡ Some a → o ≡ Some b → a ≡ b
one_pool a b o e f = let both : ◌≡◌ {A = Option Pool} (Some a) (Some b) = sym e ∙ f in cc

module _ (t : Tables) (now : ℕ) (m : Received) (address : Ip4) (good : Good t) (lasts : (lease : Lease) → lease_in t address ≡ Some lease → now < lease.expiry.0)
    (owned : owner_in t address ≡ Some (client m)) where
  held : held_in t (client m) ≡ Some address
  held = (good_agree t good (client m) address).0 owned

  abbrev step : LeaseStep
  step = lease_step t now m

  abbrev Kept : Type 0
  Kept = KeepsAddress (client m) address t (write_all t step.writes)

  refused_keeps : step.writes ≡ [] → Kept
  refused_keeps none = same_tables (client m) address t (write_all t step.writes) (ap (write_all t) none) owned

  -- a lease that is bound is offered as it is
  lives : (b : IsBoundTo (client m) address t) → passes (is_live_bound now) (lease_in t address) ≡ true
  lives b = ap (passes (is_live_bound now)) b.is ∙ lt-ltb now b.expiry (lasts (bound_until (client m) b.expiry) b.is)

  offered_keeps : (d : IsDiscoverFor t m address) → WasOffered t now m step → Kept
  offered_keeps d was =
      let agree = good_agree t good in
      let found : pool_for t m ≡ Some d.pool = pool_is_found t m d.number d.pool good d.pool_is d.pooled in
      let pool : d.pool ≡ was.pool = one_pool d.pool was.pool (pool_for t m) found was.pool_is in
      let own : was.address ≡ address = own_chosen t now m agree step was address held (subst (λ (p : Pool). has_address p address ≡ true) pool d.within) in
      let one = offers_one t now m agree step was in
      let same : one.address ≡ address = one.own address held (subst (λ (p : Pool). has_address p address ≡ true) (one_pool d.pool one.pool (pool_for t m) found one.pool_is) d.within) in
      record {
        owned = subst (λ (a : Ip4). owner_in (write_all t step.writes) a ≡ Some (client m)) same
            (ap (option_and_then (λ (lease : Lease). owner_of lease.hold)) one.lease_is ∙ one.owned);
        bound = λ b.
            let none : step.writes ≡ [] =
            bound_stays t now m agree step was (subst (λ (a : Ip4). passes (is_live_bound now) (lease_in t a) ≡ true) (sym own) (lives b)) in
            record { expiry = b.expiry; is = ap (λ writes. lease_in (write_all t writes) address) none ∙ b.is };
      }

  acknowledged_keeps : claimed m ≡ Some address → IsBoundBy t now m step → Kept
  acknowledged_keeps claim acked =
      let same : acked.address ≡ address = same_address acked.address address (claimed m) acked.claim claim in
      bound_keeps (client m) address (later_by acked.site.lease now) t (write_all t step.writes)
      (subst (λ (a : Ip4). lease_in (write_all t step.writes) a ≡ Some (bound_until (client m) (later_by acked.site.lease now))) same acked.lease)

  discover_keeps : IsDiscoverFor t m address → Kept
  discover_keeps d =
      elim (discover_offers t now m d.kind) as (λ s. Kept) [
        | inl none ↦ refused_keeps none
        | inr said ↦ offered_keeps d (offering_of t now m step (outcome t now m) said)
      ]

  request_keeps : IsRequestFor m address → Kept
  request_keeps r =
      elim (request_binds t now m r.kind) as (λ s. Kept) [
        | inl none ↦ refused_keeps none
        | inr said ↦ acknowledged_keeps r.claim (acks_bind t now m said)
      ]

  asks_keeps : IsDiscoverFor t m address ⊎ IsRequestFor m address → Kept
  asks_keeps (inl d) = discover_keeps d
  asks_keeps (inr r) = request_keeps r

-- ---- the turn

-- all leases of modems are as they were
abbrev LeasesStay : Tables → Tables → Type 0
LeasesStay t u = (a : Ip4) → lease_in u a ≡ lease_in t a

stay_in : (s : State) (effect other : Effect) → effect ≡ other → other.after ≡ s → LeasesStay s.tables effect.after.tables
stay_in s effect other is same a = ap (λ (e : Effect). lease_in e.after.tables a) is ∙ ap (λ (u : State). lease_in u.tables a) same

-- a device's message leaves them
did_own : (s : State) (bytes : List ℕ) (effect : Effect) (step : Option DeviceStep) → device_of s.tables s.held.now bytes ≡ step → MessageDid s bytes effect step
    → LeasesStay s.tables effect.after.tables ⊎ (effect.after.tables ≡ write_all s.tables (dhcp_step s.tables s.held.now bytes).writes)
did_own s bytes effect (Some step) is did =
    let d = device_told s.tables s.held.now bytes step is in
    inl (λ a. ap (λ (e : Effect). lease_in e.after.tables a) (did ∙ ap (device_effect s) d.does) ∙ lease_aside s.tables s.held.now d.message d.modem a)
did_own s bytes effect None is did = inr (ap (λ (e : Effect). e.after.tables) did)

did_message : (s : State) (bytes : List ℕ) (effect : Effect) (query : Option (List ℕ)) → DatagramDid s bytes effect query
    → LeasesStay s.tables effect.after.tables ⊎ (effect.after.tables ≡ write_all s.tables (dhcp_step s.tables s.held.now bytes).writes)
did_message s bytes effect (Some q) did = inl (stay_in s effect _ did refl)
did_message s bytes effect None did = did_own s bytes effect (device_of s.tables s.held.now bytes) refl did

-- a turn that takes a message leaves the leases, or does what the message asks
does_message : (s : State) (from : Peer) (bytes : List ℕ) (outcome : Outcome) (effect : Effect) → Does s (Datagram Dhcp from bytes) outcome effect
    → LeasesStay s.tables effect.after.tables ⊎ (effect.after.tables ≡ write_all s.tables (dhcp_step s.tables s.held.now bytes).writes)
does_message s from bytes Did effect does = did_message s bytes effect (query_of bytes) does
does_message s from bytes Memory effect does = inl (stay_in s effect _ does refl)
does_message s from bytes Keeper effect does = inl (stay_in s effect _ does refl)

turn_message : (s after : State) (turn : Turn) (m : Received) → Step s turn.event turn.outcome (effect_of turn after) → TakesMessage m turn
    → LeasesStay s.tables after.tables ⊎ (after.tables ≡ write_all s.tables (lease_step s.tables (moment_of s turn) m).writes)
unfolding Step
turn_message s after turn m step takes =
    subst (λ (l : LeaseStep). LeasesStay s.tables after.tables ⊎ (after.tables ≡ write_all s.tables l.writes)) (messages_do s.tables (moment_of s turn) takes.bytes m takes.read)
    (does_message (at_moment s turn.event.at.0) takes.from takes.bytes turn.outcome (effect_of turn after)
    (subst (λ (what : What). Does (at_moment s turn.event.at.0) what turn.outcome (effect_of turn after)) takes.came step))

module _ (s after : State) (turn : Turn) (mac : Mac) (address : Ip4) (step : Step s turn.event turn.outcome (effect_of turn after)) (good : Good s.tables)
    (owned : owner_in s.tables address ≡ Some mac) (lasts : LeaseLasts address s turn) where
  again_keeps : AsksAgain mac address s turn → KeepsAddress mac address s.tables after.tables
  again_keeps a =
      elim (turn_message s after turn a.message step a.takes) as (λ c. KeepsAddress mac address s.tables after.tables) [
        | inl same ↦ same_lease mac address s.tables after.tables (same address) owned
        | inr written ↦
            subst (λ (u : Tables). KeepsAddress mac address s.tables u) (sym written)
            (subst (λ (w : Mac). KeepsAddress w address s.tables (write_all s.tables (lease_step s.tables (moment_of s turn) a.message).writes)) a.sender
            (asks_keeps s.tables (moment_of s turn) a.message address good lasts (owned ∙ ap Some (sym a.sender)) a.asks))
      ]

  quiet_keeps : DoesNotServe mac turn → KeepsAddress mac address s.tables after.tables
  quiet_keeps quiet =
      let lease = owned_lease mac (lease_in s.tables address) owned in
      let moment = moment_is_greatest s turn.event turn.outcome (effect_of turn after) step in
      same_lease mac address s.tables after.tables
      (turn_outlasts address lease.lease mac lease.owned s after turn step good lease.is
      (subst (λ (n : ℕ). n < lease.lease.expiry.0) (sym moment) (lasts lease.lease lease.is)) quiet
      ∙ sym lease.is) owned

  pub turn_keeps : DoesNotServe mac turn ⊎ AsksAgain mac address s turn → KeepsAddress mac address s.tables after.tables
  turn_keeps (inl quiet) = quiet_keeps quiet
  turn_keeps (inr again) = again_keeps again
