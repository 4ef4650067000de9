-- What the four words that act say of the tables behind them.
use Rattle.std.proofs.Common.{◌≡◌, ℕ, true, false, cond, ltb, Option, Some, None, option_and_then, [], List, ◌⊎◌, inl, inr, refl, sym, ap, subst, ◌∙◌, arith}
use Rattle.std.proofs.lemmas.Bool.{and_parts, leb-true, ltb-true}
use Rattle.off_base.specs.declared.macs.Mac.{Mac}
use Rattle.off_defs.specs.declared.tables.Hold.{Hold}
use Rattle.off_defs.specs.declared.tables.Hold.TheVariants.{Offered, Bound, Declined}
use Rattle.off_defs.specs.declared.tables.Lease.{Lease}
use Rattle.off_defs.specs.declared.writes.Write.{Write}
use Rattle.off_defs.specs.Clock.{later_by}
use Rattle.off_defs.specs.State.{Tables}
use Rattle.off_defs.specs.Tables.{write_all}
use Rattle.off_dhcp.specs.Datagram.{Received}
use Rattle.off_account_rules.specs.Rows.{passes, lease_in, held_in, has_address}
use Rattle.off_account_rules.specs.Good.{owner_of, is_bound, is_live_bound}
use Rattle.off_lease_rules.specs.Words.{acts}
use Rattle.off_asking.specs.Asking.{client, named_address, at_address}
use Rattle.off_lease_rules.specs.Free.{has_ended, is_free}
use Rattle.off_lease_rules.specs.Steps.{lease_step}
use Rattle.off_lease_rules.specs.declared.results.LeaseStep.{LeaseStep}
use Rattle.off_lease_rules.specs.declared.words.DhcpWord.TheVariants as word
use Rattle.off_lease_laws.specs.Outcomes.{WasOffered, WasBound, WasDeclined, WasReleased, Outcome, refusal, offering, binding, declining, releasing}
use Rattle.off_lease_laws.specs.Moves.{HoldersAgree}
use Rattle.off_lease_laws.specs.Effects.{lease_until, IsLiveBound, IsOfferedBy, IsBoundBy, IsDeclinedBy, IsReleasedBy}
use Rattle.off_lease_laws.specs.Laws.{OffersHold, AcksBind, DeclinesRest, ReleasesFree}
use Rattle.off_lease_laws.proofs.OutcomeLemmas.{outcome}
use Rattle.off_lease_laws.proofs.ChoiceLemmas.{pool_there, chosen_fits}
use Rattle.off_lease_laws.proofs.ChangeLemmas.{offered_writes, offer_lease_here, offer_held_here, bound_lease, bound_held, declined_lease, declined_held, released_lease, released_held}

-- a lease that is live and bound is bound to its owner
bound_owner : (hold : Hold) (mac : Mac) → is_bound hold ≡ true → owner_of hold ≡ Some mac → hold ≡ Bound mac
bound_owner (Offered other) mac b o = cc
bound_owner (Bound other) mac b o = ap Bound (let same : other ≡ mac = cc in same)
bound_owner Declined mac b o = cc

pub live_bound : (now : ℕ) (mac : Mac) (o : Option Lease) → passes (is_live_bound now) o ≡ true → option_and_then (λ (lease : Lease). owner_of lease.hold) o ≡ Some mac
    → IsLiveBound now mac o
live_bound now mac None h e = cc
live_bound now mac (Some lease) h e =
    let parts = and_parts (is_bound lease.hold) (ltb now lease.expiry.0) h in
    record { expiry = lease.expiry.0; bound = ap (λ hold. Some (lease_until hold lease.expiry.0)) (bound_owner lease.hold mac parts.0 e); live = ltb-true now lease.expiry.0 parts.1 }

pub live_not_ended : (now : ℕ) (o : Option Lease) → passes (is_live_bound now) o ≡ true → has_ended now o ≡ true → ⊥
live_not_ended now None h e = cc
live_not_ended now (Some lease) h e =
    let live = ltb-true now lease.expiry.0 (and_parts (is_bound lease.hold) (ltb now lease.expiry.0) h).1 in
    let ended = leb-true lease.expiry.0 now e in
    omega (arith, live, ended)

module _ (t : Tables) (now : ℕ) (m : Received) (step : LeaseStep) where
  module _ (agree : HoldersAgree t) (was : WasOffered t now m step) where
    fits : (has_address was.pool was.address ≡ true) × ((held_in t (client m) ≡ Some was.address) ⊎ (is_free t now was.pool was.address ≡ true))
    fits = chosen_fits t now was.pool (held_in t (client m)) (at_address (named_address m)) was.address was.chosen

    given : Lease
    given = lease_until (Offered (client m)) (later_by 120 now)

    -- who is bound already is offered the address that it holds
    already : passes (is_live_bound now) (lease_in t was.address) ≡ true → held_in t (client m) ≡ Some was.address
    already live =
        elim fits.1 as (λ s. held_in t (client m) ≡ Some was.address) [
          | inl held ↦ held
          | inr free ↦ absurd (live_not_ended now (lease_in t was.address) live (and_parts (has_address was.pool was.address) (has_ended now (lease_in t was.address)) free).1)
        ]

    offer_by : (writes : List Write) → ((lease_in (write_all t writes) was.address ≡ Some given) ⊎ IsLiveBound now (client m) (lease_in (write_all t writes) was.address))
        → held_in (write_all t writes) (client m) ≡ Some was.address → step.writes ≡ writes → IsOfferedBy t now m step
    unfolding given
    offer_by writes lease held e = record {
      site = was.site;
      pool = was.pool;
      address = was.address;
      site_is = was.site_is;
      reply = was.reply;
      lease = subst (λ (w : List Write). (lease_in (write_all t w) was.address ≡ Some given) ⊎ IsLiveBound now (client m) (lease_in (write_all t w) was.address)) (sym e) lease;
      held = ap (λ (w : List Write). held_in (write_all t w) (client m)) e ∙ held;
      in_pool = pool_there t m was.pool was.site was.address was.pool_is was.asking was.site_is fits.0;
    }

    offer_holds : IsOfferedBy t now m step
    unfolding given
    offer_holds =
        elim (passes (is_live_bound now) (lease_in t was.address)) as (λ b. passes (is_live_bound now) (lease_in t was.address) ≡ b
        → step.writes ≡ cond b [] (offered_writes t (client m) was.address given refl) → IsOfferedBy t now m step) [
          | true ↦ λ live e.
              let held = already live in
              offer_by [] (inr (live_bound now (client m) (lease_in t was.address) live ((agree (client m) was.address).1 held))) held e
          | false ↦ λ no e.
              offer_by (offered_writes t (client m) was.address given refl) (inl (offer_lease_here t (client m) was.address given refl)) (offer_held_here t (client m) was.address given refl) e
        ] refl was.writes

  ack_binds : WasBound t now m step → IsBoundBy t now m step
  ack_binds was = record {
    site = was.site;
    pool = was.pool;
    address = was.address;
    site_is = was.site_is;
    pool_is = was.pool_is;
    claim = was.claim;
    reply = was.reply;
    lease = ap (λ writes. lease_in (write_all t writes) was.address) was.writes ∙ bound_lease t (client m) was.address now was.site;
    held = ap (λ writes. held_in (write_all t writes) (client m)) was.writes ∙ bound_held t (client m) was.address now was.site (client m) ∙ was.held;
    in_pool = pool_there t m was.pool was.site was.address was.pool_is was.asking was.site_is was.within;
  }

  decline_rests : WasDeclined t now m step → IsDeclinedBy t now m step
  decline_rests was = record {
    address = was.address;
    claim = was.claim;
    reply = was.reply;
    lease = ap (λ writes. lease_in (write_all t writes) was.address) was.writes ∙ declined_lease t (client m) was.address now;
    held = ap (λ writes. held_in (write_all t writes) (client m)) was.writes ∙ declined_held t (client m) was.address now;
  }

  release_frees : WasReleased t m step → IsReleasedBy t m step
  release_frees was = record {
    address = was.address;
    claim = was.claim;
    reply = was.reply;
    lease = ap (λ writes. lease_in (write_all t writes) was.address) was.writes ∙ released_lease t (client m) was.address;
    held = ap (λ writes. held_in (write_all t writes) (client m)) was.writes ∙ released_held t (client m) was.address;
  }

  -- each word belongs to one outcome
  by_offer : HoldersAgree t → Outcome t now m step → step.word ≡ word.Offer → IsOfferedBy t now m step
  by_offer agree (offering was) e = offer_holds agree was
  by_offer agree (refusal was) e = let quiet : acts word.Offer ≡ false = ap acts (sym e) ∙ was.said in cc
  by_offer agree (binding was) e = let said = was.said in cc
  by_offer agree (declining was) e = let said = was.said in cc
  by_offer agree (releasing was) e = let said = was.said in cc

  by_ack : Outcome t now m step → step.word ≡ word.Ack → IsBoundBy t now m step
  by_ack (binding was) e = ack_binds was
  by_ack (refusal was) e = let quiet : acts word.Ack ≡ false = ap acts (sym e) ∙ was.said in cc
  by_ack (offering was) e = let said = was.said in cc
  by_ack (declining was) e = let said = was.said in cc
  by_ack (releasing was) e = let said = was.said in cc

  by_decline : Outcome t now m step → step.word ≡ word.Declined → IsDeclinedBy t now m step
  by_decline (declining was) e = decline_rests was
  by_decline (refusal was) e = let quiet : acts word.Declined ≡ false = ap acts (sym e) ∙ was.said in cc
  by_decline (offering was) e = let said = was.said in cc
  by_decline (binding was) e = let said = was.said in cc
  by_decline (releasing was) e = let said = was.said in cc

  by_release : Outcome t now m step → step.word ≡ word.Released → IsReleasedBy t m step
  by_release (releasing was) e = release_frees was
  by_release (refusal was) e = let quiet : acts word.Released ≡ false = ap acts (sym e) ∙ was.said in cc
  by_release (offering was) e = let said = was.said in cc
  by_release (binding was) e = let said = was.said in cc
  by_release (declining was) e = let said = was.said in cc

pub offers_hold : OffersHold
offers_hold t now m agree e = by_offer t now m (lease_step t now m) agree (outcome t now m) e

pub acks_bind : AcksBind
acks_bind t now m e = by_ack t now m (lease_step t now m) (outcome t now m) e

pub declines_rest : DeclinesRest
declines_rest t now m e = by_decline t now m (lease_step t now m) (outcome t now m) e

pub releases_free : ReleasesFree
releases_free t now m e = by_release t now m (lease_step t now m) (outcome t now m) e
