-- Where leases and holders agree, a message moves one client to one address, and they agree again.
use Rattle.std.proofs.Common.{◌≡◌, ℕ, true, false, cond, Some, option_and_then, [], List, ◌⊎◌, inl, inr, refl, sym, ap, subst, ◌∙◌}
use Rattle.std.proofs.lemmas.Bool.{and_parts}
use Rattle.off_base.specs.declared.addresses.Ip4.{Ip4}
use Rattle.off_base.specs.declared.macs.Mac.{Mac}
use Rattle.off_defs.specs.declared.tables.Hold.TheVariants.{Offered}
use Rattle.off_defs.specs.declared.tables.Lease.{Lease}
use Rattle.off_defs.specs.declared.writes.Write.{Write}
use Rattle.off_defs.specs.Clock.{later_by}
use Rattle.off_defs.specs.State.{Tables}
use Rattle.off_defs.specs.Tables.{write_all}
use Rattle.off_dhcp.specs.Datagram.{Received}
use Rattle.off_account_rules.specs.Rows.{passes, lease_in, held_in, has_address}
use Rattle.off_account_rules.specs.Good.{owner_of, is_live_bound}
use Rattle.off_table_laws.specs.Laws.{owner_in}
use Rattle.off_asking.specs.Asking.{client, named_address, at_address}
use Rattle.off_lease_rules.specs.Free.{has_ended, is_free}
use Rattle.off_lease_rules.specs.Steps.{lease_step}
use Rattle.off_lease_rules.specs.declared.results.LeaseStep.{LeaseStep}
use Rattle.off_lease_laws.specs.Outcomes.{WasOffered, WasBound, WasDeclined, WasReleased, Outcome, refusal, offering, binding, declining, releasing}
use Rattle.off_lease_laws.specs.Moves.{HoldersAgree, Reassigns, LiesInAPool, WasOpenTo, Moves}
use Rattle.off_lease_laws.proofs.Tests.{ip_or, mac_or, some_or}
use Rattle.off_lease_laws.proofs.OutcomeLemmas.{outcome}
use Rattle.off_lease_laws.proofs.ChoiceLemmas.{pool_there, chosen_fits}
use Rattle.off_lease_laws.proofs.ChangeLemmas.{offered_writes, offer_changes, bound_changes, declined_owner, declined_changes, released_owner, released_changes}

-- ---- they agree again

module _ (mac : Mac) (address : Ip4) (old new : Tables) (c : Reassigns mac address old new) (agree : HoldersAgree old) where
  -- who owns an address that isn't this one
  owner_apart : (other : Ip4) (who : Mac) → (other ≡ address → ⊥) → owner_in new other ≡ Some who → (held_in old mac ≡ Some other → ⊥) × (owner_in old other ≡ Some who)
  owner_apart other who apart e =
      elim (some_or ip_or (held_in old mac) other) as (λ s. (held_in old mac ≡ Some other → ⊥) × (owner_in old other ≡ Some who)) [
        | inl same ↦ let none = ap (option_and_then (λ (lease : Lease). owner_of lease.hold)) (c.left other apart same) in cc
        | inr differs ↦ (differs, sym (ap (option_and_then (λ (lease : Lease). owner_of lease.hold)) (c.other_leases other apart differs)) ∙ e)
      ]

  -- what is held by a client that isn't this one
  held_apart : (who : Mac) (other : Ip4) → (who ≡ mac → ⊥) → held_in new who ≡ Some other → (owner_in old address ≡ Some who → ⊥) × (held_in old who ≡ Some other)
  held_apart who other apart e =
      elim (some_or mac_or (owner_in old address) who) as (λ s. (owner_in old address ≡ Some who → ⊥) × (held_in old who ≡ Some other)) [
        | inl same ↦ let none = c.lost who apart same in cc
        | inr differs ↦ (differs, sym (c.other_holders who apart differs) ∙ e)
      ]

  here_held : (who : Mac) → owner_in new address ≡ Some who → held_in new who ≡ Some address
  here_held who e =
      elim c.taken as (λ s. held_in new who ≡ Some address) [
        | inl both ↦ let same : who ≡ mac = cc in ap (held_in new) same ∙ both.1
        | inr none ↦ let o = none.0 in cc
      ]

  owner_holds : (who : Mac) (other : Ip4) → owner_in new other ≡ Some who → held_in new who ≡ Some other
  owner_holds who other e =
      elim (ip_or other address) as (λ s. held_in new who ≡ Some other) [
        | inl same ↦ here_held who (ap (owner_in new) (sym same) ∙ e) ∙ ap Some (sym same)
        | inr apart ↦
            let before = owner_apart other who apart e in
            let held = (agree who other).0 before.1 in
            let not_mac : who ≡ mac → ⊥ = λ same. before.0 (ap (held_in old) (sym same) ∙ held) in
            let not_owner : owner_in old address ≡ Some who → ⊥ = λ o. let h = (agree who address).0 o in apart (let same : other ≡ address = cc in same) in
            c.other_holders who not_mac not_owner ∙ held
      ]

  mine_owned : (other : Ip4) → held_in new mac ≡ Some other → owner_in new other ≡ Some mac
  mine_owned other e =
      elim c.taken as (λ s. owner_in new other ≡ Some mac) [
        | inl both ↦ let h = both.1 in let same : other ≡ address = cc in ap (owner_in new) same ∙ both.0
        | inr none ↦ let h = none.1 in cc
      ]

  holder_owns : (who : Mac) (other : Ip4) → held_in new who ≡ Some other → owner_in new other ≡ Some who
  holder_owns who other e =
      elim (mac_or who mac) as (λ s. owner_in new other ≡ Some who) [
        | inl same ↦ mine_owned other (ap (held_in new) (sym same) ∙ e) ∙ ap Some (sym same)
        | inr apart ↦
            let before = held_apart who other apart e in
            let owner = (agree who other).1 before.1 in
            let not_here : other ≡ address → ⊥ = λ same. before.0 (ap (owner_in old) (sym same) ∙ owner) in
            let not_held : held_in old mac ≡ Some other → ⊥ = λ h. let o = (agree mac other).1 h in apart (let same : who ≡ mac = cc in same) in
            ap (option_and_then (λ (lease : Lease). owner_of lease.hold)) (c.other_leases other not_here not_held) ∙ owner
      ]

  pub changes_agree : HoldersAgree new
  changes_agree who other = (owner_holds who other, holder_owns who other)

-- ---- each outcome is a move

module _ (t : Tables) (now : ℕ) (m : Received) where
  chosen_open : (pool : _) (address : Ip4) → LiesInAPool t address → (held_in t (client m) ≡ Some address) ⊎ (is_free t now pool address ≡ true) → WasOpenTo now (client m) address t
  chosen_open pool address lies (inl held) = inl held
  chosen_open pool address lies (inr free) = inr ((and_parts (has_address pool address) (has_ended now (lease_in t address)) free).1, lies)

  module _ (step : LeaseStep) where
    offer_moves : WasOffered t now m step → Moves now (client m) t (write_all t step.writes)
    offer_moves was =
        let fits = chosen_fits t now was.pool (held_in t (client m)) (at_address (named_address m)) was.address was.chosen in
        let lies = pool_there t m was.pool was.site was.address was.pool_is was.asking was.site_is fits.0 in
        let lease : Lease = record { hold = Offered (client m); expiry = record { 0 = later_by 120 now } } in
        subst (λ (writes : List Write). Moves now (client m) t (write_all t writes)) (sym was.writes)
        (elim (passes (is_live_bound now) (lease_in t was.address)) as (λ b.
        Moves now (client m) t (write_all t (cond b [] (offered_writes t (client m) was.address lease refl)))) [
          | true ↦ inl refl
          | false ↦ inr (record {
            address = was.address;
            changes = offer_changes t (client m) was.address lease refl;
            was_open = chosen_open was.pool was.address lies fits.1;
            in_pool = λ _. lies;
          })
        ])

    module _ (agree : HoldersAgree t) where
      bound_moves : WasBound t now m step → Moves now (client m) t (write_all t step.writes)
      bound_moves was =
          subst (λ (writes : List Write). Moves now (client m) t (write_all t writes)) (sym was.writes) (inr (record {
            address = was.address;
            changes = bound_changes t (client m) was.address was.held ((agree (client m) was.address).1 was.held) now was.site;
            was_open = inl was.held;
            in_pool = λ _. pool_there t m was.pool was.site was.address was.pool_is was.asking was.site_is was.within;
          }))

      declined_moves : WasDeclined t now m step → Moves now (client m) t (write_all t step.writes)
      declined_moves was =
          let owns = (agree (client m) was.address).1 was.held in
          subst (λ (writes : List Write). Moves now (client m) t (write_all t writes)) (sym was.writes) (inr (record {
            address = was.address;
            changes = declined_changes t (client m) was.address was.held owns now;
            was_open = inl was.held;
            in_pool = λ e. let none = declined_owner t (client m) was.address now in cc;
          }))

      released_moves : WasReleased t m step → Moves now (client m) t (write_all t step.writes)
      released_moves was =
          let owns = (agree (client m) was.address).1 was.held in
          subst (λ (writes : List Write). Moves now (client m) t (write_all t writes)) (sym was.writes) (inr (record {
            address = was.address;
            changes = released_changes t (client m) was.address was.held owns;
            was_open = inl was.held;
            in_pool = λ e. let none = released_owner t (client m) was.address in cc;
          }))

      pub outcome_moves : Outcome t now m step → Moves now (client m) t (write_all t step.writes)
      outcome_moves (refusal was) = inl (ap (write_all t) was.writes)
      outcome_moves (offering was) = offer_moves was
      outcome_moves (binding was) = bound_moves was
      outcome_moves (declining was) = declined_moves was
      outcome_moves (releasing was) = released_moves was

pub messages_move : (t : Tables) (now : ℕ) (m : Received) → HoldersAgree t → Moves now (client m) t (write_all t (lease_step t now m).writes)
messages_move t now m agree = outcome_moves t now m (lease_step t now m) agree (outcome t now m)

pub agreement_stays : (t : Tables) (now : ℕ) (m : Received) → HoldersAgree t → HoldersAgree (write_all t (lease_step t now m).writes)
agreement_stays t now m agree =
    elim (messages_move t now m agree) as (λ s. HoldersAgree (write_all t (lease_step t now m).writes)) [
      | inl same ↦ subst HoldersAgree (sym same) agree
      | inr moved ↦ changes_agree (client m) moved.address t (write_all t (lease_step t now m).writes) moved.changes agree
    ]
