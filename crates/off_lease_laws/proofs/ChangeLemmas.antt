-- What each of the four lists of writes does to leases and holders.
use Rattle.std.proofs.Common.{◌≡◌, ℕ, cond, not, Option, Some, None, option_and_then, List, inl, inr, refl, ap, ◌∙◌}
use Rattle.std.proofs.lemmas.Bool.{false_from_ne_true, eqb-true}
use Rattle.std.proofs.lemmas.Slice.Eq.{bytes_eq-Decides}
use Rattle.std.specs.Str.{bytes_eq}
use Rattle.off_base.specs.declared.addresses.Ip4.{Ip4}
use Rattle.off_base.specs.declared.macs.Mac.{Mac}
use Rattle.off_defs.specs.declared.keys.Key.TheVariants as key
use Rattle.off_defs.specs.declared.tables.Row.{Row}
use Rattle.off_defs.specs.declared.tables.Row.TheVariants as row
use Rattle.off_defs.specs.declared.tables.Site.{Site}
use Rattle.off_defs.specs.declared.tables.Hold.TheVariants.{Bound, Declined}
use Rattle.off_defs.specs.declared.tables.Lease.{Lease}
use Rattle.off_defs.specs.declared.writes.Write.{Write}
use Rattle.off_defs.specs.Clock.{later_by}
use Rattle.off_defs.specs.State.{Tables}
use Rattle.off_defs.specs.Tables.{row_at, write_all}
use Rattle.off_defs.proofs.TableLemmas.{own_key}
use Rattle.off_account_rules.specs.Rows.{lease_in, held_in}
use Rattle.off_account_rules.specs.Good.{owner_of, is_address}
use Rattle.off_table_laws.specs.Laws.{owner_in}
use Rattle.off_asking.specs.Choice.{provided}
use Rattle.off_lease_rules.specs.Steps.{held_elsewhere, former_owner, bound, set_aside, given_up}
use Rattle.off_lease_laws.specs.Moves.{Reassigns}
use Rattle.off_lease_laws.proofs.ChoiceLemmas.{provided_is}
use Rattle.off_lease_laws.proofs.WriteLemmas.{lease_read, held_read, lease_after, held_after, is_ip, is_client, is_some_ip, is_some_client, other_ip, other_client, not_some_ip, not_some_client, offer_writes, offer_lease, offer_held}

abbrev owned : Option Lease → Option Mac
owned o = option_and_then (λ (lease : Lease). owner_of lease.hold) o

module _ (t : Tables) (mac : Mac) (address : Ip4) where
  -- an offer
  module _ (lease : Lease) (mine : owner_of lease.hold ≡ Some mac) where
    abbrev pub offered_writes : List Write
    offered_writes = offer_writes (held_elsewhere address (held_in t mac)) (former_owner mac (lease_in t address)) address (row.Lease lease) mac (row.Held address)

    abbrev elsewhere : Option Ip4
    elsewhere = held_elsewhere address (held_in t mac)

    abbrev former : Option Mac
    former = former_owner mac (lease_in t address)

    abbrev leased : Ip4 → Option Row
    leased other = cond (is_ip address other) (Some (row.Lease lease)) (cond (is_some_ip elsewhere other) None (row_at t (key.Lease other)))

    abbrev holding : Mac → Option Row
    holding other = cond (is_client mac other) (Some (row.Held address)) (cond (is_some_client former other) None (row_at t (key.Held other)))

    lease_is : (other : Ip4) → lease_in (write_all t offered_writes) other ≡ lease_read other (leased other)
    lease_is other = lease_after t offered_writes other (leased other) (offer_lease (row_at t) elsewhere former address (row.Lease lease) mac (row.Held address) other)

    held_is : (other : Mac) → held_in (write_all t offered_writes) other ≡ held_read other (holding other)
    held_is other = held_after t offered_writes other (holding other) (offer_held (row_at t) elsewhere former address (row.Lease lease) mac (row.Held address) other)

    lease_apart : (other : Ip4) → (other ≡ address → ⊥) → lease_in (write_all t offered_writes) other ≡ lease_read other (cond (is_some_ip elsewhere other) None (row_at t (key.Lease other)))
    lease_apart other apart =
        lease_is other ∙ ap (λ b. lease_read other (cond b (Some (row.Lease lease)) (cond (is_some_ip elsewhere other) None (row_at t (key.Lease other))))) (other_ip address other apart)

    held_apart : (other : Mac) → (other ≡ mac → ⊥) → held_in (write_all t offered_writes) other ≡ held_read other (cond (is_some_client former other) None (row_at t (key.Held other)))
    held_apart other apart =
        held_is other ∙ ap (λ b. held_read other (cond b (Some (row.Held address)) (cond (is_some_client former other) None (row_at t (key.Held other))))) (other_client mac other apart)

    -- what was held elsewhere, and who else owned the lease
    elsewhere_is : (other : Ip4) → (other ≡ address → ⊥) → held_in t mac ≡ Some other → elsewhere ≡ Some other
    elsewhere_is other apart e =
        ap (held_elsewhere address) e
        ∙ ap (λ b. cond (not b) (Some other) None) (false_from_ne_true (is_address address other) (λ h. apart (let n = eqb-true other.0 address.0 h in λ i. record { 0 = n i })))

    former_is : (other : Mac) → (other ≡ mac → ⊥) → owner_in t address ≡ Some other → former ≡ Some other
    former_is other apart e =
        ap (provided (λ (o : Mac). not (bytes_eq o.0 mac.0))) e
        ∙ ap (λ b. cond (not b) (Some other) None) (false_from_ne_true (bytes_eq other.0 mac.0) (λ h. apart (let n = (bytes_eq-Decides other.0 mac.0).0 h in λ i. record { 0 = n i })))

    not_elsewhere : (other : Ip4) → (held_in t mac ≡ Some other → ⊥) → elsewhere ≡ Some other → ⊥
    not_elsewhere other none e = none (provided_is (λ (a : Ip4). not (is_address address a)) (held_in t mac) other e).0

    not_former : (other : Mac) → (owner_in t address ≡ Some other → ⊥) → former ≡ Some other → ⊥
    not_former other none e = none (provided_is (λ (o : Mac). not (bytes_eq o.0 mac.0)) (owner_in t address) other e).0

    pub offer_lease_here : lease_in (write_all t offered_writes) address ≡ Some lease
    offer_lease_here =
        lease_is address ∙ ap (λ b. lease_read address (cond b (Some (row.Lease lease)) (cond (is_some_ip elsewhere address) None (row_at t (key.Lease address))))) (own_key (key.Lease address))

    pub offer_held_here : held_in (write_all t offered_writes) mac ≡ Some address
    offer_held_here =
        held_is mac ∙ ap (λ b. held_read mac (cond b (Some (row.Held address)) (cond (is_some_client former mac) None (row_at t (key.Held mac))))) (own_key (key.Held mac))

    pub offer_changes : Reassigns mac address t (write_all t offered_writes)
    offer_changes = record {
      left = λ other apart e.
          lease_apart other apart
          ∙ ap (λ o. lease_read other (cond (is_some_ip o other) None (row_at t (key.Lease other)))) (elsewhere_is other apart e)
          ∙ ap (λ b. lease_read other (cond b None (row_at t (key.Lease other)))) (own_key (key.Lease other));
      other_leases = λ other apart e.
          lease_apart other apart ∙ ap (λ b. lease_read other (cond b None (row_at t (key.Lease other)))) (not_some_ip elsewhere other (not_elsewhere other e));
      lost = λ other apart e.
          held_apart other apart
          ∙ ap (λ o. held_read other (cond (is_some_client o other) None (row_at t (key.Held other)))) (former_is other apart e)
          ∙ ap (λ b. held_read other (cond b None (row_at t (key.Held other)))) (own_key (key.Held other));
      other_holders = λ other apart e.
          held_apart other apart ∙ ap (λ b. held_read other (cond b None (row_at t (key.Held other)))) (not_some_client former other (not_former other e));
      taken = inl (ap owned offer_lease_here ∙ mine, offer_held_here);
    }

  -- a binding
  pub bound_lease : (now : ℕ) (site : Site) → lease_in (write_all t (bound now mac address site)) address ≡ Some (record { hold = Bound mac; expiry = record { 0 = later_by site.lease now } })
  bound_lease now site = lease_after t (bound now mac address site) address (Some (row.Lease (record { hold = Bound mac; expiry = record { 0 = later_by site.lease now } })))
      (ap (λ b. cond b (Some (row.Lease (record { hold = Bound mac; expiry = record { 0 = later_by site.lease now } }))) (row_at t (key.Lease address))) (own_key (key.Lease address)))

  pub bound_held : (now : ℕ) (site : Site) (other : Mac) → held_in (write_all t (bound now mac address site)) other ≡ held_in t other
  bound_held now site other = held_after t (bound now mac address site) other (row_at t (key.Held other)) refl

  -- an address that is given back
  abbrev resting : ℕ → Row
  resting now = row.Lease (record { hold = Declined; expiry = record { 0 = later_by 600 now } })

  pub declined_lease : (now : ℕ) → lease_in (write_all t (set_aside now mac address)) address ≡ Some (record { hold = Declined; expiry = record { 0 = later_by 600 now } })
  declined_lease now =
      lease_after t (set_aside now mac address) address (Some (resting now)) (ap (λ b. cond b (Some (resting now)) (row_at t (key.Lease address))) (own_key (key.Lease address)))

  pub declined_held : (now : ℕ) → held_in (write_all t (set_aside now mac address)) mac ≡ None
  declined_held now = held_after t (set_aside now mac address) mac None (ap (λ b. cond b None (row_at t (key.Held mac))) (own_key (key.Held mac)))

  pub released_lease : lease_in (write_all t (given_up mac address)) address ≡ None
  released_lease = lease_after t (given_up mac address) address None (ap (λ b. cond b None (row_at t (key.Lease address))) (own_key (key.Lease address)))

  pub released_held : held_in (write_all t (given_up mac address)) mac ≡ None
  released_held = held_after t (given_up mac address) mac None (ap (λ b. cond b None (row_at t (key.Held mac))) (own_key (key.Held mac)))

  pub declined_owner : (now : ℕ) → owner_in (write_all t (set_aside now mac address)) address ≡ None
  declined_owner now = ap owned (declined_lease now)

  pub released_owner : owner_in (write_all t (given_up mac address)) address ≡ None
  released_owner = ap owned released_lease

  -- the others act on an address that the client holds and owns
  module _ (holds : held_in t mac ≡ Some address) (owns : owner_in t address ≡ Some mac) where
    no_other_held : {P : Type 0} (other : Ip4) → (other ≡ address → ⊥) → held_in t mac ≡ Some other → P
    no_other_held other apart e = absurd (apart (let same : other ≡ address = cc in same))

    no_other_owner : {P : Type 0} (other : Mac) → (other ≡ mac → ⊥) → owner_in t address ≡ Some other → P
    no_other_owner other apart e = absurd (apart (let same : other ≡ mac = cc in same))

    pub bound_changes : (now : ℕ) (site : Site) → Reassigns mac address t (write_all t (bound now mac address site))
    bound_changes now site = record {
      left = λ other apart e. no_other_held other apart e;
      other_leases = λ other apart e. lease_after t (bound now mac address site) other (row_at t (key.Lease other))
          (ap (λ b. cond b (Some (row.Lease (record { hold = Bound mac; expiry = record { 0 = later_by site.lease now } }))) (row_at t (key.Lease other))) (other_ip address other apart));
      lost = λ other apart e. no_other_owner other apart e;
      other_holders = λ other apart e. bound_held now site other;
      taken = inl (ap owned (bound_lease now site), bound_held now site mac ∙ holds);
    }

    pub declined_changes : (now : ℕ) → Reassigns mac address t (write_all t (set_aside now mac address))
    declined_changes now = record {
      left = λ other apart e. no_other_held other apart e;
      other_leases = λ other apart e. lease_after t (set_aside now mac address) other (row_at t (key.Lease other))
          (ap (λ b. cond b (Some (row.Lease (record { hold = Declined; expiry = record { 0 = later_by 600 now } }))) (row_at t (key.Lease other))) (other_ip address other apart));
      lost = λ other apart e. no_other_owner other apart e;
      other_holders = λ other apart e. held_after t (set_aside now mac address) other (row_at t (key.Held other))
          (ap (λ b. cond b None (row_at t (key.Held other))) (other_client mac other apart));
      taken = inr (declined_owner now, declined_held now);
    }

    pub released_changes : Reassigns mac address t (write_all t (given_up mac address))
    released_changes = record {
      left = λ other apart e. no_other_held other apart e;
      other_leases = λ other apart e. lease_after t (given_up mac address) other (row_at t (key.Lease other)) (ap (λ b. cond b None (row_at t (key.Lease other))) (other_ip address other apart));
      lost = λ other apart e. no_other_owner other apart e;
      other_holders = λ other apart e. held_after t (given_up mac address) other (row_at t (key.Held other)) (ap (λ b. cond b None (row_at t (key.Held other))) (other_client mac other apart));
      taken = inr (released_owner, released_held);
    }
