-- In every state of a run each address stands in one way, and leases are right.
use Rattle.std.proofs.Common.{◌≡◌, ℕ, ◌<◌, inl, inr, true, false, cond, leb, Option, Some, None, [], ◌∷◌, refl, sym, ap, subst, ◌∙◌}
use Rattle.std.proofs.lemmas.Bool.{lt-leb, leb-false}
use Rattle.off_base.specs.declared.addresses.Ip4.{Ip4}
use Rattle.off_base.specs.declared.macs.Mac.{Mac}
use Rattle.off_defs.specs.declared.tables.Hold.{Hold}
use Rattle.off_defs.specs.declared.tables.Hold.TheVariants.{Offered, Bound, Declined}
use Rattle.off_defs.specs.declared.tables.Lease.{Lease}
use Rattle.off_defs.specs.State.{State}
use Rattle.off_account_rules.specs.Rows.{lease_in}
use Rattle.off_account_rules.specs.Good.{Good}
use Rattle.off_lease_rules.specs.Free.{has_ended}
use Rattle.off_lease_laws.specs.Laws.{Standing, free, offered_to, bound_to, resting, standing_of, standing, live_for}
use Rattle.off_lease_laws.proofs.GoodLemmas.{good_agree}
use Rattle.off_table_laws.proofs.TableLaws.{one_lease_a_modem, leases_stand}
use Rattle.off_laws.specs.Leases.{RunsHavePlaces, IsLiveAs, StandsAs, IsLiveFor, LeasesAreRight, LeasesStayRight}
use Rattle.off_laws.proofs.RunLaws.{run_keeps_good}

pub runs_have_places : RunsHavePlaces
runs_have_places s last [] later run = record { state = s; up_to = refl; onward = run }
runs_have_places s last (turn ∷ before) later run =
    let rest = runs_have_places run.0 last before later run.1.1 in
    record { state = rest.state; up_to = (run.0, (run.1.0, rest.up_to)); onward = rest.onward }

module _ (now : ℕ) where
  ended_free : (lease : Option Lease) → has_ended now lease ≡ true → free ≡ standing now lease
  ended_free None ended = refl
  ended_free (Some lease) ended = sym (ap (λ b. cond b free (standing_of lease.hold)) ended)

  live_standing : (lease : Option Lease) (hold : Hold) → IsLiveAs now lease hold → standing_of hold ≡ standing now lease
  live_standing lease hold lives =
      sym (ap (standing now) lives.is ∙ ap (λ b. cond b free (standing_of hold)) (lt-leb lives.expiry now lives.live))

  way_told : (lease : Option Lease) (way : Standing) → StandsAs now lease way → way ≡ standing now lease
  way_told lease free stands = ended_free lease stands
  way_told lease (offered_to mac) stands = live_standing lease (Offered mac) stands
  way_told lease (bound_to mac) stands = live_standing lease (Bound mac) stands
  way_told lease resting stands = live_standing lease Declined stands

  live_as : (lease : Lease) (hold : Hold) → lease.hold ≡ hold → now < lease.expiry.0 → IsLiveAs now (Some lease) hold
  live_as lease hold same live = record {
    expiry = lease.expiry.0;
    is = λ i. Some (record { hold = same i; expiry = lease.expiry });
    live = live;
  }

  live_stands : (lease : Lease) (hold : Hold) → lease.hold ≡ hold → now < lease.expiry.0 → StandsAs now (Some lease) (standing_of hold)
  live_stands lease (Offered mac) same live = live_as lease (Offered mac) same live
  live_stands lease (Bound mac) same live = live_as lease (Bound mac) same live
  live_stands lease Declined same live = live_as lease Declined same live

  told_stands : (lease : Option Lease) → StandsAs now lease (standing now lease)
  told_stands None = refl
  told_stands (Some lease) =
      elim (leb lease.expiry.0 now) as (λ b. leb lease.expiry.0 now ≡ b → StandsAs now (Some lease) (cond b free (standing_of lease.hold))) [
        | true ↦ λ ended. ended
        | false ↦ λ lives. live_stands lease lease.hold refl (leb-false lease.expiry.0 now lives)
      ] refl

  pub one_way : (lease : Option Lease) (way : Standing) → (StandsAs now lease way → way ≡ standing now lease) × (way ≡ standing now lease → StandsAs now lease way)
  one_way lease way = (way_told lease way, λ same. subst (StandsAs now lease) (sym same) (told_stands lease))

live_told : (s : State) (mac : Mac) (address : Ip4) → IsLiveFor s mac address → live_for (standing s.held.now (lease_in s.tables address)) ≡ Some mac
live_told s mac address (inl offered) = sym (ap live_for (way_told s.held.now (lease_in s.tables address) (offered_to mac) offered))
live_told s mac address (inr bound) = sym (ap live_for (way_told s.held.now (lease_in s.tables address) (bound_to mac) bound))

good_right : (s : State) → Good s.tables → LeasesAreRight s
good_right s good = record {
  agree = good_agree s.tables good;
  one_way = λ address. one_way s.held.now (lease_in s.tables address);
  one_client = λ address one other first second.
      let told = live_told s one address first in
      let too = live_told s other address second in
      cc;
  one_lease = one_lease_a_modem s.tables good;
  in_one_pool = λ address lease there. (leases_stand s.tables good address lease there).1;
}

pub leases_stay_right : LeasesStayRight
leases_stay_right s last turns good run = good_right last (run_keeps_good s last turns run good)
