-- The laws of results and of bindings.
use Rattle.std.proofs.Common.{◌≡◌, ℕ, ◌<◌, true, false, leb, Some, option_and_then, [], inl, inr, refl, sym, ap, subst, ◌∙◌, arith, Result, Ok, Err}
use Rattle.std.proofs.lemmas.Bool.{leb-true}
use Rattle.off_base.specs.declared.addresses.Ip4.{Ip4}
use Rattle.off_base.specs.declared.macs.Mac.{Mac}
use Rattle.off_defs.specs.declared.tables.Lease.{Lease}
use Rattle.off_defs.specs.State.{Tables}
use Rattle.off_defs.specs.Tables.{write_all}
use Rattle.off_dhcp.specs.declared.faults.DhcpFault.{DhcpFault}
use Rattle.off_dhcp.specs.Datagram.{Received, message_of}
use Rattle.off_account_rules.specs.Rows.{lease_in, held_in}
use Rattle.off_account_rules.specs.Good.{owner_of}
use Rattle.off_table_laws.specs.Laws.{owner_in}
use Rattle.off_lease_rules.specs.Words.{acts}
use Rattle.off_asking.specs.Asking.{client}
use Rattle.off_lease_rules.specs.Free.{has_ended}
use Rattle.off_lease_rules.specs.Steps.{step_of, lease_step, dhcp_step}
use Rattle.off_lease_rules.specs.declared.results.LeaseStep.{LeaseStep}
use Rattle.off_lease_rules.specs.declared.words.DhcpWord.{DhcpWord}
use Rattle.off_lease_rules.specs.declared.words.DhcpWord.TheVariants as word
use Rattle.off_lease_laws.specs.Outcomes.{Outcome, refusal, offering, binding, declining, releasing}
use Rattle.off_lease_laws.specs.Moves.{HoldersAgree, Moved, WasOpenTo}
use Rattle.off_lease_laws.specs.Laws.{StepIsOne, StepIsThere, MessagesDo, FaultsDoNothing, RefusalsChangeNothing, LeavesFit, DatagramsLeaveFit, LeasesLast, after_message}
use Rattle.off_lease_laws.proofs.Tests.{ip_or}
use Rattle.off_lease_laws.proofs.OutcomeLemmas.{outcome}
use Rattle.off_lease_laws.proofs.AgreeLemmas.{messages_move, agreement_stays}
use Rattle.off_lease_laws.proofs.KindLemmas.{others_stay, counts_stay}
use Rattle.off_lease_laws.proofs.GoodLemmas.{good_stays}

pub step_is_one : StepIsOne
step_is_one t now bytes one other reply answer word said p q = record {
  tables = p.tables_after ∙ sym q.tables_after;
  replies = p.sent ∙ sym q.sent;
  words = p.said ∙ sym q.said;
}

pub step_is_there : StepIsThere
step_is_there t now bytes = record {
  after = write_all t (dhcp_step t now bytes).writes;
  reply = (dhcp_step t now bytes).reply;
  word = (dhcp_step t now bytes).word;
  step = record { tables_after = refl; sent = refl; said = refl };
}

pub messages_do : MessagesDo
unfolding dhcp_step
messages_do t now bytes m e = ap (step_of t now) e

pub faults_do_nothing : FaultsDoNothing
unfolding dhcp_step
faults_do_nothing t now bytes fault e = ap (step_of t now) e

acting : (w v : DhcpWord) → w ≡ v → acts v ≡ true → acts w ≡ false → ⊥
acting w v same h e = let f : acts v ≡ false = ap acts (sym same) ∙ e in cc

refused_writes : (t : Tables) (now : ℕ) (m : Received) (step : LeaseStep) → Outcome t now m step → acts step.word ≡ false → step.writes ≡ []
refused_writes t now m step (refusal was) e = was.writes
refused_writes t now m step (offering was) e = absurd (acting step.word word.Offer was.said refl e)
refused_writes t now m step (binding was) e = absurd (acting step.word word.Ack was.said refl e)
refused_writes t now m step (declining was) e = absurd (acting step.word word.Declined was.said refl e)
refused_writes t now m step (releasing was) e = absurd (acting step.word word.Released was.said refl e)

pub refusals_change_nothing : RefusalsChangeNothing
refusals_change_nothing t now m e = refused_writes t now m (lease_step t now m) (outcome t now m) e

-- what a datagram leaves is what its message leaves, or what was there
message_fits : (t : Tables) (now : ℕ) (m : Received) → LeavesFit t (after_message t now m)
message_fits t now m = record {
  good = good_stays t now m;
  agree = agreement_stays t now m;
  counts = counts_stay t now m;
  others = others_stay t now m;
}

step_fits : (t : Tables) (now : ℕ) (read : Result Received DhcpFault) → LeavesFit t (write_all t (step_of t now read).writes)
step_fits t now (Ok m) = message_fits t now m
step_fits t now (Err fault) = record { good = λ g. g; agree = λ a. a; counts = refl; others = λ key a b. refl }

pub datagrams_leave_fit : DatagramsLeaveFit
unfolding dhcp_step
datagrams_leave_fit t now bytes after reply word step = subst (LeavesFit t) (sym step.tables_after) (step_fits t now (message_of bytes))

-- ---- leases that last

module _ (t u : Tables) (now : ℕ) (who mac : Mac) (address : Ip4) (lease : Lease) (agree : HoldersAgree t) (there : lease_in t address ≡ Some lease)
    (owned : owner_of lease.hold ≡ Some mac) (live : now < lease.expiry.0) (apart : who ≡ mac → ⊥) where
  owner : owner_in t address ≡ Some mac
  owner = ap (option_and_then (λ (l : Lease). owner_of l.hold)) there ∙ owned

  not_held : held_in t who ≡ Some address → ⊥
  not_held h = let o = (agree who address).1 h in apart (let same : who ≡ mac = cc in same)

  not_ended : has_ended now (lease_in t address) ≡ true → ⊥
  not_ended h =
      let e : leb lease.expiry.0 now ≡ true = sym (ap (has_ended now) there) ∙ h in
      let le = leb-true lease.expiry.0 now e in
      omega (arith, le, live)

  not_open : WasOpenTo now who address t → ⊥
  not_open (inl held) = not_held held
  not_open (inr ended) = not_ended ended.0

  outlasts : Moved now who t u → lease_in u address ≡ lease_in t address
  outlasts moved =
      elim (ip_or address moved.address) as (λ s. lease_in u address ≡ lease_in t address) [
        | inl same ↦ absurd (not_open (elim_open same moved.was_open))
        | inr differs ↦ moved.changes.other_leases address differs not_held
      ]
    where
      elim_open : {other : Ip4} → address ≡ other → WasOpenTo now who other t → WasOpenTo now who address t
      elim_open same open_ = subst (λ (a : Ip4). WasOpenTo now who a t) (sym same) open_

pub leases_last : LeasesLast
leases_last t now m mac address lease agree there owned live (inl apart) =
    elim (messages_move t now m agree) as (λ s. lease_in (after_message t now m) address ≡ Some lease) [
      | inl same ↦ ap (λ u. lease_in u address) same ∙ there
      | inr moved ↦ outlasts t (after_message t now m) now (client m) mac address lease agree there owned live apart moved ∙ there
    ]
leases_last t now m mac address lease agree there owned live (inr refused) =
    ap (λ writes. lease_in (write_all t writes) address) (refusals_change_nothing t now m refused) ∙ there
