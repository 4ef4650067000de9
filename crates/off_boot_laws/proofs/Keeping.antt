-- Who asks again keeps its address, and is answered; and so where every turn goes well.
use Rattle.std.proofs.Common.{◌≡◌, true, List, ◌∷◌, ◌++◌, append_assoc, Some, sym, ap, subst, ◌∙◌}
use Rattle.off_base.specs.declared.addresses.Ip4.{Ip4}
use Rattle.off_base.specs.declared.macs.Mac.{Mac}
use Rattle.off_defs.specs.declared.tables.Pool.{Pool}
use Rattle.off_defs.specs.State.{State}
use Rattle.off_dhcp.specs.Datagram.{Received}
use Rattle.off_account_rules.specs.Rows.{held_in, has_address}
use Rattle.off_account_rules.specs.Good.{Good}
use Rattle.off_table_laws.specs.Laws.{owner_in}
use Rattle.off_asking.specs.Asking.{client}
use Rattle.off_lease_rules.specs.Free.{pool_for}
use Rattle.off_book.specs.Step.{Step}
use Rattle.off_book.specs.Run.{Turn, effect_of}
use Rattle.off_laws.proofs.RunLaws.{run_keeps_good}
use Rattle.off_boot_laws.specs.Went.{GoesWell, Anyhow}
use Rattle.off_boot_laws.specs.Stages.{Discovers, IsOffered}
use Rattle.off_boot_laws.specs.Keeping.{GetsAnswers, KeepsBy, WhoAsksAgainKeeps}
use Rattle.off_boot_laws.specs.Served.{ModemsAreServed, AllAreServed}
use Rattle.off_boot_laws.proofs.Went.{well_at}
use Rattle.off_boot_laws.proofs.Pooling.{pool_is_found}
use Rattle.off_boot_laws.proofs.Again.{one_pool}
use Rattle.off_boot_laws.proofs.Waiting.{who_waits_keeps}
use Rattle.off_boot_laws.proofs.Messages.{discovers_are_offered, requests_are_acknowledged}
use Rattle.off_boot_laws.proofs.Booting.{SoWell, holds_own, boots_by, boots}

module _ (s after : State) (turn : Turn) (mac : Mac) (address : Ip4) (good : Good s.tables) (step : Step s turn.event turn.outcome (effect_of turn after))
    (owned : owner_in s.tables address ≡ Some mac) where
  held_by : (m : Received) → client m ≡ mac → held_in s.tables (client m) ≡ Some address
  held_by m sender = ap (λ (w : Mac). held_in s.tables w) sender ∙ holds_own s.tables mac address good owned

  offered_again : (m : Received) → GoesWell turn → client m ≡ mac → (d : Discovers s m turn) → has_address d.known.pool address ≡ true
      → (offer : IsOffered s m turn after) × (offer.address ≡ address)
  offered_again m well sender d within =
      let offer : IsOffered s m turn after = discovers_are_offered s after turn m good step well d in
      let found : pool_for s.tables m ≡ Some d.known.pool = pool_is_found s.tables m d.known.number d.known.pool good d.known.pool_is d.known.pooled in
      let pool : d.known.pool ≡ offer.pool = one_pool d.known.pool offer.pool (pool_for s.tables m) found offer.pool_is in
      (offer, offer.own address (held_by m sender) (subst (λ (p : Pool). has_address p address ≡ true) pool within))

  answered : (Well : Turn → Type 0) → (Well turn → GoesWell turn) → GetsAnswers Well mac address s turn after
  answered Well so = record {
    offered = λ m well sender d within. offered_again m (so well) sender d within;
    acknowledged = λ m well sender r. requests_are_acknowledged s after turn m address good step (so well) r (held_by m sender);
  }

pub keeps_by : (Well : Turn → Type 0) (s : State) (turns : List Turn) → Good s.tables → SoWell Well turns → KeepsBy Well s turns
keeps_by Well s turns good so before stretch later from to mac address parts up_to onward owned waits =
    let good_from = run_keeps_good s from before up_to good in
    let good_to = run_keeps_good from to stretch onward good_from in
    let kept = who_waits_keeps from to stretch mac address good_from onward owned waits in
    record {
      keeps = kept;
      answered = λ turn turns after is step.
          answered to after turn mac address good_to step kept.owned Well
          (so (before ++ stretch) turns turn (parts ∙ ap (λ (l : List Turn). before ++ (stretch ++ l)) is ∙ sym (append_assoc before stretch (turn ∷ turns))));
    }

pub who_asks_again_keeps : WhoAsksAgainKeeps
who_asks_again_keeps s turns good = keeps_by GoesWell s turns good (λ before later turn parts well. well)

pub modems_are_served : (s : State) (turns : List Turn) → Good s.tables → ModemsAreServed GoesWell s turns
modems_are_served s turns good = record { boots = boots s turns good; keeps = who_asks_again_keeps s turns good }

pub all_are_served : AllAreServed
all_are_served s turns good all =
    let so : SoWell Anyhow turns = λ before later turn parts anyhow. well_at turns before later turn all parts in
    record { boots = boots_by Anyhow s turns good so; keeps = keeps_by Anyhow s turns good so }
