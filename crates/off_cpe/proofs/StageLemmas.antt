-- A reading, and what is settled behind it: by the answer.
use Rattle.std.proofs.Common.{◌≡◌, Option, Result, Ok, Err, IfOk, MatchResult, sym, subst}
use Rattle.off_base.specs.declared.addresses.Ip4.{Ip4}
use Rattle.off_base.specs.declared.octets.NoMemory.{NoMemory}
use Rattle.off_defs.specs.declared.tables.DeviceLease.{DeviceLease}
use Rattle.off_defs.specs.State.{Tables}
use Rattle.off_outside.specs.KeeperSeen.{KeeperSeen}
use Rattle.off_outside.specs.KeeperCalls.{Looks, Reads, NotDone}
use Rattle.off_outside.specs.declared.keeper.KeepErr.{KeepErr}
use Rattle.off_outside.specs.declared.keeper.KeepErr.TheVariants.{Memory}
use Rattle.off_outside.proofs.KeeperLemmas.{reads_as, reads_forgotten}
use Rattle.off_cpe_rules.specs.declared.results.DeviceStep.{DeviceStep}
use Rattle.off_cpe.specs.declared.answering.DeviceAnswer.{DeviceAnswer}

-- an answer has the step that was made, and the lease
abbrev WithLease : Result DeviceStep NoMemory → Option (Ip4 × DeviceLease) → Result DeviceAnswer KeepErr → Type 0
WithLease step own answer = MatchResult answer (λ x. (step ≡ Ok x.step) × (x.own ≡ own)) (λ err. err ≡ Memory)

-- a reading, and what is settled behind it
pub looks_settled : {P : Tables → Type 0} {a b : KeeperSeen} (step : Result DeviceStep NoMemory) (answer : Result DeviceAnswer KeepErr) (own : Option (Ip4 × DeviceLease)) (Q : DeviceStep → Tables → Type 0)
    → WithLease step own answer → Reads P a b → ((t : Tables) → P t → IfOk step (λ s. Q s t)) → Looks answer a b (λ x t. Q x.step t)
looks_settled {P} {a} {b} step (Ok x) own Q is reads join = reads_as reads (λ t p. subst (λ (r : Result DeviceStep NoMemory). IfOk r (λ s. Q s t)) is.0 (join t p))
looks_settled {P} {a} {b} step (Err err) own Q is reads join = subst (λ (e : KeepErr). NotDone e a b) (sym is) (reads_forgotten reads)

pub step_so : (step : Result DeviceStep NoMemory) (answer : Result DeviceAnswer KeepErr) (own : Option (Ip4 × DeviceLease)) (P : Option (Ip4 × DeviceLease) → DeviceStep → Type 0)
    → WithLease step own answer → IfOk step (P own) → IfOk answer (λ x. P x.own x.step)
step_so step (Ok x) own P is so =
    subst (λ (o : Option (Ip4 × DeviceLease)). P o x.step) (sym is.1) (subst (λ (r : Result DeviceStep NoMemory). IfOk r (P own)) is.0 so)
step_so step (Err err) own P is so = tt

pub lease_so : (step : Result DeviceStep NoMemory) (answer : Result DeviceAnswer KeepErr) (own : Option (Ip4 × DeviceLease)) (P : Option (Ip4 × DeviceLease) → Type 0)
    → WithLease step own answer → P own → IfOk answer (λ x. P x.own)
lease_so step (Ok x) own P is so = subst P (sym is.1) so
lease_so step (Err err) own P is so = tt

-- what is made is so where all that is made alike is so
pub made_so : (step : Result DeviceStep NoMemory) (made : DeviceStep) (P : DeviceStep → Type 0) → IfOk step (λ s. s ≡ made) → P made → IfOk step P
made_so (Ok s) made P is so = subst P (sym is) so
made_so (Err err) made P is so = tt

pub if_ok_as : {E : Type 0} (step : Result DeviceStep E) (P Q : DeviceStep → Type 0) → IfOk step P → ((s : DeviceStep) → P s → Q s) → IfOk step Q
if_ok_as (Ok s) P Q so weaker = weaker s so
if_ok_as (Err err) P Q so weaker = tt
