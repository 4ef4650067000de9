-- A reading, and what is settled behind it: by the answer.
use Rattle.std.proofs.Common.{◌≡◌, Result, Ok, Err, IfOk, MatchResult, sym, subst}
use Rattle.off_base.specs.declared.octets.NoMemory.{NoMemory}
use Rattle.off_defs.specs.State.{Tables}
use Rattle.off_outside.specs.KeeperSeen.{KeeperSeen}
use Rattle.off_outside.specs.KeeperCalls.{Looks, Reads, NotDone}
use Rattle.off_outside.specs.declared.keeper.KeepErr.{KeepErr}
use Rattle.off_outside.specs.declared.keeper.KeepErr.TheVariants.{Memory}
use Rattle.off_outside.proofs.KeeperLemmas.{reads_then, reads_as, reads_forgotten, failed_then}

-- a look by which something weaker is told
pub looks_as : {A : Type 0} (a b : KeeperSeen) (result : Result A KeepErr) (P Q : A → Tables → Type 0) → Looks result a b P → ((x : A) (t : Tables) → P x t → Q x t) → Looks result a b Q
looks_as a b (Ok x) P Q looks weaker = reads_as looks (weaker x)
looks_as a b (Err err) P Q looks weaker = looks

pub looks_settled : {A : Type 0} {P : Tables → Type 0} {a b : KeeperSeen} (step : Result A NoMemory) (kept : Result A KeepErr) (Q : A → Tables → Type 0) (made : A)
    → MatchResult kept (λ k. step ≡ Ok k) (λ err. err ≡ Memory) → IfOk step (λ s. s ≡ made) → Reads P a b → ((t : Tables) → P t → Q made t) → Looks kept a b Q
looks_settled {A} {P} {a} {b} step (Ok k) Q made is ok reads join =
    let e : k ≡ made = subst (λ (r : Result A NoMemory). IfOk r (λ s. s ≡ made)) is ok in
    reads_as reads (λ t p. subst (λ (s : A). Q s t) (sym e) (join t p))
looks_settled {A} {P} {a} {b} step (Err err) Q made is ok reads join = subst (λ (x : KeepErr). NotDone x a b) (sym is) (reads_forgotten reads)

pub looks_then : {A : Type 0} {P : Tables → Type 0} {a b : KeeperSeen} (c : KeeperSeen) (result : Result A KeepErr) (Q R : A → Tables → Type 0) → Reads P a b → Looks result b c Q
    → ((s : A) (t : Tables) → P t → Q s t → R s t) → Looks result a c R
looks_then c (Ok s) Q R p q join = reads_then p q (join s)
looks_then c (Err err) Q R p q join = failed_then p q
