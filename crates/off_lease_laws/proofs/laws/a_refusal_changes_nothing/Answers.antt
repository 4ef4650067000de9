use Rattle.off_lease_laws.proofs.LawLemmas.{refusals_change_nothing}
use Rattle.off_lease_laws.proofs.laws.a_refusal_changes_nothing.Goals as goal

pub returns : goal.returns
returns c = refusals_change_nothing
