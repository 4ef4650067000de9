use Rattle.off_laws.proofs.Standings.{runs_have_places}
use Rattle.off_laws.proofs.leases.a_run_has_a_state_at_each_place.Goals as goal

pub returns : goal.returns
returns c = runs_have_places
