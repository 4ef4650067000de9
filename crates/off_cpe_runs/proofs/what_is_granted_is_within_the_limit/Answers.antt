use Rattle.off_cpe_runs.proofs.Limits.{grants_are_within_limits}
use Rattle.off_cpe_runs.proofs.what_is_granted_is_within_the_limit.Goals as goal

pub returns : goal.returns
returns c = grants_are_within_limits
