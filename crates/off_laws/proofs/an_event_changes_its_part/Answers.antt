use Rattle.off_laws.proofs.StepLaws.{changes_its_part}
use Rattle.off_laws.proofs.an_event_changes_its_part.Goals as goal

pub returns : goal.returns
returns c = changes_its_part
