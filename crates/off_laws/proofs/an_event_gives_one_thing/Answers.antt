use Rattle.off_laws.proofs.StepLaws.{one_result}
use Rattle.off_laws.proofs.an_event_gives_one_thing.Goals as goal

pub returns : goal.returns
returns c = one_result
