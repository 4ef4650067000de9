use Rattle.off_laws.proofs.Existence.{some_result}
use Rattle.off_laws.proofs.an_event_gives_something.Goals as goal

pub returns : goal.returns
returns c = some_result c.args.heard.now c.some_answer.ensures
