use Rattle.off_laws.proofs.Lines.{line_tells_outcome}
use Rattle.off_laws.proofs.the_line_tells_the_outcome.Goals as goal

pub returns : goal.returns
returns c = line_tells_outcome
