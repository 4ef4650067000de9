use Rattle.std.proofs.Common.{ap, ◌∙◌}
use Rattle.off_sessions.specs.Connections.{heard_in}
use Rattle.off_sessions.proofs.ConnectionLemmas.{none_heard}
use Rattle.off_sessions.proofs.connections.Connections.new.Goals as goal

pub returns : goal.returns
returns c = ap heard_in c.new.ensures.empty ∙ none_heard
