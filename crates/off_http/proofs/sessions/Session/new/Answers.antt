use Rattle.off_http.specs.declared.stages.Stage.TheVariants.{ReadingHead}
use Rattle.off_http.proofs.PartLemmas.{stage_says, nothing_holds}
use Rattle.off_http.proofs.sessions.Session.new.Goals as goal

pub invariant_of-result : goal.invariant_of-result
invariant_of-result c = nothing_holds _ c.new.ensures

pub returns-clause-says : goal.returns-clause-says
returns-clause-says c = stage_says _ ReadingHead (nothing_holds _ c.new.ensures)
