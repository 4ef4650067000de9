use Rattle.std.proofs.Common.{ap, ◌∙◌}
use Rattle.off_sqlcells.proofs.BeginLemmas.{makes}
use Rattle.off_sqlcells.specs.Refusals.{told_as}
use Rattle.off_sqlcells.proofs.making.make_table.Goals as goal

pub returns-in-Ok-clause-made : goal.returns-in-Ok-clause-made
returns-in-Ok-clause-made g c = λ steady. makes _ _ c.in-Ok._count (c.in-Ok.ensures.runs (steady c.execute-done.new.self.store))

pub returns-in-Err-clause-cause : goal.returns-in-Err-clause-cause
returns-in-Err-clause-cause g c = λ steady. (c.in-Err.err, c.in-Err.ensures.runs (steady c.execute-done.new.self.store), c.why.ensures ∙ ap told_as c.from.ensures)
