use Rattle.off_sqlcells.proofs.writing.finish.Goals as goal

pub returns-in-Err-clause-ended : goal.returns-in-Err-clause-ended
returns-in-Err-clause-ended g c = λ steady. (c.in-Err.err, c.in-Err.ensures.err (steady c.commit.new.self.0.store), c.from.ensures)
