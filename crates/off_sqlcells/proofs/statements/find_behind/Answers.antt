use Rattle.off_sqlcells.proofs.statements.find_behind.Goals as goal

pub returns-in-Some-clause-found : goal.returns-in-Some-clause-found
returns-in-Some-clause-found g c = rw c.in-Some.is (rw c.as_slice.ensures.bytes at c.find_above.ensures.found)

pub returns-in-None-clause-found : goal.returns-in-None-clause-found
returns-in-None-clause-found g c = rw c.in-None.is c.find_first.ensures.found

pub returns-in-Some-clause-cause : goal.returns-in-Some-clause-cause
returns-in-Some-clause-cause g c = rw c.in-Some.is (rw c.as_slice.ensures.bytes at c.find_above.ensures.cause)

pub returns-in-None-clause-cause : goal.returns-in-None-clause-cause
returns-in-None-clause-cause g c = rw c.in-None.is c.find_first.ensures.cause
