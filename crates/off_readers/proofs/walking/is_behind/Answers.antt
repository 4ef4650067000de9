use Rattle.off_readers.proofs.StepLemmas.{behind_none, behind_key}
use Rattle.off_readers.proofs.walking.is_behind.Goals as goal

pub returns-in-None-clause-less : goal.returns-in-None-clause-less
returns-in-None-clause-less c = λ row same. behind_none c.args.place (c.args.key, row) c.in-None.is

pub returns-in-Some-clause-less : goal.returns-in-Some-clause-less
returns-in-Some-clause-less c = λ row above.
    behind_key c.args.place c.in-Some.before (c.args.key, row) c.is_above.result c.in-Some.is c.is_above.ensures.lower c.is_above.ensures.higher c.is_above.ensures.above above
