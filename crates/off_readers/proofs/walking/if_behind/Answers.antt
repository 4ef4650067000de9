use Rattle.off_readers.proofs.StepLemmas.{not_next}
use Rattle.off_readers.proofs.walking.if_behind.Goals as goal

pub returns-then-not-is_behind-clause-kept : goal.returns-then-not-is_behind-clause-kept
returns-then-not-is_behind-clause-kept c = λ t next.
    not_next c.args.place c.args.entry (c.in-Some.key, c.in-Some.row) c.is_behind.result t c.in-Some.is (c.is_behind.ensures.after c.in-Some.row) c.if-not-is_behind.true next

pub returns-clause-rises : goal.returns-clause-rises
returns-clause-rises c = c.is_behind.ensures.less c.in-Some.row c.if-not-is_behind.false
