use Rattle.std.proofs.Common.{◌-◌, length, get_or, refl, subst, arith}
use Rattle.off_opening.proofs.StandingLemmas.{no_mark}
use Rattle.off_opening.proofs.UsingLemmas.{Noted, one_noted, all_noted}
use Rattle.off_opening.proofs.using.users_in.Goals as goal

pub loop-passed-preserved : goal.loop-passed-preserved
loop-passed-preserved c =
    one_noted c.args.marks.now c.loop-passed.passed no_mark (get_or c.args.marks.now (length c.args.marks.now - 1 - c.loop-passed.passed) no_mark) c.loop-passed.users c.note_mark.new.users (omega arith) refl c.loop-passed.invariant c.in_ok-note_mark.ensures

pub returns-clause-ok : goal.returns-clause-ok
returns-clause-ok c = λ t are.
    all_noted c.args.marks.now c.loop-passed.users t (subst (λ n. Noted c.args.marks.now n c.loop-passed.users) (omega arith) c.loop-passed.invariant) are
