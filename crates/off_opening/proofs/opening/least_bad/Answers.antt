use Rattle.std.proofs.Common.{rules, refl}
use Rattle.off_opening.proofs.StandingLemmas.{one_more_kept, all_kept, bad_found, no_mark}
use Rattle.off_opening.proofs.opening.least_bad.Goals as goal

pub returns-then-not-keeps : goal.returns-then-not-keeps
returns-then-not-keeps c =
    bad_found c.args.marks.now c.args.compared.now c.loop-mark.mark-index no_mark _ c.keeps.result c.loop-mark.invariant (search rules) refl
    c.keeps.ensures (search rules)

pub loop-mark-preserved : goal.loop-mark-preserved
loop-mark-preserved c =
    one_more_kept c.args.marks.now c.args.compared.now c.loop-mark.mark-index no_mark _ c.keeps.result c.loop-mark.invariant (search rules) refl
    c.keeps.ensures (search rules)

pub returns : goal.returns
returns c = all_kept c.args.marks.now c.args.compared.now c.loop-mark.mark-index c.loop-mark.invariant (search rules)
