use Rattle.std.proofs.Common.{rules, refl}
use Rattle.off_opening.proofs.StandingLemmas.{no_mark}
use Rattle.off_opening.proofs.OwnerLemmas.{next_counted, end_counted}
use Rattle.off_opening.proofs.owners.owners_in.Goals as goal

pub loop-mark-preserved : goal.loop-mark-preserved
loop-mark-preserved c =
    next_counted c.args.marks.now c.loop-mark.mark-index no_mark _ c.marked_owner.result c.loop-mark.owners c.note_owner.new.owners (search rules) refl c.marked_owner.ensures c.in_ok-note_owner.ensures c.loop-mark.invariant

pub returns-clause-ok : goal.returns-clause-ok
returns-clause-ok c = end_counted c.args.marks.now c.loop-mark.mark-index c.loop-mark.owners (search rules) c.loop-mark.invariant
