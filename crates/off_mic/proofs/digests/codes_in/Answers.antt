use Rattle.off_mic.proofs.FeedLemmas.{marked_all, marked_more, came_short}
use Rattle.off_mic.specs.declared.feeding.Wanted.TheVariants.{ButMics}
use Rattle.off_mic.proofs.digests.codes_in.Goals as goal

pub returns-in-Err : goal.returns-in-Err
returns-in-Err c = λ trees e.
    let f = c.settings.invariant trees e in
    absurd (came_short ButMics trees c.settings.walk.rest f.text f.came c.in-Err.ensures.cut.0)

pub returns-in_default : goal.returns-in_default
returns-in_default c = λ trees e. marked_all trees c.settings.walk.rest c.settings.marks (c.settings.invariant trees e) (rw c.in_default.is at c.in-Ok.ensures.end).0

pub settings-preserved : goal.settings-preserved
settings-preserved c = λ trees e.
    marked_more trees c.settings.walk c.next.new.self c.in-Some.tlv.code c.in-Some.tlv.value.now c.settings.marks c.mark.new.marks (c.settings.invariant trees e) (rw c.in-Some.is at c.in-Ok.ensures.taken)
    c.mark.ensures.ranged c.mark.ensures.marked
