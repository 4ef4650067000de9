use Rattle.off_mic.specs.declared.feeding.Wanted.TheVariants.{ButMics}
use Rattle.off_mic.proofs.FeedLemmas.{came_short, copied_all, copied_more}
use Rattle.off_mic.proofs.sealing.push_without_mics.Goals as goal

pub returns-in-Err : goal.returns-in-Err
returns-in-Err c = λ trees e. let f = c.settings.invariant trees e in absurd (came_short ButMics trees c.settings.walk.rest f.text f.came c.in-Err.ensures.cut.0)

pub returns-in_default : goal.returns-in_default
returns-in_default c = λ trees e.
    copied_all ButMics trees c.settings.walk.rest c.args.out.now c.settings.out (c.settings.invariant trees e) (rw c.in_default.is at c.in-Ok.ensures.end).0

pub settings-preserved : goal.settings-preserved
settings-preserved c = λ trees e.
    copied_more ButMics trees c.settings.walk c.next.new.self c.in-Some.tlv.code c.in-Some.tlv.value.now c.args.out.now c.settings.out c.push_wanted.new.out
    (c.settings.invariant trees e) (rw c.in-Some.is at c.in-Ok.ensures.taken) c.in_ok-push_wanted.ensures
