use Rattle.off_mic.proofs.FeedLemmas.{fed_all, came_short, fed_more}
use Rattle.off_mic.proofs.feeding.feed.Goals as goal

pub returns-in-Err : goal.returns-in-Err
returns-in-Err c = λ message trees e holds.
    let f = c.settings.invariant message trees e holds in
    absurd (came_short c.args.wanted trees c.settings.walk.rest f.text f.came c.in-Err.ensures.cut.0)

pub returns-in_default : goal.returns-in_default
returns-in_default c = λ message trees e holds.
    fed_all c.args.wanted message trees c.settings.walk.rest c.settings.hasher (c.settings.invariant message trees e holds) (rw c.in_default.is at c.in-Ok.ensures.end).0

pub settings-preserved : goal.settings-preserved
settings-preserved c = λ message trees e holds.
    fed_more c.args.wanted message trees c.settings.walk c.next.new.self c.in-Some.tlv.code c.in-Some.tlv.value.now c.settings.hasher c.feed_one.new.hasher
    (c.settings.invariant message trees e holds) (rw c.in-Some.is at c.in-Ok.ensures.taken) c.feed_one.ensures
