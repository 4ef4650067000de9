use Rattle.off_mic.proofs.CheckLemmas.{passed_all, passed_short, passed_more, passed_here}
use Rattle.off_mic.proofs.checking.next_value.Goals as goal

pub returns-in-Err : goal.returns-in-Err
returns-in-Err c = λ trees e. absurd (passed_short c.args.code trees c.settings.walk.rest (c.settings.invariant trees e) c.in-Err.ensures.cut.0)

pub returns-in_default : goal.returns-in_default
returns-in_default c = λ trees e. passed_all c.args.code trees c.settings.walk.rest (c.settings.invariant trees e) (rw c.in_default.is at c.in-Ok.ensures.end).0

pub returns-then-tlv-code : goal.returns-then-tlv-code
returns-then-tlv-code c = λ trees e.
    passed_here c.args.code trees c.settings.walk c.next.new.self c.in-Some.tlv.code c.in-Some.tlv.value.now (c.settings.invariant trees e) (rw c.in-Some.is at c.in-Ok.ensures.taken) c.if-tlv-code.true

pub settings-preserved : goal.settings-preserved
settings-preserved c = λ trees e.
    passed_more c.args.code trees c.settings.walk c.next.new.self c.in-Some.tlv.code c.in-Some.tlv.value.now (c.settings.invariant trees e) (rw c.in-Some.is at c.in-Ok.ensures.taken) c.if-tlv-code.false
