use Rattle.std.proofs.Common.{◌≡◌, ◌-◌, length}
use Rattle.off_http.specs.Request.{Waits}
use Rattle.clerk_questions.proofs.sessions.feed_in.Given as goal

abbrev pub invariant-loop-at : goal.invariant-loop-at
invariant-loop-at l = l.session.answer ≡ Waits

abbrev pub decreases-loop-at : goal.decreases-loop-at
decreases-loop-at l = length l.bytes - l.at
