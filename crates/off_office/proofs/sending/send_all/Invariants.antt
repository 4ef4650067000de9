use Rattle.std.proofs.Common.{◌≡◌, length, take}
use Rattle.off_office.specs.Sending.{SentAll}
use Rattle.off_office.proofs.sending.send_all.Given as goal

abbrev pub invariant-loop-i : goal.invariant-loop-i
invariant-loop-i g l = SentAll (take l.i l.replies.items) l.pass.moment l.all (g.L.Link.seen l.fn.link) (g.L.Link.seen l.link) × (l.i-end ≡ length l.replies.items)
