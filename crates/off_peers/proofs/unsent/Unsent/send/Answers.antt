use Rattle.std.proofs.Common.{rules, ◌+◌, ap}
use Rattle.off_peers.specs.UnsentHeld.{UnsentHeld}
use Rattle.off_peers.proofs.Fronts.{sent_front, sent_all}
use Rattle.off_peers.proofs.unsent.Unsent.send.Goals as goal
use Rattle.off_peers.proofs.unsent.Unsent.send.Goals.{then-self-len-2, else-self-len-2}

pub returns-after-self-len-2-clause-sends : goal.returns-after-self-len-2-clause-sends
returns-after-self-len-2-clause-sends c =
    elim c.if-self-len-2.branch [
      | then-self-len-2 w ↦ rw w.result-is (sent_all c.self.inside.bytes.items (c.self.inside.sent + c.in-Ok.count) c.self.inside.room c.args.self.now
          (ap (λ (held : UnsentHeld). held.room) c.self.view_is) (search rules))
      | else-self-len-2 w ↦ rw w.result-is (sent_front c.self.inside.bytes.items c.self.inside.sent c.in-Ok.count c.self.inside.room c.args.self.now
          c.self.view_is (search rules))
    ]
