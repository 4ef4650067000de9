use Rattle.off_sessions.proofs.ConnectionLemmas.{full_by, not_full}
use Rattle.off_sessions.proofs.connections.Connections.is_full_for.Goals as goal

pub returns-then-not-contains_key : goal.returns-then-not-contains_key
returns-then-not-contains_key c =
    full_by c.args.conn c.self.inside.live.entries _ _ c.self.invariant.0 c.self.view_is c.contains_key.ensures c.if-not-contains_key.true c.len.ensures.len

pub returns-else-not-contains_key : goal.returns-else-not-contains_key
returns-else-not-contains_key c = not_full c.args.conn c.self.inside.live.entries _ _ c.self.invariant.0 c.self.view_is c.contains_key.ensures c.if-not-contains_key.false
