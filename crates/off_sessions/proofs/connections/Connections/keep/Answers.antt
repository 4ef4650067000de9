use Rattle.std.proofs.Common.{sym, ap, ◌∙◌}
use Rattle.std.specs.FinMap as map
use Rattle.off_sessions.proofs.ConnectionLemmas.{inserted, keep_wait}
use Rattle.off_base.proofs.ResultLemmas.{if_ok}
use Rattle.off_sessions.proofs.connections.Connections.keep.Goals as goal

pub invariant_of-self : goal.invariant_of-self
invariant_of-self c =
    (c.insert.ensures.ordered, keep_wait c.insert.result c.args.conn c.args.session _ _ c.requires c.self.invariant.1 c.insert.ensures.entries c.insert.ensures.err)

pub returns-then-is_kept-clause-ok : goal.returns-then-is_kept-clause-ok
returns-then-is_kept-clause-ok c =
    inserted c.args.conn c.args.session c.self.inside.live.entries c.insert.new.self.entries c.self.invariant.0 c.insert.ensures.ordered
    (if_ok c.insert.result (sym c.is_ok-is_kept.ensures.value ∙ c.if-is_kept.true) c.insert.ensures.updates).0
    ∙ ap (λ m. map.insert m c.args.conn c.args.session.bytes) c.self.view_is
