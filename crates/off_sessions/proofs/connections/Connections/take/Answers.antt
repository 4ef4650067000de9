use Rattle.std.proofs.Common.{sym, ap, ◌∙◌, subst, option_map}
use Rattle.std.specs.FinMap as map
use Rattle.off_sessions.specs.Connections.{bytes_of, AllWait}
use Rattle.off_sessions.proofs.ConnectionLemmas.{get_heard, removed, wait_less, waits_at}
use Rattle.off_sessions.proofs.connections.Connections.take.Goals as goal

pub invariant_of-self : goal.invariant_of-self
invariant_of-self c =
    (c.remove.ensures.ordered, subst (λ es. AllWait es) (sym c.remove.ensures.entries) (wait_less _ _ c.self.invariant.1))

pub returns-clause-bytes : goal.returns-clause-bytes
returns-clause-bytes c =
    ap (option_map bytes_of) c.remove.ensures.value
    ∙ (sym (get_heard c.args.conn c.self.inside.live.entries c.self.invariant.0) ∙ ap (λ m. map.get m c.args.conn) c.self.view_is)

pub returns-clause-waits : goal.returns-clause-waits
returns-clause-waits c = waits_at _ _ _ c.self.invariant.1 c.remove.ensures.value

pub returns-clause-left : goal.returns-clause-left
returns-clause-left c =
    removed c.args.conn c.self.inside.live.entries c.remove.new.self.entries c.self.invariant.0 c.remove.ensures.ordered c.remove.ensures.updates.0
    ∙ ap (λ m. map.remove m c.args.conn) c.self.view_is
