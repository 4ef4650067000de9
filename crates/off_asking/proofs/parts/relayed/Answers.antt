use Rattle.std.proofs.Common.{sym, ap, ◌∙◌}
use Rattle.off_dhcp.specs.Datagram.{Received}
use Rattle.off_docsis.specs.Cable.{relay_of}
use Rattle.off_asking.specs.Asking.{relay_parts}
use Rattle.off_asking.proofs.SpanLemmas.{none_relayed}
use Rattle.off_asking.proofs.parts.relayed.Goals as goal

pub returns-in-Err : goal.returns-in-Err
returns-in-Err c =
    none_relayed (relay_parts c.args.m.now) _
    (sym c.in-Err.is ∙ c.m.invariant.3.way_is ∙ ap (λ (m : Received). relay_of (relay_parts m)) c.m.view_is)
