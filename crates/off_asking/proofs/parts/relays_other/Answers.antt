use Rattle.std.proofs.Common.{not, ◌==◌, ◌&&◌, length, sym, ap, ◌∙◌}
use Rattle.std.specs.Str.{bytes_eq}
use Rattle.off_dhcp.specs.Datagram.{Received}
use Rattle.off_docsis.specs.Cable.{relay_of}
use Rattle.off_asking.specs.Asking.{relay_parts}
use Rattle.off_asking.proofs.SpanLemmas.{relay_none}
use Rattle.off_asking.proofs.parts.relays_other.Goals as goal

pub returns-in-Err : goal.returns-in-Err
returns-in-Err c =
    relay_none (λ remote. (length remote == 6) && not (bytes_eq remote c.args.mac.0)) 2 (relay_parts c.args.m.now) _
    (sym c.in-Err.is ∙ c.m.invariant.3.way_is ∙ ap (λ (m : Received). relay_of (relay_parts m)) c.m.view_is)
