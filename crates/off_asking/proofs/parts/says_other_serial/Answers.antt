use Rattle.std.proofs.Common.{not, sym, ap, ◌∙◌}
use Rattle.std.specs.Str.{bytes_eq}
use Rattle.off_dhcp.specs.Datagram.{Received}
use Rattle.off_docsis.specs.Cable.{device_of}
use Rattle.off_asking.specs.Asking.{vendor_parts}
use Rattle.off_asking.proofs.SpanLemmas.{device_none}
use Rattle.off_asking.proofs.parts.says_other_serial.Goals as goal

pub returns-in-Err : goal.returns-in-Err
returns-in-Err c =
    device_none (λ said. not (bytes_eq said c.args.serial.now)) 4 (vendor_parts c.args.m.now) _
    (sym c.in-Err.is ∙ c.m.invariant.3.device_is ∙ ap (λ (m : Received). device_of (vendor_parts m)) c.m.view_is)
