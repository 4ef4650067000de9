use Rattle.std.proofs.Common.{IfSome}
use Rattle.std.specs.FinMap as map
use Rattle.off_transfer_rules.specs.Requests.{datagram_at}
use Rattle.off_transfer_rules.specs.Steps.{way_of_last}
use Rattle.off_outside.proofs.KeeperLemmas.{reads_none}
use Rattle.off_tftp.specs.Agreements.{RemembersRight}
use Rattle.off_tftp.specs.Deciding.{Does, SeesRight}
use Rattle.off_tftp.specs.Seen.{view_at}
use Rattle.off_tftp.proofs.DoesLemmas.{looks_as, last_does, next_is}
use Rattle.off_tftp.proofs.transfers.Transfers.on_acknowledgement.Goals as goal

pub returns-in-Last-clause-told : goal.returns-in-Last-clause-told
returns-in-Last-clause-told g c =
    reads_none (λ t right. (last_does c.args.datagram.now.at.0 c.args.self.now c.args.datagram.now.from c.args.datagram.now.bytes.now (view_at t c.args.datagram.now.hub c.args.datagram.now.from.ip) c.args.datagram.now.from.ip c.args.number (map.get c.args.self.now c.args.datagram.now.from) c.in-Last.ensures, tt))

pub returns-in-Next-clause-told : goal.returns-in-Next-clause-told
returns-in-Next-clause-told g c =
    looks_as _ _ c.on_next.result
    (λ d t. let v = view_at t c.args.datagram.now.hub c.args.datagram.now.from.ip in RemembersRight v c.args.datagram.now.from.ip c.args.agreements.now
    → IfSome (map.get c.args.self.now c.args.datagram.now.from) (λ x. Does v c.args.self.now (datagram_at c.args.datagram.now.at.0 c.args.datagram.now.from c.args.datagram.now.bytes.now) (way_of_last v c.args.datagram.now.at.0 c.args.datagram.now.from.ip x) d) × SeesRight v c.args.datagram.now.from.ip d)
    _ c.on_next.ensures.told
    (λ d t does right. let both = does right in
    (next_is c.args.datagram.now.at.0 c.args.self.now c.args.datagram.now.from c.args.datagram.now.bytes.now (view_at t c.args.datagram.now.hub c.args.datagram.now.from.ip) c.args.datagram.now.from.ip c.args.number (map.get c.args.self.now c.args.datagram.now.from) d c.in-Next.ensures both.0, both.1))
