use Rattle.std.proofs.Common.{ap, rules}
use Rattle.off_defs.specs.declared.results.Sent.TheVariants as sent
use Rattle.off_outside.proofs.OutboxLemmas.{posted_box, last_part_at}
use Rattle.off_outside.proofs.outbox.Outbox.datagram.Goals as goal

pub returns : goal.returns
returns c =
    rw (← c.self.view_is)
    (posted_box _ _ _ _ _ _ _ _ _ _ _ c.put.ensures.octets c.put.ensures.items c.keep.ensures.moments c.self.invariant.0 (ap (λ v. sent.Datagram c.args.service c.args.to v) (last_part_at c.self.inside.octets.items c.args.bytes.now _ (search rules))))
