use Rattle.off_packets.specs.Packets.{meant_by}
use Rattle.off_packets.proofs.PacketLemmas.{too_long, too_short, read_whole}
use Rattle.off_packets.proofs.reader.read_packet.Goals as goal

pub returns-then-bytes-gt-MOST-clause-exact : goal.returns-then-bytes-gt-MOST-clause-exact
returns-then-bytes-gt-MOST-clause-exact c = too_long c.args.bytes.now c.if-bytes-gt-MOST.true

pub returns-in_default-clause-exact : goal.returns-in_default-clause-exact
returns-in_default-clause-exact c = too_short c.args.bytes.now c.in_default.ensures

pub returns-clause-exact : goal.returns-clause-exact
returns-clause-exact c =
    read_whole c.args.bytes.now c.in-Some.code c.in-Some.rest.now c.read_by.result meant_by c.if-bytes-gt-MOST.false c.in-Some.ensures c.read_by.ensures.exact
