use Rattle.off_packets.proofs.PacketLemmas.{text_is_cut, no_text}
use Rattle.off_packets.proofs.reader.cut_text.Goals as goal

pub returns-in-Some : goal.returns-in-Some
returns-in-Some c = text_is_cut c.args.bytes.now c.in-Some.place c.in-Some.ensures.exact

pub returns-in-None : goal.returns-in-None
returns-in-None c = no_text c.args.bytes.now c.in-None.ensures.exact
