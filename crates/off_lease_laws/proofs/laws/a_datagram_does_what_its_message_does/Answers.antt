use Rattle.off_lease_laws.proofs.LawLemmas.{messages_do}
use Rattle.off_lease_laws.proofs.laws.a_datagram_does_what_its_message_does.Goals as goal

pub returns : goal.returns
returns c = messages_do
