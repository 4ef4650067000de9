use Rattle.off_lease_laws.proofs.AgreeLemmas.{messages_move}
use Rattle.off_lease_laws.proofs.laws.a_message_moves_one_client.Goals as goal

pub returns : goal.returns
returns c = messages_move
