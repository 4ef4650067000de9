use Rattle.off_office.proofs.SendLemmas.{sent_two}
use Rattle.off_turns.proofs.sending.answer_and_close.Goals as goal

pub returns : goal.returns
returns g c = sent_two _ _ _ _ _ _ _ _ c.give_answer-answered.ensures c.give_close-closed.ensures
