use Rattle.off_turns.proofs.TurnLemmas.{act_ends}
use Rattle.off_turns.proofs.turning.act.Goals as goal

pub returns : goal.returns
returns g c =
    act_ends _ _ c.step-outcome.result c.step-outcome.new.out c.line.result.now c.send_all-said.result c.send_added-added.result _ _ _ _ _ _ _ _ _ _ _ c.step-outcome.ensures c.of-pass.ensures c.send_all-said.ensures c.send_added-added.ensures c.line.ensures.text c.write_line.ensures
