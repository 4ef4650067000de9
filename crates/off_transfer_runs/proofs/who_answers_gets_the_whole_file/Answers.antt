use Rattle.off_transfer_runs.proofs.Whole.{who_answers_gets_all}
use Rattle.off_transfer_runs.proofs.who_answers_gets_the_whole_file.Goals as goal

pub returns : goal.returns
returns c = who_answers_gets_all
