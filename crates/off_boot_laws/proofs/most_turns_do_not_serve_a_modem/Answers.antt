use Rattle.off_boot_laws.proofs.Waiting.{most_do_not_serve}
use Rattle.off_boot_laws.proofs.most_turns_do_not_serve_a_modem.Goals as goal

pub returns : goal.returns
returns c = most_do_not_serve
