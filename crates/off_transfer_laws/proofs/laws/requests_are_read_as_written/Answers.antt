use Rattle.off_transfer_laws.proofs.TextLemmas.{requests_are_read}
use Rattle.off_transfer_laws.proofs.laws.requests_are_read_as_written.Goals as goal

pub returns : goal.returns
returns c = requests_are_read
