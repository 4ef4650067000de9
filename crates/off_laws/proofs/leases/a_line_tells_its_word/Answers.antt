use Rattle.off_laws.proofs.Acknowledged.{lines_tell_words}
use Rattle.off_laws.proofs.leases.a_line_tells_its_word.Goals as goal

pub returns : goal.returns
returns c = lines_tell_words
