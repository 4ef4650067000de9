use Rattle.off_import.proofs.RecordLemmas.{all_left}
use Rattle.off_import.proofs.records.records_of.Goals as goal

pub returns-clause-all : goal.returns-clause-all
returns-clause-all c = all_left _ c.args.text.now c.from_reader.ensures.source c.from_reader.ensures.state
