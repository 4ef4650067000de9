use Rattle.std.proofs.Common.{true}
use Rattle.off_base.proofs.PartLemmas.{is_reading}
use Rattle.off_base.proofs.joined.first_cut.Goals as goal

pub returns-in-End-clause-reading : goal.returns-in-End-clause-reading
returns-in-End-clause-reading c = is_reading true c.args.options.now

pub returns-in-Cut-clause-reading : goal.returns-in-Cut-clause-reading
returns-in-Cut-clause-reading c = is_reading true c.args.options.now
