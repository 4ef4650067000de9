use Rattle.std.proofs.Common.{refl}
use Rattle.off_commands.proofs.ProgressLemmas.{stands_none}
use Rattle.off_commands.proofs.progress.begin.Goals as goal

pub returns-clause-stands : goal.returns-clause-stands
returns-clause-stands c = stands_none c.args.counts.now (record { keys = c.new.result; writes = c.new-2.result; counts = c.args.counts.now }) c.new.ensures.empty c.new-2.ensures refl
