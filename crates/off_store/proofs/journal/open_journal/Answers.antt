use Rattle.std.proofs.Common.{◌∙◌}
use Rattle.off_store.proofs.journal.open_journal.Goals as goal

pub returns-in-Ok : goal.returns-in-Ok
returns-in-Ok c = record { disk = c.may_be_journal.new.disk; faults = c.in_ok-may_be.ensures ∙ c.in_ok-disk.ensures; begun = c.in-Ok.ensures.begun }
