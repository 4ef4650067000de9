use Rattle.std.proofs.Common.{ap, ◌∙◌}
use Rattle.std.specs.FinMap as map
use Rattle.off_tftp.proofs.EntryLemmas.{none_kept}
use Rattle.off_tftp.proofs.transfers.Transfers.new.Goals as goal

pub returns-in-Ok : goal.returns-in-Ok
returns-in-Ok c = ap map.from_sorted c.in-Ok.ensures.items ∙ none_kept
