use Rattle.off_tlv.proofs.FrontLemmas.{extent_only, extent_first}
use Rattle.off_tlv.proofs.extents.extent.Goals as goal

pub returns-clause-only : goal.returns-clause-only
returns-clause-only c = extent_only c.args.file.now c.found_extent.result c.found_extent.ensures

pub returns-clause-first : goal.returns-clause-first
returns-clause-first c = extent_first c.args.file.now c.found_extent.result c.found_extent.ensures
