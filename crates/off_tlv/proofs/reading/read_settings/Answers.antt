use Rattle.off_tlv.proofs.ReadingLemmas.{settings_only, settings_first}
use Rattle.off_tlv.proofs.reading.read_settings.Goals as goal

pub returns-clause-only : goal.returns-clause-only
returns-clause-only c = settings_only c.args.file.now c.found_settings.result c.found_settings.ensures

pub returns-clause-first : goal.returns-clause-first
returns-clause-first c = settings_first c.args.file.now c.found_settings.result c.found_settings.ensures
