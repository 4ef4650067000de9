use Rattle.off_commands.proofs.ImportLemmas.{sound_rows, import_answers, import_walks}
use Rattle.off_commands.proofs.GoodLemmas.{decided_good}
use Rattle.off_commands.proofs.commands.decide.Goals as goal

pub import-verdict-requires-clause-sound : goal.import-verdict-requires-clause-sound
import-verdict-requires-clause-sound g c = sound_rows c.args.c.now c.in-Import.kind c.in-Import.batch c.in-Import.digest c.in-Import.rows c.in-Import.is c.requires.sound

pub returns-clause-told : goal.returns-clause-told
returns-clause-told g c =
    import_answers c.args.counts.now c.args.users.now c.args.now.0 c.args.c.now c.in-Import.batch (record { kind = c.in-Import.kind; digest = c.in-Import.digest; rows = c.len.result }) c.in-Import.rows _ _
    c.import-verdict.result c.import_answer.result c.in-Import.is c.import_answer.ensures c.import-verdict.ensures.told

pub returns-clause-good : goal.returns-clause-good
returns-clause-good g c = decided_good _ c.args.users.now _ _ _ _ _ c.requires.sound (returns-clause-told g c)

pub returns-in_default-clause-good : goal.returns-in_default-clause-good
returns-in_default-clause-good g c = decided_good _ c.args.users.now _ _ _ _ _ c.requires.sound c.decide_single.ensures.told

pub returns-clause-walks : goal.returns-clause-walks
returns-clause-walks g c = import_walks c.args.c.now c.in-Import.kind c.in-Import.batch c.in-Import.digest c.in-Import.rows _ _ c.in-Import.is
