use Rattle.off_commands.proofs.ImportLemmas.{is_same_one}
use Rattle.off_commands.proofs.importing.is_same.Goals as goal

pub returns-then-is_kind : goal.returns-then-is_kind
returns-then-is_kind c = is_same_one c.args.batch.now c.args.old.now c.is_kind.result c.eq.result c.is_kind.ensures c.if-is_kind.true c.eq.ensures
