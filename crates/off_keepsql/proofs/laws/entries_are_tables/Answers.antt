use Rattle.off_keepsql.proofs.LawLemmas.{entries_are_tables}
use Rattle.off_keepsql.proofs.laws.entries_are_tables.Goals as goal

pub returns : goal.returns
returns c = entries_are_tables
