use Rattle.off_rows.proofs.Rows.{first_bad, only_row}
use Rattle.off_rows.proofs.reading.decode.Goals as goal

pub returns-clause-first : goal.returns-clause-first
returns-clause-first c = first_bad c.args.k.now c.args.bytes.now c.found_row.result c.found_row.ensures

pub returns-clause-only : goal.returns-clause-only
returns-clause-only c = only_row c.args.k.now c.args.bytes.now c.found_row.result c.found_row.ensures
