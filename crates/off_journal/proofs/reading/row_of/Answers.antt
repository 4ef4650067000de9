use Rattle.off_journal.proofs.reading.row_of.Goals as goal

pub returns-in-Err : goal.returns-in-Err
returns-in-Err c = c.why_none.ensures c.args.key.now c.args.bytes.now c.in-Err.ensures.found
