use Rattle.off_import.proofs.RecordLemmas.{next_is}
use Rattle.off_import.proofs.records.next_record.Goals as goal

pub returns-clause-next : goal.returns-clause-next
returns-clause-next c =
    let e = c.in-Ok.ensures in
    let h = c.requires in
    next_is c.in-Ok.found c.args.reader.now c.read_byte_record.new.self _ h (e.reads h.untrimmed h.ready) (e.ready h.untrimmed) e.flexible
