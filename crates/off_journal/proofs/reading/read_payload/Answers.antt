use Rattle.off_journal.proofs.PayloadLemmas.{read_more}
use Rattle.off_journal.proofs.reading.read_payload.Goals as goal

pub loop-rest-preserved : goal.loop-rest-preserved
loop-rest-preserved c =
    let m = read_more c.loop-rest.writes.items c.add_write.new.writes.items c.in-Ok.write _ _ _ c.in_ok-add_write-in-Ok.ensures c.loop-rest.invariant.spelled c.loop-rest.invariant.so_far c.in-Ok.ensures.0 c.in-Ok.ensures.1 in
    record { spelled = m.0; so_far = m.1 }
