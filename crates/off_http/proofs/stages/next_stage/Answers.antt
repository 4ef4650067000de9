use Rattle.off_http.proofs.PartLemmas.{head_stays, finished_stays, failed_stays}
use Rattle.off_http.proofs.stages.next_stage.Goals as goal

pub await_body-requires : goal.await_body-requires
await_body-requires c = head_stays c.args.bytes.now c.args.seen c.in-ReadingBody.parts (rw c.in-ReadingBody.is at c.requires.held).0

pub returns-in-Finished : goal.returns-in-Finished
returns-in-Finished c = finished_stays c.args.bytes.now c.args.seen c.in-Finished.parts (rw c.in-Finished.is at c.requires.held)

pub returns-in-Failed : goal.returns-in-Failed
returns-in-Failed c = failed_stays c.args.bytes.now c.args.seen c.in-Failed.fault (rw c.in-Failed.is at c.requires.held)
