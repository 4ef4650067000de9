use Rattle.off_outside.proofs.StreamLemmas.{read_tells, read_room}
use Rattle.off_outside.proofs.mem_streams.MemSourceSource.read.Goals as goal

pub returns-clause-gave : goal.returns-clause-gave
returns-clause-gave c = read_tells _ c.args.out.now _ c.args.self.now _ c.fill.ensures c.fill.auto.out

pub returns-clause-room : goal.returns-clause-room
returns-clause-room c = read_room _ c.args.out.now _ c.args.self.now _ c.fill.ensures c.fill.auto.out
