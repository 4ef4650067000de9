use Rattle.off_files.proofs.TailLemmas.{tail_seals}
use Rattle.off_files.proofs.tails.tail.Goals as goal

pub returns : goal.returns
returns c = λ profile b neither.
    tail_seals c.args.secret.now c.args.now.0 c.args.ip profile c.args.body.now c.stamped-held.result.items c.push_cm.new.held.items c.push_cmts.new.held.items c.push_end.new.held.items b neither
    c.stamped-held.ensures.items c.push_cm.ensures.items c.push_cmts.ensures.items c.push_end.ensures
