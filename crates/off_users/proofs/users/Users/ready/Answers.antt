use Rattle.off_users.proofs.KeptLemmas.{same_kept}
use Rattle.off_users.proofs.users.Users.ready.Goals as goal

pub returns-clause-kept : goal.returns-clause-kept
returns-clause-kept c = same_kept c.args.self.now c.take_room.new.self c.take_room.ensures.same
