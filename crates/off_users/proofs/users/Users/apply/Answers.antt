use Rattle.off_defs.specs.Tables.{write_all}
use Rattle.off_users.proofs.KeptLemmas.{known_stands, stands_known}
use Rattle.off_users.proofs.users.Users.apply.Goals as goal

pub returns-clause-knows : goal.returns-clause-knows
returns-clause-knows c = λ t knows.
    stands_known c.take_writes.new.users (write_all t c.args.writes.now) (c.take_writes.ensures t (known_stands c.args.self.now t knows))
