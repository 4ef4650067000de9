use Rattle.off_journal.proofs.Keeping.{settled_by, not_settled_by, none_settled_by}
use Rattle.off_journal.proofs.keeper.JournalKeeper.settle.Goals as goal

pub returns-in_default-clause-settled : goal.returns-in_default-clause-settled
returns-in_default-clause-settled g c =
    not_settled_by (g.D.Disk.seen c.args.self.now.disk) (g.D.Disk.seen c.close.new.disk) c.args.self.now.rows.tables c.args.self.now.gate _ c.args.self.now.counts
    c.args.self.now.last c.in-Doubtful.is c.in_default.ensures.settles

pub returns-in-Ok-clause-settled : goal.returns-in-Ok-clause-settled
returns-in-Ok-clause-settled g c =
    settled_by (g.D.Disk.seen c.args.self.now.disk) (g.D.Disk.seen c.close.new.disk) c.args.self.now.rows.tables c.args.self.now.gate _ c.args.self.now.counts
    c.args.self.now.last c.in-Doubtful.is c.in-Ok.ensures.settles

pub returns-in-Closed-clause-settled : goal.returns-in-Closed-clause-settled
returns-in-Closed-clause-settled g c =
    none_settled_by (g.D.Disk.seen c.args.self.now.disk) c.args.self.now.rows.tables c.args.self.now.gate c.args.self.now.counts c.args.self.now.last c.in-Closed.is

pub returns-in_default-clause-cause : goal.returns-in_default-clause-cause
returns-in_default-clause-cause g c = c.in_default.ensures.settles.faults
