use Rattle.std.proofs.Common.{subst, sym}
use Rattle.off_journal.specs.Begin.{HasOpened, NotOpened}
use Rattle.off_journal.proofs.Opening.{begun, unasked}
use Rattle.off_journal.proofs.keeper.JournalKeeper.begin_with_room.Goals as goal

pub returns-in_default-clause-begun : goal.returns-in_default-clause-begun
returns-in_default-clause-begun g c = unasked (g.D.Disk.seen c.args.disk)

pub returns-in-Ok-open-clause-begun : goal.returns-in-Ok-open-clause-begun
returns-in-Ok-open-clause-begun g c =
    let found = c.in-Ok-open.found in
    let below = subst (λ (d : g.row.D.Denot). HasOpened found.rows.tables found.gate (g.D.Disk.seen d) (g.D.Disk.seen c.open.new.disk.disk)) c.over-ahead.ensures c.in-Ok-open.ensures.opened in
    begun _ _ _ _ _ c.new.ensures (subst (λ (d : g.row.D.Denot). HasOpened found.rows.tables found.gate (g.D.Disk.seen c.args.disk) (g.D.Disk.seen d)) (sym c.into_disk.ensures) below)

pub returns-in-Err-clause-begun : goal.returns-in-Err-clause-begun
returns-in-Err-clause-begun g c =
    let below = subst (λ (d : g.row.D.Denot). NotOpened c.in-Err.why (g.D.Disk.seen d) (g.D.Disk.seen c.open.new.disk.disk)) c.over-ahead.ensures c.in-Err.ensures.opened in
    subst (λ (d : g.row.D.Denot). NotOpened c.in-Err.why (g.D.Disk.seen c.args.disk) (g.D.Disk.seen d)) (sym c.into_disk-in-Err.ensures) below
