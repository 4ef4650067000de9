use Rattle.std.proofs.Common.{subst, Bool}
use Rattle.off_journal.specs.Begin.{AllReadIn}
use Rattle.off_journal.proofs.Opening.{not_made, made, opened_closed, opened_mended, not_mended}
use Rattle.off_journal.proofs.begin.open.Goals as goal

pub returns-in_default-write_synced-clause-opened : goal.returns-in_default-write_synced-clause-opened
returns-in_default-write_synced-clause-opened g c = not_made (g.D.Disk.seen c.args.disk.now) (g.D.Disk.seen c.sync.new.self) (g.D.Disk.seen c.write_synced.new.disk) c.in-Ok.ensures
    (λ b told. g.met.D.Disk.lengths c.sync.new.self b told) (cc) c.in_default-write_synced.ensures

pub returns-then-length-eq0-clause-opened : goal.returns-then-length-eq0-clause-opened
returns-then-length-eq0-clause-opened g c = made c.new-then-length-eq0.result.tables (g.D.Disk.seen c.args.disk.now) (g.D.Disk.seen c.sync.new.self) (g.D.Disk.seen c.write_synced.new.disk)
    (cc) c.in-Ok.ensures (λ b told. g.met.D.Disk.lengths c.sync.new.self b told) (cc) c.in-Ok-write_synced.ensures

pub returns-then-found-clause-opened : goal.returns-then-found-clause-opened
returns-then-found-clause-opened g c =
    opened_mended c.in_ok-found.found.rows.tables c.in_ok-found.found.gate (g.D.Disk.seen c.args.disk.now) (g.D.Disk.seen c.sync.new.self) (g.D.Disk.seen c.read_all.new.disk) (g.D.Disk.seen c.close.new.disk)
    c.in-Ok.ensures (subst (λ (b : Bool). AllReadIn c.in_ok-found.found.rows.tables c.in_ok-found.found.gate b (g.D.Disk.seen c.sync.new.self) (g.D.Disk.seen c.read_all.new.disk)) c.if-found.true c.in_ok-found.ensures)
    c.in-Ok-close.ensures.settles

pub returns-in_default-close-clause-opened : goal.returns-in_default-close-clause-opened
returns-in_default-close-clause-opened g c =
    not_mended c.in_ok-found.found.rows.tables c.in_ok-found.found.gate (g.D.Disk.seen c.args.disk.now) (g.D.Disk.seen c.sync.new.self) (g.D.Disk.seen c.read_all.new.disk) (g.D.Disk.seen c.close.new.disk)
    c.in-Ok.ensures (subst (λ (b : Bool). AllReadIn c.in_ok-found.found.rows.tables c.in_ok-found.found.gate b (g.D.Disk.seen c.sync.new.self) (g.D.Disk.seen c.read_all.new.disk)) c.if-found.true c.in_ok-found.ensures)
    c.in_default-close.ensures.settles

pub returns-clause-opened : goal.returns-clause-opened
returns-clause-opened g c =
    opened_closed c.in_ok-found.found.rows.tables c.in_ok-found.found.gate (g.D.Disk.seen c.args.disk.now) (g.D.Disk.seen c.sync.new.self) (g.D.Disk.seen c.read_all.new.disk)
    c.in-Ok.ensures (subst (λ (b : Bool). AllReadIn c.in_ok-found.found.rows.tables c.in_ok-found.found.gate b (g.D.Disk.seen c.sync.new.self) (g.D.Disk.seen c.read_all.new.disk)) c.if-found.false c.in_ok-found.ensures)
