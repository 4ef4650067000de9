use Rattle.std.proofs.Common.{ℕ, ◌+◌, ◌∙◌, List, ◌++◌, length, replicate, refl, ap, arith, inl}
use Rattle.off_defs.specs.declared.writes.Write.{Write}
use Rattle.off_defs.specs.Tables.{write_all}
use Rattle.off_disk.proofs.Ends.{record_size}
use Rattle.off_journal.specs.Payload.{payload_of}
use Rattle.off_journal.proofs.Keeping.{commit_unsettled, commit_opened, commit_closed, commit_doubtful}
use Rattle.off_journal.proofs.keeper.JournalKeeperKeeper.commit.Goals as goal

pub returns-in_default-clause-told : goal.returns-in_default-clause-told
returns-in_default-clause-told g c = commit_unsettled c.args.writes.now
    (g.D.Disk.seen c.args.self.now.disk) (g.D.Disk.seen c.settle.new.self.disk)
    c.args.self.now.rows.tables c.plan.new.self.tables c.settle.new.self.rows.tables c.args.self.now.gate c.settle.new.self.gate c.args.self.now.last c.settle.new.self.last
    c.args.self.now.counts (record { own = c.record_of.new.own; calls = c.one_more-self.result; commits = c.args.self.now.counts.commits }) c.settle.new.self.counts
    c.in_ok-plan.ensures.rest.tables c.in_ok-record.ensures.1.1 refl c.in_default.ensures.settled

pub returns-in-Opened-clause-told : goal.returns-in-Opened-clause-told
returns-in-Opened-clause-told g c = commit_opened c.args.writes.now
    (g.D.Disk.seen c.args.self.now.disk) (g.D.Disk.seen c.settle.new.self.disk) (g.D.Disk.seen c.append.new.disk)
    c.args.self.now.rows.tables c.plan.new.self.tables c.settle.new.self.rows.tables c.apply.new.self.tables c.args.self.now.gate c.settle.new.self.gate (c.settle.new.self.gate + c.len-length.result) c.args.self.now.last c.settle.new.self.last
    c.args.self.now.counts (record { own = c.record_of.new.own; calls = c.one_more-self.result; commits = c.args.self.now.counts.commits }) c.settle.new.self.counts
    (record { own = c.settle.new.self.counts.own; calls = c.settle.new.self.counts.calls; commits = c.one_more-self-in-Opened.result })
    c.in_ok-plan.ensures.rest.tables c.in_ok-record.ensures.1.1 refl c.in-Ok.ensures.settled c.in-Ok.ensures.closed c.in_ok-record.ensures.0
    (c.in-Opened.ensures (payload_of c.args.writes.now) (replicate c.room_behind-room.result 0)
    (c.as_slice.ensures ∙ (c.in_ok-push_zeros.ensures ∙ ap (λ (b : List ℕ). b ++ replicate c.room_behind-room.result 0) c.in_ok-record.ensures.1.0))
    (omega (arith, c.in_ok-record.ensures.0.short)))
    (c.apply.ensures.tables ∙ ap (λ (ws : List Write). write_all c.settle.new.self.rows.tables ws) c.in_ok-plan.ensures.plan)
    (omega (arith, c.len-length.ensures, ap length c.in_ok-record.ensures.1.0, record_size (payload_of c.args.writes.now)))
    refl c.one_more-self-in-Opened.ensures

pub returns-in-Closed-clause-told : goal.returns-in-Closed-clause-told
returns-in-Closed-clause-told g c = commit_closed c.args.writes.now
    (g.D.Disk.seen c.args.self.now.disk) (g.D.Disk.seen c.settle.new.self.disk) (g.D.Disk.seen c.append.new.disk)
    c.args.self.now.rows.tables c.plan.new.self.tables c.settle.new.self.rows.tables c.args.self.now.gate c.settle.new.self.gate c.args.self.now.last c.settle.new.self.last
    c.args.self.now.counts (record { own = c.record_of.new.own; calls = c.one_more-self.result; commits = c.args.self.now.counts.commits }) c.settle.new.self.counts
    c.in_ok-plan.ensures.rest.tables c.in_ok-record.ensures.1.1 refl c.in-Ok.ensures.settled c.in-Ok.ensures.closed c.in_ok-record.ensures.0
    (c.in-Closed.ensures (payload_of c.args.writes.now) (replicate c.room_behind-room.result 0)
    (c.as_slice.ensures ∙ (c.in_ok-push_zeros.ensures ∙ ap (λ (b : List ℕ). b ++ replicate c.room_behind-room.result 0) c.in_ok-record.ensures.1.0))
    (omega (arith, c.in_ok-record.ensures.0.short)))

pub returns-clause-told : goal.returns-clause-told
returns-clause-told g c = commit_doubtful c.args.writes.now c.in_ok-plan.plan
    (g.D.Disk.seen c.args.self.now.disk) (g.D.Disk.seen c.settle.new.self.disk) (g.D.Disk.seen c.append.new.disk)
    c.args.self.now.rows.tables c.plan.new.self.tables c.settle.new.self.rows.tables c.args.self.now.gate c.settle.new.self.gate c.args.self.now.last c.settle.new.self.last
    c.args.self.now.counts (record { own = c.record_of.new.own; calls = c.one_more-self.result; commits = c.args.self.now.counts.commits }) c.settle.new.self.counts
    c.in_ok-plan.ensures.rest.tables c.in_ok-record.ensures.1.1 refl c.in-Ok.ensures.settled c.in-Ok.ensures.closed c.in_ok-plan.ensures.plan c.in_ok-record.ensures.0
    (c.in-Doubtful.ensures (payload_of c.args.writes.now) (replicate c.room_behind-room.result 0)
    (c.as_slice.ensures ∙ (c.in_ok-push_zeros.ensures ∙ ap (λ (b : List ℕ). b ++ replicate c.room_behind-room.result 0) c.in_ok-record.ensures.1.0))
    (omega (arith, c.in_ok-record.ensures.0.short)))

pub returns-in_default-clause-cause : goal.returns-in_default-clause-cause
returns-in_default-clause-cause g c = inl c.in_default.ensures.cause
