use Rattle.std.proofs.Common.{◌≡◌, rules}
use Rattle.off_sqlcells.proofs.CallLemmas.{committed_all, none_committed, commit_refused}
use Rattle.off_sqlcells.proofs.writing.commit_all.Goals as goal

pub returns-clause-done : goal.returns-clause-done
returns-clause-done g c = λ steady.
    let final : c.conn-1.given.0 ≡ c.end.new.work.0 = search rules in
    rw final (committed_all g.S.Store c.args.conn.now c.write_all-done.new.work.conn.now c.end.new.work.0 c.args.writes.now c.write_all-done.result c.end.result
    (rw c.transaction-work.ensures.begun at (c.write_all-done.ensures.done steady)) (c.end.ensures.ended steady))

pub returns-clause-undone : goal.returns-clause-undone
returns-clause-undone g c = λ steady.
    let final : c.conn-1.given.0 ≡ c.end.new.work.0 = search rules in
    rw final (none_committed g.S.Store c.args.conn.now c.write_all-done.new.work.conn.now c.end.new.work.0 c.args.writes.now c.write_all-done.result c.end.result
    (rw c.transaction-work.ensures.begun at (c.write_all-done.ensures.done steady)) (rw c.transaction-work.ensures.begun at (c.write_all-done.ensures.stays steady)) (c.end.ensures.ended steady))

pub returns-clause-cause : goal.returns-clause-cause
returns-clause-cause g c = λ steady.
    let final : c.conn-1.given.0 ≡ c.end.new.work.0 = search rules in
    rw final (commit_refused g.S.Store c.args.conn.now c.write_all-done.new.work.conn.now c.end.new.work.0 c.args.writes.now c.write_all-done.result c.end.result
    (rw c.transaction-work.ensures.begun at (c.write_all-done.ensures.cause steady)) (c.end.ensures.ended steady))
