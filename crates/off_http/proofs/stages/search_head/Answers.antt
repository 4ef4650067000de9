use Rattle.std.proofs.Common.{arith}
use Rattle.off_http.proofs.Meanings.{head_limit_is}
use Rattle.off_http.proofs.PartLemmas.{headless_fails, head_fails, none_seen, none_come}
use Rattle.off_http.proofs.stages.search_head.Goals as goal

pub blank_line_at-requires-clause-unseen : goal.blank_line_at-requires-clause-unseen
blank_line_at-requires-clause-unseen c = rw c.head_room.ensures (none_seen c.args.bytes.now c.args.seen c.requires.seen_in c.requires.held)

pub returns-in-Err : goal.returns-in-Err
returns-in-Err c = head_fails c.args.bytes.now c.in-Some.at c.in-Err.fault (rw c.head_room.ensures at c.in-Some.ensures) c.in-Err.ensures

pub returns-then-bytes-lt-HEAD_LIMIT : goal.returns-then-bytes-lt-HEAD_LIMIT
returns-then-bytes-lt-HEAD_LIMIT c = none_come c.args.bytes.now (rw c.head_room.ensures at c.in-None.ensures) c.if-bytes-lt-HEAD_LIMIT.true

pub returns-else-bytes-lt-HEAD_LIMIT : goal.returns-else-bytes-lt-HEAD_LIMIT
returns-else-bytes-lt-HEAD_LIMIT c = headless_fails c.args.bytes.now (rw c.head_room.ensures at c.in-None.ensures) (omega (arith, head_limit_is))
