use Rattle.std.proofs.Common.{refl}
use Rattle.off_http.specs.Reply.{reply}
use Rattle.off_http.proofs.replies.reply_bytes.Goals as goal

pub returns : goal.returns
unfolding reply
returns c =
    rw (c.in_ok-push_all-4.ensures.ok, c.in_ok-push_all-3.ensures.ok, c.in_ok-push_all-2.ensures.ok, c.in_ok-write_length_line.ensures, c.in_ok-push_all.ensures.ok, c.in_ok-write_status_line.ensures, c.new-bytes.ensures) refl
