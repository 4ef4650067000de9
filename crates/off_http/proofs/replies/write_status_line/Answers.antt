use Rattle.std.proofs.Common.{rules, append_assoc}
use Rattle.off_http.specs.Reply.{status_line}
use Rattle.off_http.proofs.replies.write_status_line.Goals as goal

pub returns : goal.returns
unfolding status_line
returns c = search (rules, append_assoc)
