use Rattle.std.proofs.Common.{rules, append_assoc}
use Rattle.off_http.specs.Reply.{length_line}
use Rattle.off_http.proofs.replies.write_length_line.Goals as goal

pub returns : goal.returns
unfolding length_line
returns c = search (rules, append_assoc)
