use Rattle.std.proofs.Common.{[], ◌++◌}
use Rattle.off_mic.specs.Mic.{digest_text}
use Rattle.off_mic.proofs.digests.cmts_mic.Goals as goal

pub returns : goal.returns
unfolding digest_text
returns c = λ front back e f. c.finish.ensures c.args.secret.now (digest_text (front ++ back)) (c.take_codes.ensures c.args.secret.now [] front back e f c.new-hmac.ensures)
