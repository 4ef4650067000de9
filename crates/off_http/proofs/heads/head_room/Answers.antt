use Rattle.std.proofs.lemmas.List.{take_min}
use Rattle.off_http.proofs.Meanings.{head_limit_is}
use Rattle.off_http.proofs.heads.head_room.Goals as goal

pub returns : goal.returns
returns c = rw (c.min-end.ensures, ← head_limit_is) (take_min _ c.args.bytes.now)
