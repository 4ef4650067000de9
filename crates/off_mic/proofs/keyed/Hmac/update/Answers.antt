use Rattle.std.proofs.Common.{◌++◌, subst, append_assoc}
use Rattle.md5.specs.Md5.{Holds}
use Rattle.off_mic.specs.Hmac.{HoldsKeyed, inner_pad}
use Rattle.off_mic.proofs.keyed.Hmac.update.Goals as goal

pub returns : goal.returns
unfolding HoldsKeyed
returns c = λ key message holds. (subst (Holds c.update.new.self) (append_assoc (inner_pad key) message c.args.piece.now) (c.update.ensures (inner_pad key ++ message) holds.0), holds.1)
