use Rattle.std.proofs.Common.{◌++◌, subst, append_assoc}
use Rattle.md5.specs.Md5.{Holds}
use Rattle.off_mic.specs.Feed.{wanted_text}
use Rattle.off_mic.specs.Hmac.{HoldsKeyed, inner_pad}
use Rattle.off_mic.proofs.keyed.Hmac.take_settings.Goals as goal

pub returns : goal.returns
unfolding HoldsKeyed
returns c = λ key message trees e holds.
    (subst (Holds c.feed.new.hasher) (append_assoc (inner_pad key) message (wanted_text c.args.wanted trees)) (c.feed.ensures (inner_pad key ++ message) trees e holds.0), holds.1)
