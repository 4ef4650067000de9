use Rattle.std.proofs.Common.{◌≡◌, [], ◌++◌, sym, subst, ap, ◌∙◌, append-nil}
use Rattle.md5.specs.Md5.{Holds}
use Rattle.off_mic.specs.Hmac.{HoldsKeyed, masked, inner_pad}
use Rattle.off_mic.proofs.keyed.Hmac.new.Goals as goal

pub returns : goal.returns
unfolding HoldsKeyed
returns c =
    let inner : c.with_mask.result ≡ inner_pad c.args.secret.now ++ [] = c.with_mask.ensures ∙ ap (masked 0x36) c.key_block-key.ensures ∙ sym (append-nil (inner_pad c.args.secret.now)) in
    (subst (Holds c.update.new.self) inner (c.update.ensures [] c.new-inner.ensures), c.with_mask-2.ensures ∙ ap (masked 0x5c) c.key_block-key.ensures)
