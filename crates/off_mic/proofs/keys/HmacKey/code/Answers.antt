use Rattle.std.proofs.Common.{ℕ, List, ◌++◌, sym, subst, ap, ◌∙◌}
use Rattle.md5.specs.Md5.{md5, Holds}
use Rattle.md5.specs.declared.Md5.{Md5}
use Rattle.off_mic.specs.Hmac.{hmac, inner_pad, outer_pad}
use Rattle.off_mic.proofs.keys.HmacKey.code.Goals as goal

pub returns : goal.returns
unfolding hmac
returns c =
    let secret = c.self.inside.secret in
    let inner = subst (λ (h : Md5). Holds h (inner_pad secret)) (sym c.copied-inner.ensures) c.self.invariant.0 in
    let outer = subst (λ (h : Md5). Holds h (outer_pad secret)) (sym c.copied-outer.ensures) c.self.invariant.1 in
    c.finalize-2.ensures _ (c.update-2.ensures _ outer)
    ∙ ap (λ (x : List ℕ). md5 (outer_pad secret ++ x)) (c.finalize.ensures _ (c.update.ensures _ inner))
    ∙ ap (λ (k : List ℕ). hmac k c.args.message.now) c.self.view_is
