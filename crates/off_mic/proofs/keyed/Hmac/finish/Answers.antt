use Rattle.std.proofs.Common.{ℕ, List, [], ◌++◌, ap, ◌∙◌}
use Rattle.md5.specs.Md5.{md5}
use Rattle.off_mic.specs.Hmac.{HoldsKeyed, hmac, inner_pad, outer_pad}
use Rattle.off_mic.proofs.keyed.Hmac.finish.Goals as goal

pub returns : goal.returns
unfolding HoldsKeyed hmac
returns c = λ key message holds.
    c.finalize-2.ensures _ (c.update-2.ensures _ (c.update.ensures [] c.new-outer.ensures))
    ∙ ap (λ (x : List ℕ). md5 (x ++ c.finalize.result)) holds.1 ∙ ap (λ (x : List ℕ). md5 (outer_pad key ++ x)) (c.finalize.ensures (inner_pad key ++ message) holds.0)
