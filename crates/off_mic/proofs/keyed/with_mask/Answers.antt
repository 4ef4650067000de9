use Rattle.std.proofs.Common.{ℕ, get_or, bit_xor, arith, ◌∙◌, length-set}
use Rattle.std.proofs.lemmas.List.{get_or_default}
use Rattle.std.proofs.lemmas.List.Edits.{map_over_more}
use Rattle.off_mic.proofs.keyed.with_mask.Goals as goal

pub loop-byte-preserved : goal.loop-byte-preserved
loop-byte-preserved c =
    let items = c.loop-byte.byte-items in (
      map_over_more (λ (b : ℕ). bit_xor b c.args.mask) c.args.block c.loop-byte.byte-items c.loop-byte.byte-index (get_or c.loop-byte.byte-items c.loop-byte.byte-index 0)
          (omega (arith, c.loop-byte.invariant.2)) c.loop-byte.invariant.0
          (get_or_default c.loop-byte.byte-items c.loop-byte.byte-index 0 (get_or c.loop-byte.byte-items c.loop-byte.byte-index 0) (omega (arith, c.loop-byte.invariant.1))),
      length-set c.loop-byte.byte-items c.loop-byte.byte-index _ ∙ c.loop-byte.invariant.1,
      c.loop-byte.invariant.2,
    )
