use Rattle.std.proofs.Common.{◌≡◌, ◌++◌, take, drop, length}
use Rattle.off_mic.specs.Hmac.{masked}
use Rattle.off_mic.proofs.keyed.with_mask.Given as goal

abbrev pub invariant-loop-byte : goal.invariant-loop-byte
invariant-loop-byte l =
    (l.byte-items ≡ masked l.mask (take l.byte-index l.fn.block) ++ drop l.byte-index l.fn.block) × (length l.byte-items ≡ 64) × (length l.fn.block ≡ 64)
