use Rattle.std.proofs.Common.{◌≡◌, ℕ, List, ◌++◌, take}
use Rattle.off_base.specs.Tree.{Tree, spelling}
use Rattle.off_mic.specs.Hmac.{HoldsKeyed}
use Rattle.off_mic.specs.Mic.{text_of_codes}
use Rattle.off_mic.proofs.digests.take_codes.Given as goal

abbrev pub invariant-loop-code : goal.invariant-loop-code
invariant-loop-code l =
    (key message : List ℕ) (front back : List Tree) → l.first ≡ spelling front → l.rest ≡ spelling back → HoldsKeyed l.fn.hmac key message
    → HoldsKeyed l.hmac key (message ++ text_of_codes (take l.code-index l.codes) (front ++ back))
