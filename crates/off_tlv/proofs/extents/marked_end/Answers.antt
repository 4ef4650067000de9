use Rattle.std.proofs.Common.{ℕ, ◌+◌, List, subst, arith}
use Rattle.std.proofs.lemmas.List.{take_rest}
use Rattle.off_tlv.specs.Front.{FirstOther}
use Rattle.off_tlv.proofs.FrontLemmas.{after_end}
use Rattle.off_tlv.proofs.extents.marked_end.Goals as goal

pub returns-in-Some : goal.returns-in-Some
returns-in-Some c =
    after_end c.args.file.now c.args.end c.in-Some.pads c.requires (omega arith) c.if-file-end-eq-PAD.false
    (subst (λ (x : List ℕ). FirstOther x c.in-Some.pads) (take_rest c.args.file.now (c.args.end + 1)) c.in-Some.ensures)
