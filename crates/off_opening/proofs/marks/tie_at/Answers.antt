use Rattle.std.proofs.Common.{rules}
use Rattle.std.proofs.lemmas.List.Sorted.{answers_always}
use Rattle.off_defs.proofs.KeyLemmas.{derived_is}
use Rattle.off_opening.proofs.MarkLemmas.{found_by, none_by}
use Rattle.off_opening.proofs.marks.tie_at.Goals as goal

pub returns-in-Ok : goal.returns-in-Ok
returns-in-Ok c = λ t are.
    found_by derived_is t c.args.marks.now c.args.key c.in-Ok.place _ are c.in-Ok.ensures.bound
    (c.in-Ok.ensures.position (λ mark. mark.key) (answers_always _ _ _ (λ f a r g called. search rules)) _)

pub returns-in-Err : goal.returns-in-Err
returns-in-Err c = λ t are.
    none_by derived_is t c.args.marks.now c.args.key c.in-Err._place are
    (c.in-Err.ensures.position (λ mark. mark.key) (answers_always _ _ _ (λ f a r g called. search rules)))
