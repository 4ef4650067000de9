use Rattle.std.proofs.Common.{◌-◌, ◌∷◌, [], sym, ap, ◌∙◌, arith}
use Rattle.std.proofs.lemmas.Fmt.{decimal_digit}
use Rattle.off_documents.proofs.numbers.digit_of.Goals as goal

pub returns-then-is_ascii_digit-clause-is : goal.returns-then-is_ascii_digit-clause-is
returns-then-is_ascii_digit-clause-is c =
    let is = c.if-is_ascii_digit.ensures.cases in
    sym (decimal_digit (c.args.byte - 48) (omega (arith, is)) ∙ ap (λ x. x ∷ []) (omega (arith, is)))
