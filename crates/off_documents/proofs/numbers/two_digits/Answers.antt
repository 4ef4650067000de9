use Rattle.std.proofs.Common.{◌≡◌, ◌<◌, ◌≤◌, ◌+◌, ◌*◌, ◌/◌, ◌%◌, ◌^◌, ◌∷◌, ◌++◌, [], ℕ, decimal, sym, ap, ◌∙◌, arith}
use Rattle.std.proofs.lemmas.Fmt.{decimal_digit, decimal_step}
use Rattle.off_documents.proofs.numbers.two_digits.Goals as goal

pub returns-clause-is : goal.returns-clause-is
returns-clause-is c =
    let tens = c.in_ok-tens.tens in
    let ones = c.in_ok-ones.ones in
    let n = 10 * tens + ones in
    let large : 10 ≤ n = omega (arith, c.if-tens-eq0.false) in
    let small : n < 2 ^ 64 = omega (arith, c.in_ok-tens.ensures.below, c.in_ok-ones.ensures.below) in
    let front : n / 10 ≡ tens = omega (arith, c.in_ok-ones.ensures.below) in
    let last : n % 10 ≡ ones = omega (arith, c.in_ok-ones.ensures.below) in
    let first : c.args.first ∷ [] ≡ decimal tens = c.in_ok-tens.ensures.is in
    let second : c.args.second ∷ [] ≡ (48 + n % 10) ∷ [] =
    c.in_ok-ones.ensures.is ∙ decimal_digit ones c.in_ok-ones.ensures.below ∙ ap (λ (x : ℕ). (48 + x) ∷ []) (sym last) in
    (λ i. first i ++ second i) ∙ sym (decimal_step n large small ∙ ap (λ (m : ℕ). decimal m ++ ((48 + n % 10) ∷ [])) front)
