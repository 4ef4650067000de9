use Rattle.std.proofs.Common.{◌≡◌, ◌<◌, ◌^◌, ℕ, Some, decimal, sym, ap, ◌∙◌, arith}
use Rattle.serde_json.specs.Read.{number_of}
use Rattle.serde_json.specs.Data.{unsigned}
use Rattle.serde_json.proofs.Numbers.{number_of-decimal}
use Rattle.off_documents.proofs.numbers.Number.read.Goals as goal

pub returns-in-Some : goal.returns-in-Some
returns-in-Some c =
    let n = c.in-Some.number in
    let small : n < 2 ^ 64 = omega (arith, c.in-Some.ensures.below) in
    let text : c.args.text.now ≡ decimal n = sym c.as_bytes-bytes.ensures.value ∙ c.in-Some.ensures.is in
    ap (λ (m : ℕ). Some (unsigned m)) c.from.ensures ∙ sym (ap number_of text ∙ number_of-decimal n small)
