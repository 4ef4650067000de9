use Rattle.std.proofs.Common.{◌≡◌, true, false, List, is_some, Some, Err, IsTrue, sym, ap, subst, ◌∙◌}
use Rattle.json.specs.Token.{Token}
use Rattle.json.specs.Lex.{tokens}
use Rattle.off_documents.specs.Documents.{value_at, data_of, level_behind}
use Rattle.off_documents.proofs.LevelLemmas.{convertible, unconvertible, no_document}
use Rattle.off_documents.proofs.documents.Document.of_text.Goals as goal

pub invariant_of-result : goal.invariant_of-result
invariant_of-result c =
    let same : c.in-Ok.tape ≡ tokens c.args.text.now = c.in-Ok.ensures.ok.0 in
    let tested : is_some (level_behind 0 (tokens c.args.text.now)) ≡ true =
    ap (λ (ts : List Token). is_some (level_behind 0 ts)) (sym (c.nodes.ensures.tokens ∙ same)) ∙ sym c.is_convertible.ensures ∙ c.if-is_convertible.true in
    subst (λ (ts : List Token). IsTrue (is_some (value_at ts))) (sym same) (convertible c.args.text.now c.in-Ok.ensures.ok.1 tested).0

pub returns-then-is_convertible-clause-ok : goal.returns-then-is_convertible-clause-ok
returns-then-is_convertible-clause-ok c =
    let same : c.in-Ok.tape ≡ tokens c.args.text.now = c.in-Ok.ensures.ok.0 in
    let tested : is_some (level_behind 0 (tokens c.args.text.now)) ≡ true =
    ap (λ (ts : List Token). is_some (level_behind 0 ts)) (sym (c.nodes.ensures.tokens ∙ same)) ∙ sym c.is_convertible.ensures ∙ c.if-is_convertible.true in
    (convertible c.args.text.now c.in-Ok.ensures.ok.1 tested).1 ∙ ap (λ (ts : List Token). Some (data_of ts)) (sym same)

pub returns-in-Ok-clause-not_json : goal.returns-in-Ok-clause-not_json
returns-in-Ok-clause-not_json c given =
    let same : c.in-Ok.tape ≡ tokens c.args.text.now = c.in-Ok.ensures.ok.0 in
    let tested : is_some (level_behind 0 (tokens c.args.text.now)) ≡ false =
    ap (λ (ts : List Token). is_some (level_behind 0 ts)) (sym (c.nodes.ensures.tokens ∙ same)) ∙ sym c.is_convertible.ensures ∙ c.if-is_convertible.false in
    unconvertible c.args.text.now c.in-Ok.ensures.ok.1 tested

pub returns-in-Err-Invalid-clause-not_json : goal.returns-in-Err-Invalid-clause-not_json
returns-in-Err-Invalid-clause-not_json c given = no_document c.args.text.now (c.parse.ensures.invalid (c.in-Err-Invalid.is ∙ ap Err c.in-Err-Invalid.field-0-is))
