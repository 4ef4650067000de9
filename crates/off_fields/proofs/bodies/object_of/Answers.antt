use Rattle.std.proofs.Common.{sym, ap, ◌∙◌, is_some, Err}
use Rattle.serde_json.specs.Find.{as_object}
use Rattle.off_documents.specs.Documents.{data_of}
use Rattle.off_clerk_rules.proofs.BodyLemmas.{an_object, no_json}
use Rattle.off_fields.proofs.bodies.object_of.Goals as goal

pub returns-then-is_object : goal.returns-then-is_object
returns-then-is_object c =
    let root = ap (λ ts. is_some (as_object (data_of ts))) c.root.ensures in
    an_object c.args.body.now (data_of c.in-Ok.document) c.in-Ok.ensures.ok.0 c.in-Ok.ensures.ok.1 (sym root ∙ sym c.is_object.ensures ∙ c.if-is_object.true)

pub returns-in-Err-NotJson : goal.returns-in-Err-NotJson
returns-in-Err-NotJson c = no_json c.args.body.now (c.read.ensures.not_json (c.in-Err-NotJson.is ∙ ap Err c.in-Err-NotJson.field-0-is))
