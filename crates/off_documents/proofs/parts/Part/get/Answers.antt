use Rattle.std.proofs.Common.{sym, ap, ◌∙◌, Some, None}
use Rattle.serde_json.specs.Find.{get}
use Rattle.off_documents.specs.Documents.{data_of}
use Rattle.off_documents.proofs.DocumentLemmas.{part_found}
use Rattle.off_documents.proofs.parts.Part.get.Goals as goal

pub invariant_of-result : goal.invariant_of-result
invariant_of-result c = (part_found c.self.inside.element c.args.name.now (Some c.in-Some.element) c.self.invariant c.in-Some.ensures).0

pub returns-in-Some : goal.returns-in-Some
returns-in-Some c =
    sym (part_found c.self.inside.element c.args.name.now (Some c.in-Some.element) c.self.invariant c.in-Some.ensures).1 ∙ ap (λ ts. get c.args.name.now (data_of ts)) c.self.view_is

pub returns-in-None : goal.returns-in-None
returns-in-None c = sym (part_found c.self.inside.element c.args.name.now None c.self.invariant c.in-None.ensures) ∙ ap (λ ts. get c.args.name.now (data_of ts)) c.self.view_is
