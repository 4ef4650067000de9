use Rattle.std.proofs.Common.{sym, ap, ◌∙◌, Some, None}
use Rattle.serde_json.specs.Find.{as_array}
use Rattle.off_documents.specs.Documents.{data_of}
use Rattle.off_documents.proofs.DocumentLemmas.{elements_found}
use Rattle.off_documents.proofs.parts.Part.elements.Goals as goal

pub invariant_of-result : goal.invariant_of-result
invariant_of-result c = (elements_found c.self.inside.element (Some c.in-Some.items) c.self.invariant c.in-Some.ensures).0

pub returns-in-Some : goal.returns-in-Some
returns-in-Some c = sym (elements_found c.self.inside.element (Some c.in-Some.items) c.self.invariant c.in-Some.ensures).1 ∙ ap (λ ts. as_array (data_of ts)) c.self.view_is

pub returns-in-None : goal.returns-in-None
returns-in-None c = sym (elements_found c.self.inside.element None c.self.invariant c.in-None.ensures) ∙ ap (λ ts. as_array (data_of ts)) c.self.view_is
