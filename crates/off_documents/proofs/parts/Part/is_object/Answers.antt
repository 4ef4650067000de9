use Rattle.std.proofs.Common.{ap, ◌∙◌, is_some}
use Rattle.serde_json.specs.Find.{as_object}
use Rattle.off_documents.specs.Documents.{data_of}
use Rattle.off_documents.proofs.DocumentLemmas.{object_found}
use Rattle.off_documents.proofs.parts.Part.is_object.Goals as goal

pub returns : goal.returns
returns c = c.is_some.ensures ∙ object_found c.self.inside.element c.members.result c.self.invariant c.members.ensures ∙ ap (λ ts. is_some (as_object (data_of ts))) c.self.view_is
