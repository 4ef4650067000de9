use Rattle.std.proofs.Common.{ap, ◌∙◌}
use Rattle.serde_json.specs.Find.{as_bool}
use Rattle.off_documents.specs.Documents.{data_of}
use Rattle.off_documents.proofs.DocumentLemmas.{bool_found}
use Rattle.off_documents.proofs.parts.Part.as_bool.Goals as goal

pub returns : goal.returns
returns c = bool_found c.self.inside.element c.as_bool.result c.self.invariant c.as_bool.ensures ∙ ap (λ ts. as_bool (data_of ts)) c.self.view_is
