use Rattle.std.proofs.Common.{ap, ◌∙◌, Some, None}
use Rattle.serde_json.specs.Find.{as_number}
use Rattle.off_documents.specs.Documents.{data_of}
use Rattle.off_documents.proofs.DocumentLemmas.{number_found}
use Rattle.off_documents.proofs.parts.Part.number.Goals as goal

pub returns-in-Some : goal.returns-in-Some
returns-in-Some c =
    c.read.ensures ∙ number_found c.self.inside.element (Some c.in-Some.text.now) c.self.invariant c.in-Some.ensures ∙ ap (λ ts. as_number (data_of ts)) c.self.view_is

pub returns-in-None : goal.returns-in-None
returns-in-None c = number_found c.self.inside.element None c.self.invariant c.in-None.ensures ∙ ap (λ ts. as_number (data_of ts)) c.self.view_is
