use Rattle.std.proofs.Common.{ap, ◌∙◌, option_map}
use Rattle.serde_json.specs.Find.{as_str}
use Rattle.off_documents.specs.Documents.{data_of}
use Rattle.off_documents.proofs.DocumentLemmas.{text_found}
use Rattle.off_documents.proofs.parts.Part.as_str.Goals as goal

pub returns : goal.returns
returns c = text_found c.self.inside.element (option_map (λ s. s.now) c.as_str.result) c.self.invariant c.as_str.ensures ∙ ap (λ ts. as_str (data_of ts)) c.self.view_is
