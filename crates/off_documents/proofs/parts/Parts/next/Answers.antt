use Rattle.std.proofs.Common.{sym, ap, ◌∙◌, Some, None}
use Rattle.off_documents.specs.Documents.{elements_of}
use Rattle.off_documents.proofs.DocumentLemmas.{next_found, next_kept}
use Rattle.off_documents.proofs.parts.Parts.next.Goals as goal

pub invariant_of-self : goal.invariant_of-self
invariant_of-self c = next_kept c.self.inside.items c.next.result c.next.new.self c.self.invariant c.next.ensures.value c.next.ensures.stays

pub returns-in_default-clause-value : goal.returns-in_default-clause-value
returns-in_default-clause-value c = ap elements_of (sym c.self.view_is) ∙ next_found c.self.inside.items None c.next.new.self c.self.invariant c.in_default.ensures.value

pub invariant_of-result : goal.invariant_of-result
invariant_of-result c = (next_found c.self.inside.items (Some c.in-Some.element) c.next.new.self c.self.invariant c.in-Some.ensures.value).0

pub invariant_of-self-2 : goal.invariant_of-self-2
invariant_of-self-2 c = (next_found c.self.inside.items (Some c.in-Some.element) c.next.new.self c.self.invariant c.in-Some.ensures.value).1

pub returns-clause-value : goal.returns-clause-value
returns-clause-value c =
    ap elements_of (sym c.self.view_is) ∙ (next_found c.self.inside.items (Some c.in-Some.element) c.next.new.self c.self.invariant c.in-Some.ensures.value).2
