use Rattle.std.proofs.Common.{length, ◌-◌, ◌≡◌, ◌≤◌}
use Rattle.off_base.specs.Parts.{parts_in}
use Rattle.off_base.specs.Walk.{left}
use Rattle.off_docsis.specs.Spans.{spans_in}
use Rattle.off_docsis.proofs.SpanLemmas.{spans_before, IsPlain}
use Rattle.off_docsis.proofs.spans.first_parts.Given as goal

abbrev pub invariant-parts : goal.invariant-parts
invariant-parts l =
    (l.value ≡ l.initial.value) × (l.at ≤ length l.initial.value) × IsPlain l.spans.first × IsPlain l.spans.second × IsPlain l.spans.third
    × (spans_before l.spans (spans_in l.wanted (left l.marked l.at l.initial.value)) ≡ spans_in l.wanted (parts_in l.marked l.initial.value))

abbrev pub decreases-parts : goal.decreases-parts
decreases-parts l = length l.initial.value - l.at
