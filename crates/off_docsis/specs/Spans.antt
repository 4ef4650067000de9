-- What one walk over the parts of an option's value finds: of three codes the first part each.
use Rattle.std.specs.Prelude.{ℕ, ◌==◌, Bool, not, ◌&&◌, true, List, Result, Ok, Err, if◌then◌else◌}
use Rattle.off_base.specs.Parts.{Part}
use Rattle.off_docsis.specs.Cable.{span_of}
use Rattle.off_docsis.specs.declared.spans.Codes.{Codes}
use Rattle.off_docsis.specs.declared.spans.PartCut.{PartCut}
use Rattle.off_docsis.specs.declared.spans.Span.{Span}
use Rattle.off_docsis.specs.declared.spans.Spans.{Spans}

-- where the values of the first parts with these codes stand
abbrev pub spans_of : Codes → List Part → Spans
spans_of wanted parts = record {
  first = span_of wanted.first parts;
  second = span_of wanted.second parts;
  third = span_of wanted.third parts;
}

-- the same of a reading, or the place of the part that passes the end
abbrev pub spans_in : Codes → Result (List Part) ℕ → Result Spans PartCut
spans_in wanted (Ok parts) = Ok (spans_of wanted parts)
spans_in wanted (Err place) = Err (record { place = place })

-- the span that was found, or else this one where it is wanted
abbrev pub span_with : Span → Bool → ℕ → ℕ → Span
span_with span wanted at len =
    if (not span.there && wanted) then record { there = true; at = at; len = len } else span

-- the same of three, for a part of which the value stands at a place
abbrev pub spans_with : Spans → Codes → ℕ → ℕ → ℕ → Spans
spans_with spans wanted code at len = record {
  first = span_with spans.first (code == wanted.first) at len;
  second = span_with spans.second (code == wanted.second) at len;
  third = span_with spans.third (code == wanted.third) at len;
}
