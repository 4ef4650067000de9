use Rattle.std.proofs.Common.{◌≡◌, map, drop, None}
use Rattle.httparse.specs.Spans.{header_bytes}
use Rattle.off_http.proofs.LengthLemmas.{length_after}
use Rattle.off_http.proofs.lengths.content_length.Given as goal

-- what is declared so far and the fields that are left tell what all of them do
abbrev pub invariant-loop-field : goal.invariant-loop-field
invariant-loop-field l =
    length_after l.declared (map (header_bytes l.text) (drop l.field-index l.fields))
    ≡ length_after None (map (header_bytes l.text) l.fields)
