use Rattle.std.proofs.Common.{◌≡◌, map, drop}
use Rattle.std.specs.List.{list_any}
use Rattle.httparse.specs.Spans.{header_bytes}
use Rattle.off_http.specs.Request.{is_named}
use Rattle.off_http.proofs.lengths.has_field.Given as goal

-- the fields that are left tell what all of them do
abbrev pub invariant-loop-field : goal.invariant-loop-field
invariant-loop-field l =
    list_any (is_named l.name) (map (header_bytes l.text) (drop l.field-index l.fields))
    ≡ list_any (is_named l.name) (map (header_bytes l.text) l.fields)
