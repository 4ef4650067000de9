use Rattle.std.proofs.Common.{true, ap, ◌∙◌, List, ℕ}
use Rattle.off_base.specs.Parts.{bytes_of, parts_in}
use Rattle.off_docsis.specs.Spans.{spans_in}
use Rattle.off_base.proofs.PartLemmas.{is_reading}
use Rattle.off_docsis.proofs.SpanLemmas.{device_shows, of_device}
use Rattle.off_docsis.proofs.vendor.device.Goals as goal

pub returns-in_err-found-clause-reading : goal.returns-in_err-found-clause-reading
returns-in_err-found-clause-reading c = is_reading true (bytes_of c.args.option43.now)

pub returns-clause-reading : goal.returns-clause-reading
returns-clause-reading c = is_reading true (bytes_of c.args.option43.now)

pub returns-clause-spans : goal.returns-clause-spans
returns-clause-spans c =
    device_shows _ _ c.in_ok-found.found (is_reading true (bytes_of c.args.option43.now))
    (c.in_ok-found.ensures ∙ ap (λ (value : List ℕ). spans_in of_device (parts_in true value)) c.bytes.ensures)
