use Rattle.std.proofs.Common.{true, ap, length, sym, ◌∙◌}
use Rattle.off_base.specs.Parts.{bytes_of, parts_in}
use Rattle.off_base.proofs.PartLemmas.{bytes_of-joined}
use Rattle.off_base.proofs.joined.Joined.bytes.Goals as goal

pub over-requires-clause-counted : goal.over-requires-clause-counted
over-requires-clause-counted c =
    c.len.ensures ∙ ap length (sym (ap bytes_of c.self.view_is) ∙ bytes_of-joined c.self.inside.code (parts_in true c.self.inside.options.now))

pub returns : goal.returns
returns c =
    c.over.ensures ∙ sym (bytes_of-joined c.self.inside.code (parts_in true c.self.inside.options.now)) ∙ ap bytes_of c.self.view_is
