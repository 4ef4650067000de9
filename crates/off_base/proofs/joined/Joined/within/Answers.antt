use Rattle.std.proofs.Common.{true, ap, length, sym, ◌∙◌}
use Rattle.off_base.specs.Parts.{parts_in}
use Rattle.off_base.proofs.PartLemmas.{bytes_of-joined, is_some-joined}
use Rattle.off_base.proofs.joined.Joined.within.Goals as goal

pub invariant_of-result : goal.invariant_of-result
invariant_of-result c =
    let read = parts_in true c.args.options.now in (
      c.requires.read,
      c.requires.extent.there ∙ sym (is_some-joined c.args.code read),
      c.requires.extent.size ∙ ap length (sym (bytes_of-joined c.args.code read)),
      c.requires.extent.front,
    )
