use Rattle.std.proofs.Common.{true, ap, length, sym, ◌∙◌}
use Rattle.off_base.specs.Parts.{parts_in}
use Rattle.off_base.proofs.PartLemmas.{bytes_of-joined}
use Rattle.off_base.proofs.joined.len_and_other.Goals as goal

pub returns-clause-len : goal.returns-clause-len
returns-clause-len c = c.counted_and_other.ensures.len ∙ ap length (sym (bytes_of-joined c.args.counted (parts_in true c.args.options.now)))
