use Rattle.std.proofs.Common.{rules}
use Rattle.off_tftp.specs.Agreements.{none_remembered}
use Rattle.off_tftp.proofs.agreements.Agreements.new.Goals as goal

pub returns : goal.returns
unfolding none_remembered
returns c = c.in-Ok.ensures.items_if_clones_equal (λ x is. search rules)
