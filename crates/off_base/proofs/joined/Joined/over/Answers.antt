use Rattle.off_base.proofs.PartLemmas.{at_front}
use Rattle.off_base.proofs.joined.Joined.over.Goals as goal

pub invariant_of-result : goal.invariant_of-result
invariant_of-result c = (
  c.requires,
  c.len_and_other-len.ensures.there,
  c.len_and_other-len.ensures.len,
  at_front c.args.options.now c.args.code c.requires,
)
