use Rattle.std.proofs.Common.{arith}
use Rattle.off_base.proofs.PartLemmas.{stands_on, none_left}
use Rattle.off_base.proofs.cursors.holder.Goals as goal

pub options-preserved : goal.options-preserved
options-preserved c = (
  rw c.len_if-here.ensures (stands_on c.args.options.now c.args.wanted c.options.at c.options.before c.in-Found.code c.in-Found.place c.in-Found.len c.options.invariant.0 c.in-Found.ensures),
  omega arith,
)

pub unreachable-requires : goal.unreachable-requires
unreachable-requires c =
    none_left c.args.options.now c.args.wanted c.options.at c.options.before c.args.i c.options.invariant.0 c.in-End.ensures c.options.invariant.1 c.requires.within
