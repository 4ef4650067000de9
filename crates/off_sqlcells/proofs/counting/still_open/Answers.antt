use Rattle.std.proofs.Common.{sym, subst}
use Rattle.off_sqlcells.specs.declared.refusals.Refused.TheVariants as refused
use Rattle.off_sqlcells.specs.Refusals.{IsTold}
use Rattle.off_sqlcells.proofs.counting.still_open.Goals as goal

pub returns-clause-told : goal.returns-clause-told
returns-clause-told g c = λ steady.
    subst (IsTold g.S.Store refused.Memory c.args.conn.now c.is_open.new.conn) (sym c.count_fault.ensures.failed) (c.is_open.ensures.shut steady c.if-is_open.false)
