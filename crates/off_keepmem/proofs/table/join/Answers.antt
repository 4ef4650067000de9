use Rattle.std.proofs.Common.{arith}
use Rattle.off_keepmem.proofs.ShelfLemmas.{join_is, joined}
use Rattle.off_keepmem.proofs.table.join.Goals as goal

pub returns-clause-entries : goal.returns-clause-entries
returns-clause-entries c =
    join_is c.args.shelves.now.items c.remove-next.new.self.items c.args.at c.index_mut.result.now c.remove-next.result c.join.new.self
    (omega (arith, c.len.ensures, c.args.shelves.now.ok.0, c.if-at-len.false)) c.remove-next.ensures.items c.index_mut.ensures.value c.remove-next.ensures.value c.join.ensures.all

pub returns-clause-stocked : goal.returns-clause-stocked
returns-clause-stocked c =
    joined c.args.shelves.now.items c.remove-next.new.self.items c.args.at c.index_mut.result.now c.remove-next.result c.join.new.self c.index.result.now c.index-2.result.now c.requires.stocked
    (omega (arith, c.len.ensures, c.args.shelves.now.ok.0, c.if-at-len.false)) c.remove-next.ensures.items c.index_mut.ensures.value c.remove-next.ensures.value c.join.ensures.all
    c.index.ensures c.index-2.ensures (omega (arith, c.len-2.ensures.count, c.len-3.ensures.count, c.if-len.false))
