use Rattle.std.proofs.Common.{sym, subst}
use Rattle.off_keepmem.specs.Entries.{Parts}
use Rattle.off_keepmem.specs.Shelves.{Shelf}
use Rattle.off_keepmem.proofs.EntryLemmas.{parts_none}
use Rattle.off_keepmem.proofs.table.begin.Goals as goal

pub put-requires-clause-parts : goal.put-requires-clause-parts
put-requires-clause-parts c =
    subst (λ (v : Shelf). Parts c.args.key 0 v) (sym c.take_empty-fresh.ensures.shelf) (parts_none c.args.key)
