use Rattle.off_cells.proofs.MemLemmas.{commit_told, commit_counted}
use Rattle.off_cells.proofs.mem_cells.MemCellsCells.commit.Goals as goal

pub returns-clause-told : goal.returns-clause-told
returns-clause-told c = commit_told _ _ _ _ c.do_all.ensures

pub returns-clause-counted : goal.returns-clause-counted
returns-clause-counted c = commit_counted _ _ _ _ c.do_all.ensures
