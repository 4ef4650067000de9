use Rattle.off_keepmem.proofs.MemKeeperLemmas.{commit_told}
use Rattle.off_keepmem.proofs.mem_keeper.MemKeeperKeeper.commit.Goals as goal

pub returns-clause-told : goal.returns-clause-told
returns-clause-told c = commit_told _ _ _ _ c.do_all.ensures.did
