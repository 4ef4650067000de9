use Rattle.off_runs.proofs.ShelfLemmas.{shelved_left, shelved_taken}
use Rattle.off_runs.proofs.shelf.take_pool.Goals as goal

pub returns-in-None-clause-shelved : goal.returns-in-None-clause-shelved
returns-in-None-clause-shelved c = λ g by s.
    rw (c.in-None.is, c.retire.ensures.left, c.retire.ensures.gone) (shelved_left g by c.args.pools.now.items c.args.aside.now.items s c.args.number)

pub returns-clause-shelved : goal.returns-clause-shelved
returns-clause-shelved c = λ g by s.
    let one = rw c.retire.ensures.left at c.gather.ensures in
    let two = rw c.retire.ensures.gone at c.gather-2.ensures in
    let hub = rw c.retire.ensures.gone at c.hub_numbered.ensures in
    rw (c.in-Some.is, c.put_in.ensures.items, c.retire.ensures.left, c.retire.ensures.gone)
    (shelved_taken g by c.args.number c.in-Some.given c.hub_numbered.result c.args.pools.now.items c.args.aside.now.items c.begin.new.self c.gather.new.fresh c.gather-2.new.fresh s hub c.begin.ensures one two)
