use Rattle.std.proofs.Common.{ℕ, List, Option, sym, subst, arith}
use Rattle.std.proofs.lemmas.List.{take_all}
use Rattle.off_defs.specs.declared.tables.Pool.{Pool}
use Rattle.off_defs.specs.declared.writes.Write.{Write}
use Rattle.off_runs.specs.Leases.{pools_after}
use Rattle.off_runs.specs.Shelf.{Shelved}
use Rattle.off_runs.proofs.LeaseLemmas.{pools_more, puts_left}
use Rattle.off_runs.proofs.leases.take_pools.Goals as goal

pub take_write-requires-clause-room : goal.take_write-requires-clause-room
take_write-requires-clause-room c = omega (arith, c.requires.room, c.loop-place.invariant.room, c.loop-place.invariant.all)

pub take_write-requires-clause-room_aside : goal.take_write-requires-clause-room_aside
take_write-requires-clause-room_aside c = omega (arith, c.requires.room_aside, c.loop-place.invariant.room_aside, c.loop-place.invariant.all)

pub take_write-requires-clause-spare : goal.take_write-requires-clause-spare
take_write-requires-clause-spare c = omega (arith, c.loop-place.invariant.spare, puts_left c.args.writes.now c.loop-place.place c.get.result.now c.get.ensures)

pub loop-place-preserved : goal.loop-place-preserved
loop-place-preserved c =
    let was = c.loop-place.invariant in
    record {
      shelved = λ g by s.
          subst (λ (b : ℕ → Option Pool). Shelved g b c.take_write.new.pools.items c.take_write.new.aside.items)
          (sym (pools_more by c.args.writes.now c.loop-place.place c.get.result.now c.get.ensures)) (c.take_write.ensures.shelved g _ (was.shelved g by s));
      kept = omega (arith, was.kept, c.take_write.ensures.kept);
      room = omega (arith, was.room, c.take_write.ensures.room);
      room_aside = omega (arith, was.room_aside, c.take_write.ensures.room_aside);
      all = omega (arith, was.all, c.take_write.ensures.all);
      spare = omega (arith, was.spare, c.take_write.ensures.spent, puts_left c.args.writes.now c.loop-place.place c.get.result.now c.get.ensures);
    }

pub returns-clause-shelved : goal.returns-clause-shelved
returns-clause-shelved c = λ g by s.
    subst (λ (ws : List Write). Shelved g (pools_after by ws) c.loop-place.pools.items c.loop-place.aside.items)
    (take_all c.loop-place.place c.args.writes.now (omega arith)) (c.loop-place.invariant.shelved g by s)
