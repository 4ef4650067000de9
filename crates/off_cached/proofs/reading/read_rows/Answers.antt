use Rattle.std.proofs.Common.{None, Some, ap}
use Rattle.off_keepmem.specs.KeeperInMemory.{MemKeeperHeld}
use Rattle.off_readers.proofs.GatherLemmas.{next_is}
use Rattle.off_cached.proofs.ReadLemmas.{read_none, read_more, read_end}
use Rattle.off_cached.proofs.reading.read_rows.Goals as goal

pub walk-init : goal.walk-init
walk-init g c = record {
  read = read_none (g.K.Keeper.seen c.args.store.now) c.new-rows.result.tables (ap (λ (m : MemKeeperHeld). m.tables) c.new-rows.ensures.empty);
}

pub returns-in_default : goal.returns-in_default
returns-in_default g c =
    read_end c.walk.rows.tables c.walk.place c.walk.invariant.read
    (next_is c.walk.place c.in_ok-key.field-0 None c.in_ok-key.ensures.told c.in_default.is)

pub walk-preserved : goal.walk-preserved
walk-preserved g c = record {
  read =
      read_more c.walk.rows.tables c.put.new.rows.tables c.walk.place c.in-Some.key c.in-Some.row c.walk.invariant.read
      (next_is c.walk.place c.in_ok-key.field-0 (Some (c.in-Some.key, c.in-Some.row)) c.in_ok-key.ensures.told c.in-Some.is)
      c.in_ok-put.ensures;
}
