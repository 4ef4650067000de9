use Rattle.std.proofs.Common.{◌∙◌}
use Rattle.off_behind.proofs.WriteLemmas.{room_more}
use Rattle.off_behind.proofs.writing.reserve_all.Goals as goal

pub loop-place-preserved : goal.loop-place-preserved
loop-place-preserved c =
    let said = c.in_ok-reserve_for.ensures in
    record {
      len = said.len;
      same = λ place. said.same place ∙ c.loop-place.invariant.same place;
      room = room_more c.len-more.result c.args.writes.now c.loop-place.place c.get.result.now c.loop-place.buckets.items c.reserve_for.new.buckets.items c.get.ensures c.loop-place.invariant.room said.same said.rooms said.room;
    }
