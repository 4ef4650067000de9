use Rattle.std.proofs.Common.{◌<◌, ◌∙◌, ap, arith, length, List, length-set}
use Rattle.off_keepmem.specs.Shelves.{Shelf, entries_on}
use Rattle.off_keepmem.proofs.ShelfLemmas.{own_rises, shelf_parts, put_is, cut_same, stocked_put, stocked_cut}
use Rattle.off_keepmem.proofs.table.put_on.Goals as goal

pub put-requires-2-clause-rises : goal.put-requires-2-clause-rises
put-requires-2-clause-rises c =
    own_rises c.args.shelves.now.items c.spot_of-spot.result.shelf c.index_mut.result.now (omega (arith, c.spot_of-spot.ensures.within, c.args.shelves.now.ok.0)) c.index_mut.ensures.value c.requires.rises

pub put-requires-2-clause-parts : goal.put-requires-2-clause-parts
put-requires-2-clause-parts c =
    shelf_parts c.args.key c.args.shelves.now.items c.spot_of-spot.result.shelf c.index_mut.result.now c.spot_of-spot.result.place
    (omega (arith, c.spot_of-spot.ensures.within, c.args.shelves.now.ok.0)) c.index_mut.ensures.value c.spot_of-spot.ensures.parts

pub returns-then-len-eq-ROOM-clause-entries : goal.returns-then-len-eq-ROOM-clause-entries
returns-then-len-eq-ROOM-clause-entries c =
    let within : c.spot_of-spot.result.shelf < length c.args.shelves.now.items = omega (arith, c.spot_of-spot.ensures.within, c.args.shelves.now.ok.0) in
    ap (λ (v : List Shelf). entries_on v) c.split.ensures.shelves
    ∙ cut_same _ c.spot_of-spot.result.shelf c.cut_for.result (omega (arith, within, length-set c.args.shelves.now.items c.spot_of-spot.result.shelf c.put-2.new.self))
    ∙ put_is c.args.key c.args.row c.args.shelves.now.items c.spot_of-spot.result.shelf c.index_mut.result.now c.put-2.new.self within c.index_mut.ensures.value c.spot_of-spot.ensures.front c.spot_of-spot.ensures.behind c.put-2.ensures.entries

pub returns-else-len-eq-ROOM-clause-entries : goal.returns-else-len-eq-ROOM-clause-entries
returns-else-len-eq-ROOM-clause-entries c =
    put_is c.args.key c.args.row c.args.shelves.now.items c.spot_of-spot.result.shelf c.index_mut.result.now c.put-2.new.self (omega (arith, c.spot_of-spot.ensures.within, c.args.shelves.now.ok.0)) c.index_mut.ensures.value
    c.spot_of-spot.ensures.front c.spot_of-spot.ensures.behind c.put-2.ensures.entries

pub returns-then-len-eq-ROOM-clause-held : goal.returns-then-len-eq-ROOM-clause-held
returns-then-len-eq-ROOM-clause-held c =
    let within : c.spot_of-spot.result.shelf < length c.args.shelves.now.items = omega (arith, c.spot_of-spot.ensures.within, c.args.shelves.now.ok.0) in
    record {
      stocked = stocked_cut c.args.shelves.now.items c.split.new.shelves.items c.spot_of-spot.result.shelf c.cut_for.result c.put-2.new.self c.index.result.now c.requires.held.stocked within c.split.ensures.shelves c.index.ensures
          (omega (arith, c.len.ensures.count, c.if-len-eq-ROOM.true)) c.cut_for.ensures.some c.cut_for.ensures.fewer;
      empty = c.split.ensures.empty;
      room = omega (arith, c.split.ensures.len, c.split.ensures.spent, c.split.ensures.room, c.requires.held.room, c.split.new.shelves.ok.0, c.split.new.stock.ok.0, c.args.shelves.now.ok.0, c.args.stock.now.ok.0);
    }

pub returns-else-len-eq-ROOM-clause-held : goal.returns-else-len-eq-ROOM-clause-held
returns-else-len-eq-ROOM-clause-held c =
    let within : c.spot_of-spot.result.shelf < length c.args.shelves.now.items = omega (arith, c.spot_of-spot.ensures.within, c.args.shelves.now.ok.0) in
    record {
      stocked = stocked_put c.args.key c.args.row c.args.shelves.now.items c.spot_of-spot.result.shelf c.index_mut.result.now c.put-2.new.self c.index.result.now c.requires.held.stocked within c.put-2.ensures.entries c.index.ensures
          (omega (arith, c.len.ensures.count, c.len.ensures.few, c.if-len-eq-ROOM.false));
      empty = c.requires.held.empty;
      room = omega (arith, c.requires.held.room, length-set c.args.shelves.now.items c.spot_of-spot.result.shelf c.put-2.new.self);
    }
