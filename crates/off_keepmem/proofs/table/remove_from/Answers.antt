use Rattle.std.proofs.Common.{◌≡◌, ◌∙◌, ap, arith, length, get_or-set_same}
use Rattle.off_keepmem.specs.Shelves.{Shelf}
use Rattle.off_keepmem.proofs.ShelfLemmas.{emptied_is, shelf_parts}
use Rattle.off_keepmem.proofs.table.remove_from.Goals as goal

pub returns-then-len-eq0-clause-entries : goal.returns-then-len-eq0-clause-entries
returns-then-len-eq0-clause-entries c =
    let same : c.index.result.now ≡ c.remove.new.self =
    c.index.ensures ∙ get_or-set_same c.args.shelves.now.items c.spot_of-spot.result.shelf c.remove.new.self c.index.result.now (omega (arith, c.spot_of-spot.ensures.within, c.args.shelves.now.ok.0)) in
    emptied_is c.args.key.now c.args.shelves.now.items c.remove-emptied.new.self.items c.spot_of-spot.result.shelf c.index_mut.result.now c.remove.new.self
    (omega (arith, c.spot_of-spot.ensures.within, c.args.shelves.now.ok.0)) c.index_mut.ensures.value c.spot_of-spot.ensures.front c.spot_of-spot.ensures.behind c.remove.ensures.entries
    (omega (arith, ap (λ (v : Shelf). length v) same, c.len.ensures.count, c.if-len-eq0.true)) c.remove-emptied.ensures.items

pub remove-requires-clause-parts : goal.remove-requires-clause-parts
remove-requires-clause-parts c =
    shelf_parts c.args.key.now c.args.shelves.now.items c.spot_of-spot.result.shelf c.index_mut.result.now c.spot_of-spot.result.place
    (omega (arith, c.spot_of-spot.ensures.within, c.args.shelves.now.ok.0)) c.index_mut.ensures.value c.spot_of-spot.ensures.parts
