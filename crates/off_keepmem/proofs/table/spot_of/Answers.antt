use Rattle.std.proofs.Common.{◌<◌, length, arith}
use Rattle.off_keepmem.proofs.ShelfLemmas.{own_rises, own_parts, below_shelf, above_place, stocked_at}
use Rattle.off_keepmem.proofs.table.spot_of.Goals as goal

pub fits-requires-clause-rises : goal.fits-requires-clause-rises
fits-requires-clause-rises c =
    own_rises c.args.shelves.now.items c.args.near.shelf c.index.result.now (omega (arith, c.len.ensures, c.args.shelves.now.ok.0, c.if-near-len.true)) c.index.ensures c.requires.rises

pub returns-then-fits-clause-front : goal.returns-then-fits-clause-front
returns-then-fits-clause-front c =
    let within : c.args.near.shelf < length c.args.shelves.now.items = omega (arith, c.len.ensures, c.args.shelves.now.ok.0, c.if-near-len.true) in
    below_shelf c.args.key.now c.args.shelves.now.items c.args.near.shelf c.index.result.now c.requires.rises within c.index.ensures
    (stocked_at c.args.shelves.now.items c.args.near.shelf c.index.result.now c.requires.stocked within c.index.ensures).0 (c.fits.ensures.starts c.if-fits.true)

pub returns-then-fits-clause-behind : goal.returns-then-fits-clause-behind
returns-then-fits-clause-behind c =
    above_place c.args.key.now c.args.shelves.now.items c.args.near.shelf c.index.result.now c.args.near.place c.requires.rises
    (omega (arith, c.len.ensures, c.args.shelves.now.ok.0, c.if-near-len.true)) c.index.ensures (c.fits.ensures.place c.if-fits.true)

pub returns-then-fits-clause-parts : goal.returns-then-fits-clause-parts
returns-then-fits-clause-parts c =
    own_parts c.args.key.now c.args.shelves.now.items c.args.near.shelf c.index.result.now c.args.near.place
    (omega (arith, c.len.ensures, c.args.shelves.now.ok.0, c.if-near-len.true)) c.index.ensures
    (c.fits.ensures.place c.if-fits.true).parts

pub place_of-place-requires : goal.place_of-place-requires
place_of-place-requires c =
    own_rises c.args.shelves.now.items c.shelf_of-shelf.result c.index-2.result.now (omega (arith, c.shelf_of-shelf.ensures.within, c.args.shelves.now.ok.0)) c.index-2.ensures c.requires.rises
