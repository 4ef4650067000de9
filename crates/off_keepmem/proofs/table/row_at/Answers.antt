use Rattle.std.proofs.Common.{◌∙◌, arith}
use Rattle.off_keepmem.proofs.ShelfLemmas.{own_rises, found_on, more_if}
use Rattle.off_keepmem.proofs.table.row_at.Goals as goal

pub get-requires : goal.get-requires
get-requires c =
    own_rises c.args.shelves.now.items c.args.spot.shelf c.index.result.now (omega (arith, c.len.ensures, c.args.shelves.now.ok.0, c.if-spot-len.true)) c.index.ensures c.requires.rises

pub returns-then-spot-len : goal.returns-then-spot-len
returns-then-spot-len c =
    more_if _ _ c.get.result
    (λ there row own.
    found_on c.args.key.now c.args.shelves.now.items c.args.spot.shelf c.index.result.now c.args.spot.place c.requires.rises c.requires.stocked
    (omega (arith, c.len.ensures, c.args.shelves.now.ok.0, c.if-spot-len.true)) c.index.ensures (c.get.ensures.starts there) (c.get.ensures.place there)
    ∙ own)
    c.get.ensures.row
