use Rattle.std.proofs.Common.{sym, ap, ◌∙◌}
use Rattle.std.specs.List.{insert}
use Rattle.off_runs.proofs.ListedLemmas.{place, placed_at}
use Rattle.off_runs.proofs.shelf.put_in.Goals as goal

pub returns-clause-items : goal.returns-clause-items
returns-clause-items c =
    c.insert_at.ensures.items
    ∙ ap (λ i. insert c.args.pools.now.items i c.args.fresh) (c.place_of-place.ensures.place ∙ ap (λ n. place n c.args.pools.now.items) (sym c.requires.number))
    ∙ placed_at c.args.fresh c.args.pools.now.items
