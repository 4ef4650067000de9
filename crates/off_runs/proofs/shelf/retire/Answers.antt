use Rattle.std.proofs.Common.{◌++◌, List, drop, get_or, sym, ap, ◌∙◌}
use Rattle.std.proofs.lemmas.List.{append-nil}
use Rattle.std.specs.List.{remove}
use Rattle.off_runs.specs.Held.{PoolHeld}
use Rattle.off_runs.specs.Shelf.{is_first}
use Rattle.off_runs.proofs.ListedLemmas.{left_at, gone_at, left_none, gone_none}
use Rattle.off_runs.proofs.shelf.retire.Goals as goal

pub returns-then-is_at-clause-left : goal.returns-then-is_at-clause-left
returns-then-is_at-clause-left c =
    let at = c.place_of-place.ensures.place in
    c.remove-gone.ensures.items
    ∙ ap (remove c.args.pools.now.items) at
    ∙ left_at c.args.number c.args.pools.now.items (ap (λ i. is_first c.args.number (drop i c.args.pools.now.items)) (sym at) ∙ sym c.is_at.ensures ∙ c.if-is_at.true)

pub returns-then-is_at-clause-gone : goal.returns-then-is_at-clause-gone
returns-then-is_at-clause-gone c =
    let at = c.place_of-place.ensures.place in
    c.push_aside.ensures.items
    ∙ ap (λ (xs : List PoolHeld). c.args.aside.now.items ++ xs)
    (gone_at c.args.number c.args.pools.now.items c.remove-gone.result (ap (λ i. is_first c.args.number (drop i c.args.pools.now.items)) (sym at) ∙ sym c.is_at.ensures ∙ c.if-is_at.true)
    (c.remove-gone.ensures.value ∙ ap (λ i. get_or c.args.pools.now.items i c.remove-gone.result) at))

pub returns-else-is_at-clause-left : goal.returns-else-is_at-clause-left
returns-else-is_at-clause-left c =
    let at = c.place_of-place.ensures.place in
    left_none c.args.number c.args.pools.now.items (ap (λ i. is_first c.args.number (drop i c.args.pools.now.items)) (sym at) ∙ sym c.is_at.ensures ∙ c.if-is_at.false)

pub returns-else-is_at-clause-gone : goal.returns-else-is_at-clause-gone
returns-else-is_at-clause-gone c =
    let at = c.place_of-place.ensures.place in
    sym (append-nil c.args.aside.now.items)
    ∙ ap (λ (xs : List PoolHeld). c.args.aside.now.items ++ xs)
    (gone_none c.args.number c.args.pools.now.items (ap (λ i. is_first c.args.number (drop i c.args.pools.now.items)) (sym at) ∙ sym c.is_at.ensures ∙ c.if-is_at.false))
