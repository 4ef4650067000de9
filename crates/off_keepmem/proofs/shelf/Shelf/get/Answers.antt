use Rattle.std.proofs.Common.{◌≡◌, ◌∙◌, true, sym, ap, subst, arith, List, Some}
use Rattle.off_defs.specs.declared.keys.Key.{Key}
use Rattle.off_defs.specs.declared.tables.Row.{Row}
use Rattle.off_keepmem.specs.Entries.{Rises, row_in, IsPlace, Parts}
use Rattle.off_keepmem.specs.Shelves.{starts_by}
use Rattle.off_keepmem.proofs.EntryLemmas.{front_within, own_row, no_row, place_at, starts_at}
use Rattle.off_keepmem.proofs.shelf.Shelf.get.Goals as goal

pub index-requires : goal.index-requires
index-requires c =
    omega (arith, front_within c.args.key.now c.self.inside.entries.items c.args.place (sym c.is_at.ensures ∙ c.if-is_at.true), c.self.inside.entries.ok.0)

pub returns-then-is_at-clause-row : goal.returns-then-is_at-clause-row
returns-then-is_at-clause-row c =
    ap (λ (es : List (Key × Row)). row_in c.args.key.now es) (sym c.self.view_is)
    ∙ own_row c.args.key.now c.self.inside.entries.items c.args.place c.index.result.now (subst Rises (sym c.self.view_is) c.requires) (sym c.is_at.ensures ∙ c.if-is_at.true) c.index.ensures
    ∙ ap (λ (row : Row). Some row) (sym c.row.ensures)

pub returns-then-is_at-clause-starts : goal.returns-then-is_at-clause-starts
returns-then-is_at-clause-starts c = λ _.
    let here = sym c.is_at.ensures ∙ c.if-is_at.true in
    let at = place_at c.args.key.now c.self.inside.entries.items c.args.place (subst Rises (sym c.self.view_is) c.requires) here in
    subst (λ (es : List (Key × Row)). starts_by c.args.key.now es ≡ true) c.self.view_is (starts_at c.args.key.now c.self.inside.entries.items c.args.place at here)

pub returns-then-is_at-clause-place : goal.returns-then-is_at-clause-place
returns-then-is_at-clause-place c = λ _.
    subst (λ (es : List (Key × Row)). IsPlace c.args.key.now c.args.place es) c.self.view_is
    (place_at c.args.key.now c.self.inside.entries.items c.args.place (subst Rises (sym c.self.view_is) c.requires) (sym c.is_at.ensures ∙ c.if-is_at.true))

pub returns-else-is_at-clause-none : goal.returns-else-is_at-clause-none
returns-else-is_at-clause-none c = λ _ parts.
    let own : Parts c.args.key.now c.args.place c.self.inside.entries.items = subst (λ (es : List (Key × Row)). Parts c.args.key.now c.args.place es) (sym c.self.view_is) parts in
    ap (λ (es : List (Key × Row)). row_in c.args.key.now es) (sym c.self.view_is)
    ∙ no_row c.args.key.now c.self.inside.entries.items c.args.place (subst Rises (sym c.self.view_is) c.requires) own.front own.behind (sym c.is_at.ensures ∙ c.if-is_at.false)
