use Rattle.std.proofs.Common.{◌∙◌, sym, ap, subst, List, Some}
use Rattle.off_defs.specs.declared.keys.Key.{Key}
use Rattle.off_defs.specs.declared.tables.Row.{Row}
use Rattle.off_keepmem.specs.Entries.{Rises, next_in}
use Rattle.off_keepmem.proofs.EntryLemmas.{next_behind, new_next}
use Rattle.off_keepmem.proofs.shelf.Shelf.next.Goals as goal

pub returns-then-is_at : goal.returns-then-is_at
returns-then-is_at c =
    c.entry_at.ensures
    ∙ sym (next_behind c.args.key.now c.self.inside.entries.items c.place_of-place.result (subst Rises (sym c.self.view_is) c.requires) (sym c.is_at.ensures ∙ c.if-is_at.true))
    ∙ ap (λ (es : List (Key × Row)). next_in (Some c.args.key.now) es) c.self.view_is

pub returns-else-is_at : goal.returns-else-is_at
returns-else-is_at c =
    c.entry_at-else-is_at.ensures
    ∙ sym (new_next c.args.key.now c.self.inside.entries.items c.place_of-place.result (subst Rises (sym c.self.view_is) c.requires) c.place_of-place.ensures.front c.place_of-place.ensures.behind (sym c.is_at.ensures ∙ c.if-is_at.false))
    ∙ ap (λ (es : List (Key × Row)). next_in (Some c.args.key.now) es) c.self.view_is
