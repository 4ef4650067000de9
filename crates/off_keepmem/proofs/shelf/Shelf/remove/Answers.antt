use Rattle.std.proofs.Common.{◌≡◌, ◌∙◌, sym, subst, arith, List}
use Rattle.off_defs.specs.declared.keys.Key.{Key}
use Rattle.off_defs.specs.declared.tables.Row.{Row}
use Rattle.off_keepmem.specs.Entries.{Rises, Parts, but_key}
use Rattle.off_keepmem.proofs.EntryLemmas.{front_within, no_drop}
use Rattle.off_keepmem.proofs.shelf.Shelf.remove.Goals as goal

pub remove-entry-requires : goal.remove-entry-requires
remove-entry-requires c =
    omega (arith, front_within c.args.key.now c.self.inside.entries.items c.args.place (sym c.is_at.ensures ∙ c.if-is_at.true), c.self.inside.entries.ok.0)

pub returns-clause-entries : goal.returns-clause-entries
returns-clause-entries c =
    let own : Parts c.args.key.now c.args.place c.self.inside.entries.items = subst (λ (es : List (Key × Row)). Parts c.args.key.now c.args.place es) (sym c.self.view_is) c.requires.parts in
    let same = no_drop c.args.key.now c.self.inside.entries.items c.args.place (subst Rises (sym c.self.view_is) c.requires.rises) own.front own.behind (sym c.is_at.ensures ∙ c.if-is_at.false) in
    sym (subst (λ (es : List (Key × Row)). but_key c.args.key.now es ≡ es) c.self.view_is same)
