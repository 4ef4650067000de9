use Rattle.std.proofs.Common.{◌∙◌, sym, ap, subst, arith, List, set}
use Rattle.std.specs.List.{insert}
use Rattle.off_defs.specs.declared.keys.Key.{Key}
use Rattle.off_defs.specs.declared.tables.Row.{Row}
use Rattle.off_keepmem.specs.Entries.{Rises, Parts, put_entry}
use Rattle.off_keepmem.proofs.EntryLemmas.{front_within, own_put, new_put}
use Rattle.off_keepmem.proofs.shelf.Shelf.put.Goals as goal

pub index_mut-requires : goal.index_mut-requires
index_mut-requires c =
    omega (arith, front_within c.args.key c.self.inside.entries.items c.args.place (sym c.is_at.ensures ∙ c.if-is_at.true), c.self.inside.entries.ok.0)

pub returns-then-is_at-clause-entries : goal.returns-then-is_at-clause-entries
returns-then-is_at-clause-entries c =
    ap (λ (e : Key × Row). set c.self.inside.entries.items c.args.place e) c.replace.ensures
    ∙ own_put c.args.key c.self.inside.entries.items c.args.place c.index_mut.result.now (subst Rises (sym c.self.view_is) c.requires.rises) (sym c.is_at.ensures ∙ c.if-is_at.true) c.index_mut.ensures.value c.args.row
    ∙ ap (λ (es : List (Key × Row)). put_entry c.args.key c.args.row es) c.self.view_is

pub returns-else-is_at-clause-entries : goal.returns-else-is_at-clause-entries
returns-else-is_at-clause-entries c =
    let own : Parts c.args.key c.args.place c.self.inside.entries.items = subst (λ (es : List (Key × Row)). Parts c.args.key c.args.place es) (sym c.self.view_is) c.requires.parts in
    c.insert_at.ensures.items
    ∙ ap (λ (e : Key × Row). insert c.self.inside.entries.items c.args.place e) c.new.ensures
    ∙ new_put c.args.key c.self.inside.entries.items c.args.place (subst Rises (sym c.self.view_is) c.requires.rises) own.front own.behind (sym c.is_at.ensures ∙ c.if-is_at.false) c.args.row
    ∙ ap (λ (es : List (Key × Row)). put_entry c.args.key c.args.row es) c.self.view_is
