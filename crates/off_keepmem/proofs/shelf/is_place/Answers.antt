use Rattle.std.proofs.Common.{◌-◌, ◌∙◌, sym, ap, arith}
use Rattle.std.specs.Ordering.{is_gt}
use Rattle.off_defs.specs.declared.keys.Key.{Key}
use Rattle.off_keepmem.specs.Entries.{compared}
use Rattle.off_keepmem.proofs.EntryLemmas.{place_same, place_first, place_between}
use Rattle.off_keepmem.proofs.shelf.is_place.Goals as goal

pub returns-in-Equal : goal.returns-in-Equal
returns-in-Equal c = λ _.
    place_same c.args.key.now c.args.entries.now.items c.args.place c.index.result.now c.requires
    (omega (arith, c.len.ensures, c.args.entries.now.ok.0, c.if-place-len.false)) c.index.ensures
    (ap (λ (k : Key). compared c.args.key.now k) (sym c.key.ensures) ∙ sym c.compared.ensures ∙ c.in-Equal.is)

pub returns-then-place-eq0 : goal.returns-then-place-eq0
returns-then-place-eq0 c = λ _.
    place_first c.args.key.now c.args.entries.now.items c.args.place c.index.result.now
    (omega (arith, c.len.ensures, c.args.entries.now.ok.0, c.if-place-len.false)) c.index.ensures
    (ap (λ (k : Key). compared c.args.key.now k) (sym c.key.ensures) ∙ sym c.compared.ensures ∙ c.in-Less.is)
    (omega (arith, c.if-place-eq0.true))

pub returns-else-place-eq0 : goal.returns-else-place-eq0
returns-else-place-eq0 c = λ above.
    place_between c.args.key.now c.args.entries.now.items c.args.place (c.args.place - 1) c.index.result.now c.index-else-place-eq0.result.now c.requires
    (omega (arith, c.len.ensures, c.args.entries.now.ok.0, c.if-place-len.false)) c.index.ensures
    (ap (λ (k : Key). compared c.args.key.now k) (sym c.key.ensures) ∙ sym c.compared.ensures ∙ c.in-Less.is)
    (omega (arith, c.if-place-eq0.false)) c.index-else-place-eq0.ensures
    (ap (λ (k : Key). is_gt (compared c.args.key.now k)) (sym c.key-else-place-eq0.ensures) ∙ sym c.is_above.ensures ∙ above)
