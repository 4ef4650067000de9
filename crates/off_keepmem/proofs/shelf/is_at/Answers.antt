use Rattle.std.proofs.Common.{◌∙◌, sym, ap, arith}
use Rattle.std.specs.Ordering.{is_eq}
use Rattle.off_defs.specs.declared.keys.Key.{Key}
use Rattle.off_keepmem.specs.Entries.{compared}
use Rattle.off_keepmem.proofs.EntryLemmas.{front_none, front_is}
use Rattle.off_keepmem.proofs.shelf.is_at.Goals as goal

pub returns-then-place-len : goal.returns-then-place-len
returns-then-place-len c =
    c.is_same.ensures
    ∙ ap (λ (k : Key). is_eq (compared c.args.key.now k)) c.key.ensures
    ∙ sym (front_is c.args.key.now c.args.entries.now.items c.args.place c.index.result.now (omega (arith, c.len.ensures, c.args.entries.now.ok.0, c.if-place-len.true)) c.index.ensures)

pub returns-else-place-len : goal.returns-else-place-len
returns-else-place-len c =
    sym (front_none c.args.key.now c.args.entries.now.items c.args.place (omega (arith, c.len.ensures, c.args.entries.now.ok.0, c.if-place-len.false)))
