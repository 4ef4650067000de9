use Rattle.off_import_rules.proofs.TextLemmas.{a_short, no_short}
use Rattle.off_import.proofs.values.short.Goals as goal

pub returns-in-Ok : goal.returns-in-Ok
returns-in-Ok c = let h = c.in-Ok.ensures.read in a_short _ c.args.text.now _ _ h.0 h.1 h.2

pub returns-in-Err : goal.returns-in-Err
returns-in-Err c = no_short c.args.text.now _ _ _ c.unread.ensures c.in-Err.ensures.read
