-- A row that was read can be spelled again.
use Rattle.off_defs.specs.declared.keys.Key.{Key}
use Rattle.off_defs.specs.declared.tables.Row.{Row}
use Rattle.off_rows.specs.RowBytes.{CanSpell, IsRowOf}
use Rattle.off_rows.proofs.Rows.{can_spell}

pub spells : (key : Key) (row : Row) → IsRowOf key row → CanSpell row
spells key row is = can_spell row is.stand
