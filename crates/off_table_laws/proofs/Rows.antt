-- Tables as the rows of their keys, and what writes make of them.
use Rattle.std.proofs.Common.{◌≡◌, cond, Option, Some, None, List, [], ◌∷◌, refl, ap, ◌∙◌}
use Rattle.std.specs.Ordering.{eq_by_cmp}
use Rattle.off_defs.specs.declared.keys.Key.{Key}
use Rattle.off_defs.specs.declared.tables.Row.{Row}
use Rattle.off_defs.specs.declared.writes.Write.{Write}
use Rattle.off_defs.specs.declared.writes.Write.TheVariants.{Put, Drop}
use Rattle.off_defs.specs.Keys.{key_cmp}
use Rattle.off_defs.specs.State.{Tables}
use Rattle.off_defs.specs.Tables.{row_at, written, write_all}
use Rattle.off_defs.proofs.TableLemmas.{row_with, row_without}

abbrev pub Rows : Type 0
Rows = Key → Option Row

abbrev pub put_row : Rows → Key → Row → Rows
put_row rows key row q = cond (eq_by_cmp key_cmp q key) (Some row) (rows q)

abbrev pub drop_row : Rows → Key → Rows
drop_row rows key q = cond (eq_by_cmp key_cmp q key) None (rows q)

abbrev pub row_written : Rows → Write → Rows
row_written rows (Put key row) = put_row rows key row
row_written rows (Drop key) = drop_row rows key

abbrev pub rows_after : Rows → List Write → Rows
rows_after rows [] = rows
rows_after rows (write ∷ writes) = rows_after (row_written rows write) writes

one_written : (t : Tables) (write : Write) → row_at (written t write) ≡ row_written (row_at t) write
one_written t (Put key row) = λ i q. row_with t key row q i
one_written t (Drop key) = λ i q. row_without t key q i

pub all_written : (t : Tables) (writes : List Write) → row_at (write_all t writes) ≡ rows_after (row_at t) writes
all_written t [] = refl
all_written t (write ∷ writes) = all_written (written t write) writes ∙ ap (λ (rows : Rows). rows_after rows writes) (one_written t write)
