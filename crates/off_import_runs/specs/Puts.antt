-- How often a batch's row is put, and what becomes of the batch: it stands where its row is among
-- the tables, and then it's as it was, for good.
use Rattle.std.specs.Prelude.{◌≡◌, ℕ, ◌+◌, ◌==◌, List, [], ◌∷◌, Option, Some, None, if◌then◌else◌}
use Rattle.off_defs.specs.declared.keys.Key.TheVariants as key
use Rattle.off_orders.specs.declared.orders.ImportRow.{ImportRow}
use Rattle.off_orders.specs.declared.orders.ImportRow.TheVariants as imported
use Rattle.off_defs.specs.declared.writes.Write.{Write}
use Rattle.off_defs.specs.declared.writes.Write.TheVariants.{Put}
use Rattle.off_defs.specs.declared.tables.Batch.{Batch}
use Rattle.off_defs.specs.declared.tables.Row.TheVariants as row
use Rattle.off_book.specs.Run.{Turn}

-- how often writes put the batch of a number, and how often those of turns do
abbrev pub puts_of : ℕ → Write → ℕ
puts_of batch (Put (key.Batch number) held) = if number == batch then 1 else 0
puts_of batch write = 0

abbrev pub puts_in : ℕ → List Write → ℕ
puts_in batch [] = 0
puts_in batch (write ∷ writes) = puts_of batch write + puts_in batch writes

abbrev pub puts_by : ℕ → List Turn → ℕ
puts_by batch [] = 0
puts_by batch (turn ∷ turns) = puts_in batch turn.commit + puts_by batch turns

-- how a row of an import is put
abbrev pub put_of : ImportRow → Write
put_of (imported.Subscriber number subscriber) =
    Put (key.Subscriber number) (row.Subscriber subscriber)
put_of (imported.Modem mac modem) = Put (key.Modem mac) (row.Modem modem)

-- What stood before, what stands now, and how often it was put between: what stood is the same and
-- wasn't put; what didn't stand was put once if it stands now, and else not at all.
abbrev pub PutOnce : Option Batch → Option Batch → ℕ → Type 0
PutOnce (Some old) new puts = (new ≡ Some old) × (puts ≡ 0)
PutOnce None (Some new) puts = puts ≡ 1
PutOnce None None puts = puts ≡ 0
