-- What clerks and other modems leave of a modem's rows: where no commit writes the modem's row, its
-- pool's, the one that names the pool's hub, or that hub's, they are read as before.
use Rattle.std.specs.Prelude.{◌≡◌, ◌≢◌, ℕ, List}
use Rattle.std.specs.List.{AllByRecursion}
use Rattle.off_base.specs.declared.macs.Mac.{Mac}
use Rattle.off_defs.specs.declared.keys.Key.{Key}
use Rattle.off_defs.specs.declared.keys.Key.TheVariants as key
use Rattle.off_defs.specs.State.{Tables, State}
use Rattle.off_defs.specs.Tables.{key_written}
use Rattle.off_account_rules.specs.Rows.{hub_in, pool_hub_in, modem_in, pool_in}
use Rattle.off_book.specs.Run.{Turn, Run}

abbrev pub LeavesRow : Key → Turn → Type 0
LeavesRow key turn = AllByRecursion (λ write. key_written write ≢ key) turn.commit

-- what is read of a modem, of the pool with a number, and of a hub
pub record LeavesModem (mac : Mac) (number hub : ℕ) (turn : Turn) : Type 0 where
  pub site : LeavesRow (key.Hub hub) turn
  pub pool_hub : LeavesRow (key.PoolHub number) turn
  pub modem : LeavesRow (key.Modem mac) turn
  pub pool : LeavesRow (key.Pool number) turn

pub record ReadAsBefore (mac : Mac) (number hub : ℕ) (old new : Tables) : Type 0 where
  pub site : hub_in new hub ≡ hub_in old hub
  pub pool_hub : pool_hub_in new number ≡ pool_hub_in old number
  pub modem : modem_in new mac ≡ modem_in old mac
  pub pool : pool_in new number ≡ pool_in old number

abbrev pub RowsStay : Type 0
RowsStay =
    (s last : State) (turns : List Turn) (mac : Mac) (number hub : ℕ) → Run s turns last
    → AllByRecursion (LeavesModem mac number hub) turns
    → ReadAsBefore mac number hub s.tables last.tables
