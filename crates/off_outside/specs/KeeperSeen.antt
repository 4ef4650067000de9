-- What is seen of a keeper of the tables.
use Rattle.std.specs.Prelude.{◌≡◌, ℕ, ◌⊎◌, Bool}
use Rattle.off_defs.specs.State.{Tables}

-- `tables` may be told or not; where the keeper is `up`, one value at most is told. `faults` counts
-- the failed calls, `calls` all calls, and `commits` the commits that were done.
--
-- What a crash may leave may be told too, by a clock that never falls, `moment`. `opened m u`: an
-- opening after a crash at the moment m may give the tables u. `doubt u`: a crash may leave u besides
-- the tables that are told. These are older tables as long as writes wait to be saved, which `waits`
-- says; or the tables with one commit more, which was begun after the last that was done, and wasn't
-- done.
pub record KeeperSeen : Type 1 where
  pub tables : Tables → Type 0
  pub up : Type 0
  pub faults : ℕ
  pub calls : ℕ
  pub commits : ℕ
  pub moment : ℕ
  pub opened : ℕ → Tables → Type 0
  pub doubt : Tables → Type 0
  pub waits : Bool

-- Between two calls a crash leaves the tables that are told, or those in doubt.
abbrev pub Rests : KeeperSeen → Type 0
Rests seen =
    (t : Tables) → seen.tables t → (u : Tables) → seen.opened seen.moment u → (u ≡ t) ⊎ seen.doubt u
