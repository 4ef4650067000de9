-- What is seen of a disk.
use Rattle.std.specs.Prelude.{ℕ, List}

-- `bytes` is what a read gives, told or not. `size` is the length, and `faults` counts the failed
-- calls. `left m c`, told or not too: a crash at the moment m may leave the bytes c, by a clock
-- that never falls, `moment`.
pub record DiskSeen : Type 1 where
  pub bytes : List ℕ → Type 0
  pub size : ℕ
  pub faults : ℕ
  pub moment : ℕ
  pub left : ℕ → List ℕ → Type 0
