-- What is left to read of a row: its place, and the bytes from there on.
use Rattle.std.specs.Prelude.{ℕ, List}

pub record Left : Type 0 where
  pub place : ℕ
  pub rest : List ℕ
