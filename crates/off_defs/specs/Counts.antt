-- Counters of faults. Each is kept in 64 bits, never falls, and stands still at the greatest
-- number.
use Rattle.std.specs.Prelude.{◌≡◌, ℕ, ◌+◌, ◌≤◌, min, List, [], ◌∷◌}
use Rattle.off_base.specs.Number.{greatest_u64}
use Rattle.off_defs.specs.declared.writes.Write.{Write}

-- the greatest number of a counter
abbrev pub most_count : ℕ
most_count = greatest_u64

-- a counter after one more
abbrev pub one_more : ℕ → ℕ
one_more n = min (n + 1) most_count

-- a counter rose by n at least, or stands at the greatest number
pub record Grew (n before now : ℕ) : Type 0 where
  pub later : before ≤ now
  pub grew : min (before + n) most_count ≤ now

-- A counter counted n faults: it rose by n at least, or stands at the greatest number; where there
-- was none it stands.
pub record Tallied (n before now : ℕ) : Type 0 where
  pub grew : Grew n before now
  pub stands : n ≡ 0 → now ≡ before

-- a counter of commits behind these writes: where there are none, nothing is committed; else all
-- are, in one commit
abbrev pub commits_after : List Write → ℕ → ℕ
commits_after [] commits = commits
commits_after (write ∷ writes) commits = one_more commits

-- a counter of calls behind a text that may be empty: what is empty isn't written
abbrev pub calls_after : List ℕ → ℕ → ℕ
calls_after [] calls = calls
calls_after (byte ∷ text) calls = one_more calls
