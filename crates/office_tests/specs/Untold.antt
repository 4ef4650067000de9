-- What is seen of a keeper that tells nothing: its counts.
use Rattle.std.specs.Prelude.{ℕ, false}
use Rattle.off_outside.specs.KeeperSeen.{KeeperSeen}

abbrev pub keeper_counts : ℕ → ℕ → ℕ → KeeperSeen
keeper_counts faults calls commits = record {
  tables = λ _. ⊥;
  up = Unit {0};
  faults = faults;
  calls = calls;
  commits = commits;
  moment = 0;
  opened = λ _ _. ⊥;
  doubt = λ _. ⊥;
  waits = false;
}
