-- How a transaction ends.
use Rattle.std.specs.Prelude.{◌≡◌, false, Result, Ok, Err, MatchResult}
use Rattle.sqlite.specs.State.{State, Shows, IsRolledBack}
use Rattle.off_sqlcells.specs.declared.refusals.Refused.{Refused}
use Rattle.off_sqlcells.specs.Refusals.{FailsToEnd}

-- What was written is committed; or the store refused that.
abbrev pub Finishes : Result (Unit {0}) Refused → State → State → Type 0
Finishes result old new =
    MatchResult result (λ _. Shows old new old.now old.now false) (FailsToEnd old new)

-- What was refused is rolled back.
abbrev pub Ends : Result (Unit {0}) Refused → Result (Unit {0}) Refused → State → State → Type 0
Ends (Ok done) result old new = Finishes result old new
Ends (Err refused) result old new = IsRolledBack old new × (result ≡ Err refused)
