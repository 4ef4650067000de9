-- Those so far end before the address.
use Rattle.std.proofs.Common.{◌≤◌, ◌-◌, take, vec_len}
use Rattle.std.specs.List.{All}
use Rattle.off_runs.specs.Changes.{ends_before}
use Rattle.off_runs.proofs.runs.place_up_to.Given as goal

abbrev pub invariant-seek : goal.invariant-seek
invariant-seek l = record {
  within : l.place ≤ vec_len l.runs;
  front : All (ends_before l.address.0) (take l.place l.runs.items);
}

abbrev pub decreases-seek : goal.decreases-seek
decreases-seek l = vec_len l.runs - l.place
