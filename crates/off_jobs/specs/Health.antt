-- Whether what a job needs of the outside failed meanwhile.
use Rattle.std.specs.Prelude.{◌≡◌, ℕ, ◌<◌, List, [], ◌∷◌}
use Rattle.off_defs.specs.Counts.{most_count}
use Rattle.off_outside.specs.LinkSeen.{LinkSeen}
use Rattle.off_outside.specs.KeeperSeen.{KeeperSeen}
use Rattle.off_outside.specs.Streams.{SourceSeen, SinkSeen}

-- a count of faults didn't rise, and didn't stand at the greatest number
pub record Stood (old new : ℕ) : Type 0 where
  pub same : new ≡ old
  pub room : old < most_count

-- of a link, a keeper, a source or a sink: that it counted no fault, and that it's up if it was
pub record Health : Type 1 where
  pub sound : Type 0
  pub stays_up : Type 0

abbrev pub of_link : LinkSeen → LinkSeen → Health
of_link old new = record {
  sound = Stood old.faults new.faults × Stood old.unsent new.unsent;
  stays_up = old.up → new.up;
}

abbrev pub of_keeper : KeeperSeen → KeeperSeen → Health
of_keeper old new =
    record { sound = Stood old.faults new.faults; stays_up = old.up → new.up }

abbrev pub of_source : SourceSeen → SourceSeen → Health
of_source old new =
    record { sound = Stood old.faults new.faults; stays_up = old.up → new.up }

abbrev pub of_sink : SinkSeen → SinkSeen → Health
of_sink old new =
    record { sound = Stood old.faults new.faults; stays_up = old.up → new.up }

-- no count of what a job needs rose, and none stood at the greatest number
abbrev pub NoFault : List Health → Type 0
NoFault [] = Unit {0}
NoFault (one ∷ others) = one.sound × NoFault others

-- what was up is up
abbrev pub AllUp : List Health → Type 0
AllUp [] = Unit {0}
AllUp (one ∷ others) = one.stays_up × AllUp others
