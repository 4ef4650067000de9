-- What sending does to what is seen of a link.
use Rattle.std.specs.Prelude.{◌≡◌, ℕ, Bool, true, false, not, List, ◌++◌, length, count_by, ◌⊎◌}
use Rattle.off_defs.specs.declared.results.Sent.{Sent}
use Rattle.off_defs.specs.Told.{Told, Stays}
use Rattle.off_defs.specs.Counts.{Grew, Tallied}
use Rattle.off_book.specs.Run.{all_went, marked, moment_of_each}
use Rattle.off_outside.specs.LinkSeen.{LinkSeen}
use Rattle.off_outside.specs.LinkCalls.{WasSent, NotSent}

-- an item was sent, or it wasn't and is counted
abbrev pub SentOne : Sent → ℕ → Bool → LinkSeen → LinkSeen → Type 0
SentOne item moment true old new = WasSent item moment old new
SentOne item moment false old new = NotSent old new

-- the items were handed to the link in order, at one moment of the keeper: those that are marked
-- were sent, the others are counted
pub record SentAll (items : List Sent) (moment : ℕ) (all : Bool) (old new : LinkSeen) : Type 0
  where
    pub marks : List Bool
    pub each : length items ≡ length marks
    pub all_is : all ≡ all_went marks
    pub left : Stays old.left new.left
    pub sent : Told old.sent new.sent (λ before after. after ≡ before ++ marked items marks)
    pub moments : Told old.moments new.moments
        (λ before after. after ≡ before ++ moment_of_each moment (marked items marks))
    pub up : old.up → new.up ⊎ Grew 1 old.unsent new.unsent
    pub missed : new.missed ≡ old.missed
    pub longest : new.longest ≡ old.longest
    pub faults : new.faults ≡ old.faults
    pub unsent : Tallied (count_by not marks) old.unsent new.unsent
