-- What each call of a link does to each of its meanings.
use Rattle.std.specs.Prelude.{◌≡◌, ℕ, ◌⊎◌, List, [], ◌∷◌, ◌++◌, drop, max, Option, None, Some, Result, MatchResult}
use Rattle.off_defs.specs.declared.events.Event.{Event}
use Rattle.off_defs.specs.declared.results.Sent.{Sent}
use Rattle.off_defs.specs.Told.{Told, Stays}
use Rattle.off_defs.specs.Counts.{Grew, one_more}
use Rattle.off_defs.specs.Events.{end_event}
use Rattle.off_outside.specs.LinkSeen.{LinkSeen}
use Rattle.off_outside.specs.declared.link.Failed.{Failed}
use Rattle.off_outside.specs.declared.link.LinkErr.{LinkErr}
use Rattle.off_outside.specs.declared.link.LinkErr.TheVariants as link_err

-- the first event to come, and an End at moment 0 where none is left
abbrev pub first_event : List Event → Event
first_event [] = end_event
first_event (event ∷ events) = event

-- the link stays up, or has counted a failed call of `next`, or an item that wasn't sent
abbrev pub LinkStaysUp : LinkSeen → LinkSeen → Type 0
LinkStaysUp old new =
    old.up → new.up ⊎ (Grew 1 old.faults new.faults ⊎ Grew 1 old.unsent new.unsent)

-- an event was taken
pub record Took (event : Event) (old new : LinkSeen) : Type 0 where
  pub left : Told old.left new.left
      (λ before after. (event ≡ first_event before) × (after ≡ drop 1 before))
  pub sent : Stays old.sent new.sent
  pub moments : Stays old.moments new.moments
  pub up : old.up → new.up
  pub missed : new.missed ≡ 0
  pub longest : new.longest ≡ old.longest
  pub faults : new.faults ≡ old.faults
  pub unsent : new.unsent ≡ old.unsent

-- how many faults an error counts, and what it makes of the failures in a row: want of memory is no
-- failure
abbrev pub faults_in : LinkErr → ℕ
faults_in link_err.Memory = 0
faults_in link_err.Failed = 1

abbrev pub missed_after : LinkErr → ℕ → ℕ
missed_after link_err.Memory missed = missed
missed_after link_err.Failed missed = one_more missed

abbrev pub longest_after : LinkErr → ℕ → ℕ → ℕ
longest_after link_err.Memory missed longest = longest
longest_after link_err.Failed missed longest = max longest (one_more missed)

-- no event was taken
pub record NotTook (err : LinkErr) (old new : LinkSeen) : Type 0 where
  pub left : Stays old.left new.left
  pub sent : Stays old.sent new.sent
  pub moments : Stays old.moments new.moments
  pub up : old.up → new.up ⊎ Grew 1 old.faults new.faults
  pub missed : new.missed ≡ missed_after err old.missed
  pub longest : new.longest ≡ longest_after err old.missed old.longest
  pub faults : Grew (faults_in err) old.faults new.faults
  pub unsent : new.unsent ≡ old.unsent

-- an item was sent, at this moment of the keeper
pub record WasSent (item : Sent) (moment : ℕ) (old new : LinkSeen) : Type 0 where
  pub left : Stays old.left new.left
  pub sent : Told old.sent new.sent (λ before after. after ≡ before ++ item ∷ [])
  pub moments : Told old.moments new.moments (λ before after. after ≡ before ++ moment ∷ [])
  pub up : old.up → new.up
  pub missed : new.missed ≡ old.missed
  pub longest : new.longest ≡ old.longest
  pub faults : new.faults ≡ old.faults
  pub unsent : new.unsent ≡ old.unsent

-- an item wasn't sent
pub record NotSent (old new : LinkSeen) : Type 0 where
  pub left : Stays old.left new.left
  pub sent : Stays old.sent new.sent
  pub moments : Stays old.moments new.moments
  pub up : old.up → new.up ⊎ Grew 1 old.unsent new.unsent
  pub missed : new.missed ≡ old.missed
  pub longest : new.longest ≡ old.longest
  pub faults : new.faults ≡ old.faults
  pub unsent : Grew 1 old.unsent new.unsent

-- no call was made: all is as it was
pub record LinkUnasked (old new : LinkSeen) : Type 0 where
  pub left : Stays old.left new.left
  pub sent : Stays old.sent new.sent
  pub moments : Stays old.moments new.moments
  pub up : old.up → new.up
  pub missed : new.missed ≡ old.missed
  pub longest : new.longest ≡ old.longest
  pub faults : new.faults ≡ old.faults
  pub unsent : new.unsent ≡ old.unsent

-- what `next` does, and what a call that sends an item does, by the answer
abbrev pub Takes : Result Event LinkErr → LinkSeen → LinkSeen → Type 0
Takes result old new = MatchResult result (λ event. Took event old new) (λ err. NotTook err old new)

-- what a call that takes an event that waits does: it may take none
abbrev pub TookWaiting : Option Event → LinkSeen → LinkSeen → Type 0
TookWaiting (Some event) old new = Took event old new
TookWaiting None old new = LinkUnasked old new

abbrev pub TakesWaiting : Result (Option Event) LinkErr → LinkSeen → LinkSeen → Type 0
TakesWaiting result old new =
    MatchResult result (λ event. TookWaiting event old new) (λ err. NotTook err old new)

abbrev pub Sends : Result (Unit {0}) Failed → Sent → ℕ → LinkSeen → LinkSeen → Type 0
Sends result item moment old new =
    MatchResult result (λ _. WasSent item moment old new) (λ _. NotSent old new)
