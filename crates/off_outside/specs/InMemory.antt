-- The forms in memory: what each holds, and exactly what each call makes of it.
use Rattle.std.specs.Prelude.{◌≡◌, ℕ, ◌-◌, ◌<◌, ◌≤◌, List, [], ◌∷◌, ◌++◌, drop, take, length, min, Contains, ◌⊎◌, Option, None, Some, Result, MatchResult, max}
use Rattle.off_defs.specs.declared.events.Event.{Event}
use Rattle.off_defs.specs.declared.results.Sent.{Sent}
use Rattle.off_defs.specs.Counts.{one_more, most_count}
use Rattle.off_outside.specs.LinkSeen.{LinkSeen}
use Rattle.off_outside.specs.LinkCalls.{first_event}
use Rattle.off_outside.specs.Streams.{SourceSeen, SinkSeen, ends_after}
use Rattle.off_outside.specs.declared.link.LinkErr.{LinkErr}
use Rattle.off_outside.specs.declared.link.Failed.{Failed}
use Rattle.off_outside.specs.declared.link.LinkErr.TheVariants as link_err

-- the calls that are to fail, by number, and how many have been made; they count from 1
pub record CallsHeld : Type 0 where
  pub listed : List ℕ
  pub made : ℕ

-- the call that comes next, and whether it is to fail
abbrev pub next_call : CallsHeld → ℕ
next_call calls = one_more calls.made

abbrev pub one_called : CallsHeld → CallsHeld
one_called calls = record calls { made = next_call calls }

abbrev pub IsToFail : CallsHeld → Type 0
IsToFail calls = Contains calls.listed (next_call calls)

-- what was sent, with the moment of each item, and the room that is left for items and for their
-- bytes
pub record OutboxHeld : Type 0 where
  pub sent : List Sent
  pub moments : List ℕ
  pub item_room : ℕ
  pub octet_room : ℕ

abbrev pub HasRoom : OutboxHeld → ℕ → Type 0
HasRoom box len = (0 < box.item_room) × (len ≤ box.octet_room)

abbrev pub with_item : OutboxHeld → Sent → ℕ → ℕ → OutboxHeld
with_item box item moment len =
    record {
      sent = box.sent ++ item ∷ [];
      moments = box.moments ++ moment ∷ [];
      item_room = box.item_room - 1;
      octet_room = box.octet_room - len;
    }

abbrev pub empty_outbox : ℕ → ℕ → OutboxHeld
empty_outbox items octets =
    record { sent = []; moments = []; item_room = items; octet_room = octets }

-- A link in memory. When `next` takes an event, so many of those to come wait already: `together`.
-- So many wait now: `waiting`.
pub record MemLinkHeld : Type 0 where
  pub left : List Event
  pub outbox : OutboxHeld
  pub calls : CallsHeld
  pub together : ℕ
  pub waiting : ℕ
  pub missed : ℕ
  pub longest : ℕ
  pub faults : ℕ
  pub unsent : ℕ

-- it tells all that it holds
abbrev pub link_seen : MemLinkHeld → LinkSeen
link_seen m = record {
  left = λ events. events ≡ m.left;
  sent = λ items. items ≡ m.outbox.sent;
  moments = λ moments. moments ≡ m.outbox.moments;
  up = Unit {0};
  missed = m.missed;
  longest = m.longest;
  faults = m.faults;
  unsent = m.unsent;
}

-- what is seen of a link in memory is all that it holds
pub record LinkTells (m : MemLinkHeld) (seen : LinkSeen) : Type 0 where
  pub left : seen.left m.left
  pub sent : seen.sent m.outbox.sent
  pub moments : seen.moments m.outbox.moments
  pub up : seen.up
  pub missed : seen.missed ≡ m.missed
  pub longest : seen.longest ≡ m.longest
  pub faults : seen.faults ≡ m.faults
  pub unsent : seen.unsent ≡ m.unsent

-- the call counted, and nothing else yet
abbrev pub link_called : MemLinkHeld → MemLinkHeld
link_called m = record m { calls = one_called m.calls }

-- `next` gives the first event exactly where the call isn't listed
pub record MemTook (event : Event) (old new : MemLinkHeld) : Type 0 where
  pub unlisted : ¬ (IsToFail old.calls)
  pub first : event ≡ first_event old.left
  pub after : new
      ≡ record (link_called old) { left = drop 1 old.left; missed = 0; waiting = old.together }

pub record MemNotTook (err : LinkErr) (old new : MemLinkHeld) : Type 0 where
  pub listed : IsToFail old.calls
  pub cause : err ≡ link_err.Failed
  pub after : new ≡ record (link_called old) {
    missed = one_more old.missed;
    longest = max old.longest (one_more old.missed);
    faults = one_more old.faults;
  }

-- `next_waiting` gives the first event exactly if one waits and the call isn't listed; where none
-- waits nothing is counted
pub record MemTookWaiting (event : Event) (old new : MemLinkHeld) : Type 0 where
  pub waits : 0 < old.waiting
  pub some : 0 < length old.left
  pub unlisted : ¬ (IsToFail old.calls)
  pub first : event ≡ first_event old.left
  pub after : new
      ≡ record (link_called old) { left = drop 1 old.left; missed = 0; waiting = old.waiting - 1 }

pub record MemNoneWaits (old new : MemLinkHeld) : Type 0 where
  pub none : (old.waiting ≡ 0) ⊎ (old.left ≡ [])
  pub after : new ≡ old

abbrev pub MemTookIfWaiting : Option Event → MemLinkHeld → MemLinkHeld → Type 0
MemTookIfWaiting (Some event) old new = MemTookWaiting event old new
MemTookIfWaiting None old new = MemNoneWaits old new

-- an item of `len` bytes is sent exactly where the call isn't listed and there is room
pub record MemSent (item : Sent) (moment len : ℕ) (old new : MemLinkHeld) : Type 0 where
  pub unlisted : ¬ (IsToFail old.calls)
  pub room : HasRoom old.outbox len
  pub after : new ≡ record (link_called old) { outbox = with_item old.outbox item moment len }

pub record MemNotSent (len : ℕ) (old new : MemLinkHeld) : Type 0 where
  pub cause : IsToFail old.calls ⊎ (¬ (HasRoom old.outbox len))
  pub after : new ≡ record (link_called old) { unsent = one_more old.unsent }

-- what `next` of a link in memory does, and what a call that sends does, by the answer
abbrev pub MemTakes : Result Event LinkErr → MemLinkHeld → MemLinkHeld → Type 0
MemTakes result old new =
    MatchResult result (λ event. MemTook event old new) (λ err. MemNotTook err old new)

abbrev pub MemTakesWaiting : Result (Option Event) LinkErr → MemLinkHeld → MemLinkHeld → Type 0
MemTakesWaiting result old new =
    MatchResult result (λ event. MemTookIfWaiting event old new) (λ err. MemNotTook err old new)

abbrev pub MemSends : Result (Unit {0}) Failed → Sent → ℕ → ℕ → MemLinkHeld → MemLinkHeld → Type 0
MemSends result item moment len old new =
    MatchResult result (λ _. MemSent item moment len old new) (λ _. MemNotSent len old new)

-- a link that has just been made
abbrev pub new_link : List Event → ℕ → ℕ → List ℕ → MemLinkHeld
new_link events items octets fails = record {
  left = events;
  outbox = empty_outbox items octets;
  calls = record { listed = fails; made = 0 };
  together = 0;
  waiting = 0;
  missed = 0;
  longest = 0;
  faults = 0;
  unsent = 0;
}

-- a source in memory
pub record MemSourceHeld : Type 0 where
  pub left : List ℕ
  pub calls : CallsHeld
  pub faults : ℕ
  pub ends : ℕ

abbrev pub source_seen : MemSourceHeld → SourceSeen
source_seen m =
    record {
      left = λ bytes. bytes ≡ m.left;
      up = Unit {0};
      faults = m.faults;
      calls = m.calls.made;
      ends = m.ends;
    }

-- what is seen of a source in memory is all that it holds
pub record SourceTells (m : MemSourceHeld) (seen : SourceSeen) : Type 0 where
  pub left : seen.left m.left
  pub up : seen.up
  pub faults : seen.faults ≡ m.faults
  pub calls : seen.calls ≡ m.calls.made
  pub ends : seen.ends ≡ m.ends

-- `read` fills `out` as far as there are bytes, exactly where the call isn't listed
pub record MemGave (n : ℕ) (before after : List ℕ) (old new : MemSourceHeld) : Type 0 where
  pub unlisted : ¬ (IsToFail old.calls)
  pub count : n ≡ min (length before) (length old.left)
  pub filled : after ≡ take n old.left ++ drop n before
  pub after_it : new ≡ record old {
    left = drop n old.left;
    calls = one_called old.calls;
    ends = ends_after n (length before) old.ends;
  }

pub record MemNotGiven (before after : List ℕ) (old new : MemSourceHeld) : Type 0 where
  pub listed : IsToFail old.calls
  pub same : after ≡ before
  pub fits : old.faults ≤ most_count
  pub after_it : new ≡ record old { calls = one_called old.calls; faults = one_more old.faults }

-- what `read` of a source in memory does, by the answer
abbrev pub MemDraws : Result ℕ Failed → List ℕ → List ℕ → MemSourceHeld → MemSourceHeld → Type 0
MemDraws result before after old new =
    MatchResult result (λ n. MemGave n before after old new) (λ _. MemNotGiven before after old new)

abbrev pub new_source : List ℕ → List ℕ → MemSourceHeld
new_source bytes fails =
    record { left = bytes; calls = record { listed = fails; made = 0 }; faults = 0; ends = 0 }

-- a sink in memory
pub record MemSinkHeld : Type 0 where
  pub written : List ℕ
  pub room : ℕ
  pub calls : CallsHeld
  pub faults : ℕ

abbrev pub sink_seen : MemSinkHeld → SinkSeen
sink_seen m =
    record {
      written = λ bytes. bytes ≡ m.written;
      up = Unit {0};
      faults = m.faults;
      calls = m.calls.made;
    }

-- what is seen of a sink in memory is all that it holds
pub record SinkTells (m : MemSinkHeld) (seen : SinkSeen) : Type 0 where
  pub written : seen.written m.written
  pub up : seen.up
  pub faults : seen.faults ≡ m.faults
  pub calls : seen.calls ≡ m.calls.made

-- `write` takes the whole piece exactly where the call isn't listed and there is room
pub record MemWrote (piece : List ℕ) (old new : MemSinkHeld) : Type 0 where
  pub unlisted : ¬ (IsToFail old.calls)
  pub room : length piece ≤ old.room
  pub after : new ≡ record {
    written = old.written ++ piece;
    room = old.room - length piece;
    calls = one_called old.calls;
    faults = old.faults;
  }

-- a listed call writes nothing
pub record MemFailed (old new : MemSinkHeld) : Type 0 where
  pub listed : IsToFail old.calls
  pub after : new ≡ record old { calls = one_called old.calls; faults = one_more old.faults }

-- one that lacks room fills the room that is left
pub record MemFilled (piece : List ℕ) (old new : MemSinkHeld) : Type 0 where
  pub unlisted : ¬ (IsToFail old.calls)
  pub short : old.room < length piece
  pub after : new ≡ record {
    written = old.written ++ take old.room piece;
    room = 0;
    calls = one_called old.calls;
    faults = one_more old.faults;
  }

abbrev pub MemNotWritten : List ℕ → MemSinkHeld → MemSinkHeld → Type 0
MemNotWritten piece old new = MemFailed old new ⊎ MemFilled piece old new

-- what `write` of a sink in memory does, by the answer
abbrev pub MemAppends : Result (Unit {0}) Failed → List ℕ → MemSinkHeld → MemSinkHeld → Type 0
MemAppends result piece old new =
    MatchResult result (λ _. MemWrote piece old new) (λ _. MemNotWritten piece old new)

abbrev pub new_sink : ℕ → List ℕ → MemSinkHeld
new_sink room fails =
    record { written = []; room = room; calls = record { listed = fails; made = 0 }; faults = 0 }
