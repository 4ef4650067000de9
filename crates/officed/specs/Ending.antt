-- How the program ends: as the top call says, or in one of main's own ways.
use Rattle.std.specs.Prelude.{ℕ, List, [], ◌∷◌, codes, MatchOption, if◌then◌else◌}
use Rattle.std.specs.Str.{bytes_eq}
use Rattle.off_outside.specs.LinkSeen.{LinkSeen}
use Rattle.off_outside.specs.KeeperSeen.{KeeperSeen}
use Rattle.off_outside.specs.Streams.{SourceSeen, SinkSeen}
use Rattle.off_book.specs.Words.{job_of}
use Rattle.off_serve.specs.Headline.{Outside, outside_of, RefusesAll, DoesJob}
use Rattle.officed.specs.declared.ended.Ended.{Ended}
use Rattle.officed.specs.declared.ended.Ended.TheVariants.{Ran, LogLost, NoMemory, NoSocket, NoStore}

-- the exit status
abbrev pub exit_status : Ended → ℕ
exit_status (Ran status) = status
exit_status LogLost = 4
exit_status NoMemory = 6
exit_status NoSocket = 10
exit_status NoStore = 11

-- the top call did what the words ask, or refused them, and answered this status
abbrev pub RunsAs : List (List ℕ) → ℕ → Outside → Outside → Type 0
RunsAs words status old new =
    MatchOption (job_of words) (RefusesAll old new status) (λ job. DoesJob job old new status)

-- it did so over a link and a sink of these kinds
abbrev pub RanOver : {L W : Type 0} → (L → LinkSeen) → (W → SinkSeen) → List (List ℕ) → ℕ
    → KeeperSeen → KeeperSeen → SourceSeen → SourceSeen → Type 0
RanOver {L} {W} link_seen sink_seen words status keeper keeper' source source' =
    (link : L) × (link' : L) × (sink : W) × (sink' : W)
    × RunsAs words status (outside_of (link_seen link) keeper source (sink_seen sink))
    (outside_of (link_seen link') keeper' source' (sink_seen sink'))

-- where the top call ended, its status is as P says
abbrev pub IfRan : Ended → (ℕ → Type 0) → Type 0
IfRan (Ran status) P = P status
IfRan LogLost P = Unit {0}
IfRan NoMemory P = Unit {0}
IfRan NoSocket P = Unit {0}
IfRan NoStore P = Unit {0}

-- how many items, and of how many bytes in all, are kept of what is sent: only a drill sends
abbrev pub room_for : List (List ℕ) → ℕ × ℕ
room_for [] = (0, 0)
room_for (command ∷ words) =
    if bytes_eq command (codes "drill") then (24000, 3200000) else (0, 0)
