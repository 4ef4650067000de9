-- What a job reads of its source: all bytes to the end, or one over the limit, which is `most`
-- bytes.
use Rattle.std.specs.Prelude.{◌≡◌, ℕ, ◌+◌, ◌<◌, ◌≤◌, List, [], ◌++◌, length, ◌⊎◌, Result, Ok, Err}
use Rattle.off_defs.specs.Told.{Told}
use Rattle.off_defs.specs.Counts.{Grew, one_more}
use Rattle.off_outside.specs.Streams.{SourceSeen, NotGiven, ends_after}
use Rattle.off_jobs.specs.declared.input.InputErr.{InputErr}
use Rattle.off_jobs.specs.declared.input.InputErr.TheVariants.{TooLong, Failed, Memory}

-- these bytes were taken, and no others, in so many reads at most
pub record Took (bytes : List ℕ) (reads : ℕ) (old new : SourceSeen) : Type 0 where
  pub left : Told old.left new.left (λ before after. before ≡ bytes ++ after)
  pub up : old.up → new.up
  pub faults : new.faults ≡ old.faults
  pub calls : new.calls ≤ old.calls + reads

-- all bytes of the source were taken, to its end: each read but the last gave one at least, and
-- nothing was read behind the end
pub record TookAll (most : ℕ) (bytes : List ℕ) (old new : SourceSeen) : Type 0 where
  pub short : length bytes ≤ most
  pub left : Told old.left new.left (λ before after. (before ≡ bytes) × (after ≡ []))
  pub took : Took bytes (length bytes + 1) old new
  pub ends : new.ends ≡ one_more old.ends

-- the source holds more than a job takes: one byte over it was taken
pub record TookTooMany (most : ℕ) (old new : SourceSeen) : Type 0 where
  pub bytes : List ℕ
  pub over : length bytes ≡ most + 1
  pub took : Took bytes (length bytes) old new
  pub ends : new.ends ≡ old.ends

-- memory was wanted for bytes that had come: each read gave one at least
pub record LackedMemory (most : ℕ) (old new : SourceSeen) : Type 0 where
  pub bytes : List ℕ
  pub few : length bytes ≤ most + 1
  pub took : Took bytes (length bytes) old new
  pub ends : new.ends ≡ old.ends

-- the source failed before its end, and counted it: each read but the last gave one at least
pub record SourceFailed (most : ℕ) (old new : SourceSeen) : Type 0 where
  pub bytes : List ℕ
  pub few : length bytes ≤ most
  pub left : Told old.left new.left (λ before after. before ≡ bytes ++ after)
  pub up : old.up → new.up ⊎ Grew 1 old.faults new.faults
  pub faults : Grew 1 old.faults new.faults
  pub calls : new.calls ≤ old.calls + length bytes + 1
  pub ends : new.ends ≡ old.ends

abbrev pub NoInput : ℕ → InputErr → SourceSeen → SourceSeen → Type 0
NoInput most TooLong old new = TookTooMany most old new
NoInput most Failed old new = SourceFailed most old new
NoInput most Memory old new = LackedMemory most old new

abbrev pub ReadsInput : ℕ → Result (List ℕ) InputErr → SourceSeen → SourceSeen → Type 0
ReadsInput most (Ok bytes) old new = TookAll most bytes old new
ReadsInput most (Err err) old new = NoInput most err old new

-- one piece more; none comes exactly at the end
pub record TookPiece (count room : ℕ) (bytes longer : List ℕ) (old new : SourceSeen) : Type 0
  where
    pub piece : List ℕ
    pub long : length piece ≡ count
    pub fits : count ≤ room
    pub joined : longer ≡ bytes ++ piece
    pub took : Took piece 1 old new
    pub end : count ≡ 0 → Told old.left new.left (λ before after. before ≡ [])
    pub ends : new.ends ≡ ends_after count room old.ends

-- a piece came, and memory was wanted to keep it
pub record LostPiece (room : ℕ) (old new : SourceSeen) : Type 0 where
  pub piece : List ℕ
  pub some : 0 < length piece
  pub fits : length piece ≤ room
  pub took : Took piece 1 old new
  pub ends : new.ends ≡ old.ends

-- no piece more
abbrev pub NoPiece : InputErr → ℕ → SourceSeen → SourceSeen → Type 0
NoPiece TooLong room old new = ⊥
NoPiece Failed room old new = NotGiven old new
NoPiece Memory room old new = LostPiece room old new
